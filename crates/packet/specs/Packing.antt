-- Packing: which fields are in range, and what the call answers.
use Rattle.std.specs.Prelude.{ℕ, ◌+◌, ◌*◌, [], ◌∷◌, Bool, cond, ◌&&◌, ◌||◌, eqb, ltb}
use Rattle.packet.specs.declared.Packet.{Packet}
use Rattle.packet.specs.declared.Fields.{Fields}
use Rattle.packet.specs.declared.Packed.{Packed}
use Rattle.packet.specs.Bytes.{packed_bytes}

-- "... a field that the type lacks and a payload that isn't there are in range only as 0 ..."
abbrev pub marked_in_range : Fields → Bool
marked_in_range f =
    ltb f.mark 4 && eqb f.sequence 0 && ltb f.stamp 4 && eqb f.direct 0 && eqb f.route 0 && eqb f.source 0
    && eqb f.destination 0

abbrev pub p2p_in_range : Fields → Bool
p2p_in_range f =
    eqb f.mark 0 && ltb f.sequence 4 && ltb f.stamp 4 && eqb f.direct 0 && eqb f.route 0 && eqb f.word 0
    && ltb f.source 65536
    && ltb f.destination 65536

abbrev pub nn_in_range : Fields → Bool
nn_in_range f =
    eqb f.mark 0 && eqb f.sequence 0 && eqb f.stamp 0 && ltb f.direct 2 && ltb f.route 8 && eqb f.source 0
    && eqb f.destination 0

-- Bits 1 and 0, and the payload, which every type has.
abbrev pub end_in_range : Fields → Bool
end_in_range f =
    ltb f.carries 2 && ltb f.parity 2 && ltb f.nine 2 && (eqb f.nine 1 || eqb f.payload 0)

-- "... above 3 is 6 ...": MC and fixed-route have the same fields.
abbrev pub in_range : Fields → Bool
in_range f =
    ltb f.kind 4 && end_in_range f
    && cond (eqb f.kind 1) (p2p_in_range f) (cond (eqb f.kind 2) (nn_in_range f) (marked_in_range f))

abbrev pub control_of : Fields → ℕ
control_of f =
    f.kind * 64
    + cond (eqb f.kind 1) (f.sequence * 16 + f.stamp * 4)
    (cond (eqb f.kind 2) (f.direct * 32 + f.route * 4) (f.mark * 16 + f.stamp * 4))
    + f.carries * 2
    + f.parity

abbrev pub word_of : Fields → ℕ
word_of f = cond (eqb f.kind 1) (f.source * 65536 + f.destination) f.word

abbrev pub packet_of : Fields → Packet
packet_of f = record { control = control_of f; nine = f.nine; word = word_of f; payload = f.payload }

abbrev pub not_packed : ℕ → Packed
not_packed n = record { refusal = n; length = 0; bytes = 0 ∷ 0 ∷ 0 ∷ 0 ∷ 0 ∷ 0 ∷ 0 ∷ 0 ∷ 0 ∷ [] }

-- Refusal 6, "a field out of range in packing".
unfoldable pub packed_of : Fields → Packed
packed_of f = cond (in_range f) (packed_bytes (packet_of f)) (not_packed 6)
