-- A record of a kept trace, both ways: the bytes that keep a call, and the call that bytes keep.
use Rattle.std.specs.Prelude.{ℕ, ◌+◌, ◌*◌, ◌/◌, ◌%◌, ◌≤◌, Bool, cond, ◌&&◌, ◌||◌, not, List, [], ◌∷◌, ◌++◌, eqb, ltb, leb, length, get_or, take, drop}
use Rattle.packet.specs.Refusal.{Refusal, first_of, refuse}
use Rattle.records.specs.declared.Call.{Call}
use Rattle.records.specs.declared.Written.{Written}
use Rattle.records.specs.declared.Record.{Record}

-- "1 injection (chip two bytes, packet), 2 round, 3 link change (chip two bytes, link, up 1 or down 0), 4 read of error registers (chip two bytes)."
-- Another kind goes with the last; who asks has seen that there is none.
abbrev pub by_kind : {X : Type 0} → ℕ → X → X → X → X → X
by_kind kind injection round change read = cond (eqb kind 1) injection (cond (eqb kind 2) round (cond (eqb kind 3) change read))

-- "Only accepted calls are kept, so the bodies are 9 or 13, 2, 6 and 4 bytes long."
abbrev pub body_fits : ℕ → ℕ → Bool
body_fits kind n = by_kind kind (eqb n 9 || eqb n 13) (eqb n 2) (eqb n 6) (eqb kind 4 && eqb n 4)

-- ---- writing

-- The nine bytes that a call has for a packet, and as many of them as the packet has.
abbrev pub nine_of : List ℕ → List ℕ
nine_of b = get_or b 0 0 ∷ get_or b 1 0 ∷ get_or b 2 0 ∷ get_or b 3 0 ∷ get_or b 4 0 ∷ get_or b 5 0 ∷ get_or b 6 0 ∷ get_or b 7 0 ∷ get_or b 8 0 ∷ []

abbrev pub packet_of : Call → List ℕ
packet_of c = take c.length (nine_of c.bytes)

abbrev pub chip_bytes : Call → List ℕ
chip_bytes c = c.chip / 256 ∷ c.chip % 256 ∷ []

-- "A version byte 1 at the front of the body, then a kind byte": and what the kind has behind it.
abbrev pub body_of : Call → List ℕ
body_of c = 1 ∷ c.kind ∷ by_kind c.kind (chip_bytes c ++ packet_of c) [] (chip_bytes c ++ c.link ∷ c.up ∷ []) (chip_bytes c)

-- "A two-byte big-endian length of what follows".
abbrev pub record_of : Call → List ℕ
record_of c = length (body_of c) / 256 ∷ length (body_of c) % 256 ∷ body_of c

-- A byte at place k of the packet's nine: it is 0 where the packet is not as long.
abbrev pub zero_past : ℕ → List ℕ → ℕ → Bool
zero_past n bytes k = ltb k n || eqb (get_or bytes k 0) 0

abbrev pub zeros_past : ℕ → List ℕ → Bool
zeros_past n bytes =
    zero_past n bytes 0 && zero_past n bytes 1 && zero_past n bytes 2 && zero_past n bytes 3 && zero_past n bytes 4 && zero_past n bytes 5 && zero_past n bytes 6
    && zero_past n bytes 7
    && zero_past n bytes 8

-- Whether a record keeps the call as it is: a kind 1 to 4, each field in the range that the record has for it, and 0 where the kind lacks it.
abbrev pub fields_fit : Call → Bool
fields_fit c =
    by_kind c.kind (ltb c.chip 65536 && eqb c.link 0 && eqb c.up 0 && (eqb c.length 5 || eqb c.length 9))
    (eqb c.chip 0 && eqb c.link 0 && eqb c.up 0 && eqb c.length 0)
    (ltb c.chip 65536 && ltb c.link 256 && leb c.up 1 && eqb c.length 0)
    (eqb c.kind 4 && ltb c.chip 65536 && eqb c.link 0 && eqb c.up 0 && eqb c.length 0)

abbrev pub keepable : Call → Bool
keepable c = fields_fit c && zeros_past c.length c.bytes

-- "Writing gives 14, then 27 for no room."
abbrev pub write_refusals : ℕ → Call → List Refusal
write_refusals room c = refuse (not (keepable c)) 14 ∷ refuse (ltb room (length (record_of c))) 27 ∷ []

abbrev pub written_of : ℕ → Call → Written
written_of room c = let refusal = first_of (write_refusals room c) in record { refusal = refusal; length = cond (eqb refusal 0) (length (record_of c)) 0 }

-- The room after writing: "bytes past the record stay as they were", and all of them where it is refused.
abbrev pub written_on : Call → List ℕ → List ℕ
written_on c room = cond (eqb (first_of (write_refusals (length room) c)) 0) (record_of c ++ drop (length (record_of c)) room) room

-- ---- reading

abbrev pub body_length : List ℕ → ℕ
body_length s = get_or s 0 0 * 256 + get_or s 1 0

-- A record that is there as long as it says.
pub record Readable (s : List ℕ) : Type 0 where
  pub two : 2 ≤ length s
  pub whole : 2 + body_length s ≤ length s

-- 14: "kind, body length, or a link state above 1". A body of one byte has no kind, and fits none.
abbrev pub body_fine : List ℕ → Bool
body_fine s = body_fits (get_or s 3 0) (body_length s) && (not (eqb (get_or s 3 0) 3) || leb (get_or s 7 0) 1)

-- "12 record cut short, 13 version other than 1 or an empty body, 14 kind, body length, or a link state above 1, in that order".
abbrev pub read_refusals : List ℕ → List Refusal
read_refusals s =
    refuse (ltb (length s) 2 || ltb (length s) (2 + body_length s)) 12 ∷ refuse (eqb (body_length s) 0 || not (eqb (get_or s 2 0) 1)) 13
    ∷ refuse (not (body_fine s)) 14
    ∷ []

abbrev pub chip_at : List ℕ → ℕ
chip_at s = get_or s 4 0 * 256 + get_or s 5 0

abbrev pub five_at : List ℕ → List ℕ
five_at s = get_or s 6 0 ∷ get_or s 7 0 ∷ get_or s 8 0 ∷ get_or s 9 0 ∷ get_or s 10 0 ∷ 0 ∷ 0 ∷ 0 ∷ 0 ∷ []

abbrev pub nine_at : List ℕ → List ℕ
nine_at s =
    get_or s 6 0 ∷ get_or s 7 0 ∷ get_or s 8 0 ∷ get_or s 9 0 ∷ get_or s 10 0 ∷ get_or s 11 0 ∷ get_or s 12 0 ∷ get_or s 13 0 ∷ get_or s 14 0 ∷ []

abbrev pub call_of : ℕ → ℕ → ℕ → ℕ → Call
call_of kind chip link up = record { kind = kind; chip = chip; link = link; up = up; length = 0; bytes = 0 ∷ 0 ∷ 0 ∷ 0 ∷ 0 ∷ 0 ∷ 0 ∷ 0 ∷ 0 ∷ [] }

abbrev pub injection_at : List ℕ → Call
injection_at s =
    cond (eqb (body_length s) 13) (record { kind = 1; chip = chip_at s; link = 0; up = 0; length = 9; bytes = nine_at s })
    (record { kind = 1; chip = chip_at s; link = 0; up = 0; length = 5; bytes = five_at s })

abbrev pub call_at : List ℕ → Call
call_at s = by_kind (get_or s 3 0) (injection_at s) (call_of 2 0 0 0) (call_of 3 (chip_at s) (get_or s 6 0) (get_or s 7 0)) (call_of 4 (chip_at s) 0 0)

-- "A refusal returns its number and zeros elsewhere".
abbrev pub record_read : List ℕ → Record
record_read s =
    let refusal = first_of (read_refusals s) in
    cond (eqb refusal 0) (record { refusal = 0; length = 2 + body_length s; call = call_at s }) (record { refusal = refusal; length = 0; call = call_of 0 0 0 0 })
