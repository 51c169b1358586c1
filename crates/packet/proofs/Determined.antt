-- Each public call's answer is determined by its inputs: two answers that meet its contract are equal.
use mathlib.Core.Path.{◌≡◌, sym, ◌∙◌}
use mathlib.Core.Bool.{Bool}
use mathlib.Core.List.{List}
use Rattle.std.specs.Prelude.{Result}
use Prim.Native.Nat.{ℕ}
use Rattle.packet.specs.declared.Fields.{Fields}
use Rattle.packet.specs.declared.Packet.{Packet}
use Rattle.packet.specs.declared.Packed.{Packed}
use Rattle.packet.specs.declared.FieldsRead.{FieldsRead}
use Rattle.packet.specs.declared.refused.Refused.{Refused}
use Rattle.packet.specs.Bytes.{as_taken, taken_of, packed_bytes}
use Rattle.packet.specs.Fields.{fields_of, read_of}
use Rattle.packet.specs.Packing.{packed_of}
use Rattle.packet.specs.Parity.{is_odd, with_mark, with_stamp}
use Rattle.packet.proofs.Numbers.{taken_alike}

-- a contract that is an equation leaves one answer
pub determined : {A : Type 0} {x : A} (r s : A) → r ≡ x → s ≡ x → r ≡ s
determined r s e f = e ∙ sym f

pub take_determined : (s : List ℕ) (a b : Result Packet Refused) → as_taken a ≡ taken_of s → as_taken b ≡ taken_of s → a ≡ b
take_determined s a b e f = taken_alike a b (e ∙ sym f)

pub bytes_of_determined : (p : Packet) (a b : Packed) → a ≡ packed_bytes p → b ≡ packed_bytes p → a ≡ b
bytes_of_determined p = determined

pub read_determined : (s : List ℕ) (a b : FieldsRead) → a ≡ read_of s → b ≡ read_of s → a ≡ b
read_determined s = determined

pub pack_determined : (f : Fields) (a b : Packed) → a ≡ packed_of f → b ≡ packed_of f → a ≡ b
pack_determined f = determined

pub fields_of_determined : (p : Packet) (a b : Fields) → a ≡ fields_of p → b ≡ fields_of p → a ≡ b
fields_of_determined p = determined

pub is_odd_determined : (p : Packet) (a b : Bool) → a ≡ is_odd p → b ≡ is_odd p → a ≡ b
is_odd_determined p = determined

pub with_mark_determined : (p : Packet) (m : ℕ) (a b : Packet) → a ≡ with_mark p m → b ≡ with_mark p m → a ≡ b
with_mark_determined p m = determined

pub with_stamp_determined : (p : Packet) (s : ℕ) (a b : Packet) → a ≡ with_stamp p s → b ≡ with_stamp p s → a ≡ b
with_stamp_determined p s = determined
