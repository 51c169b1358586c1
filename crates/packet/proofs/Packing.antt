-- Packing: the bytes of a word in the other order, and the bytes of fields in range, from their control byte and word.
use mathlib.Core.Path.{◌≡◌, sym}
use mathlib.Core.Bool.{true}
use Prim.Native.Nat.{ℕ, ◌+◌, ◌*◌, ◌/◌, ◌%◌, ◌<◌}
use native.Mathlib.Omega.{arith}
use Rattle.packet.specs.declared.Fields.{Fields}
use Rattle.packet.specs.Bytes.{packed_bytes}
use Rattle.packet.specs.Packing.{in_range, control_of, word_of, packet_of, packed_of}

-- a byte counts as it is
pub byte_is : (r b : ℕ) → r ≡ b → r < 256 → r ≡ b % 256
byte_is r b e h = omega arith

-- four digits below 256, the last one first
module _ (a b c d : ℕ) (ha : a < 256) (hb : b < 256) (hc : c < 256) where
  pub digit_0 : (d * 16777216 + c * 65536 + b * 256 + a) % 256 ≡ a
  digit_0 = omega arith

  pub digit_1 : (d * 16777216 + c * 65536 + b * 256 + a) / 256 % 256 ≡ b
  digit_1 = omega arith

  pub digit_2 : (d * 16777216 + c * 65536 + b * 256 + a) / 65536 % 256 ≡ c
  digit_2 = omega arith

  pub digit_3 : (d * 16777216 + c * 65536 + b * 256 + a) / 16777216 ≡ d
  digit_3 = omega arith

-- fields in range
module _ (f : Fields) (h : in_range f ≡ true) where
  pub packs : packed_of f ≡ packed_bytes (packet_of f)
  unfolding packed_of
  packs = simp h

  pub packs_as : (control word : ℕ) → control ≡ control_of f → word ≡ word_of f
      → packed_bytes (record { control = control; nine = f.nine; word = word; payload = f.payload }) ≡ packed_of f
  packs_as control word c w = simp (c, w) (sym packs)
