-- The bytes that writing lays out begin with the record; and how long a record is.
use mathlib.Core.Path.{◌≡◌, refl, sym, ap, ◌∙◌, subst}
use mathlib.Core.Logic.{◌⊎◌, inl, inr}
use mathlib.Core.Bool.{true, false}
use mathlib.Core.List.{List, [], ◌∷◌, ◌++◌}
use Prim.Native.Nat.{ℕ, ◌+◌, ◌-◌, ◌/◌, ◌%◌, ◌≤◌, ◌<◌}
use native.Mathlib.Omega.{arith}
use lib.ListN.{length, get_or, take, drop}
use borrow.Author.Tests.{lt-ltb, le-ltb}
use Rattle.records.specs.declared.Call.{Call}
use Rattle.records.specs.Records.{record_of, keepable, written_of, written_on}
use Rattle.records.proofs.Keepables.{Kept, injection, round, change, read}

-- a call with its kind and packet written out
abbrev pub written : Call → ℕ → ℕ → List ℕ → Call
written c kind n b = record { kind = kind; chip = c.chip; link = c.link; up = c.up; length = n; bytes = b }

module _ (P : Call → Type 0) (c : Call) where
  -- what holds of a call so written holds of the call
  pub of_written : (kind n : ℕ) (b : List ℕ) → c.kind ≡ kind → c.length ≡ n → c.bytes ≡ b → P (written c kind n b) → P c
  of_written kind n b x y z p = subst P (λ i. record { kind = sym x i; chip = c.chip; link = c.link; up = c.up; length = sym y i; bytes = sym z i }) p

-- how long records are
abbrev Long : ℕ → Call → Type 0
Long n c = length (record_of c) ≡ n

pub long_injection : (c : Call) → c.kind ≡ 1 → (c.length ≡ 5) ⊎ (c.length ≡ 9) → length (record_of c) ≡ 6 + c.length
long_injection c k (inl e) = of_written (Long 11) c 1 5 c.bytes k e refl refl ∙ sym (ap (λ (n : ℕ). 6 + n) e)
long_injection c k (inr e) = of_written (Long 15) c 1 9 c.bytes k e refl refl ∙ sym (ap (λ (n : ℕ). 6 + n) e)

pub long_round : (c : Call) → c.kind ≡ 2 → length (record_of c) ≡ 4
long_round c k = of_written (Long 4) c 2 c.length c.bytes k refl refl refl

pub long_change : (c : Call) → c.kind ≡ 3 → length (record_of c) ≡ 8
long_change c k = of_written (Long 8) c 3 c.length c.bytes k refl refl refl

pub long_read : (c : Call) → c.kind ≡ 4 → length (record_of c) ≡ 6
long_read c k = of_written (Long 6) c 4 c.length c.bytes k refl refl refl

pub record_small : (c : Call) → Kept c → length (record_of c) ≤ 15
record_small c (injection k a b d (inl e)) = omega (arith, long_injection c k (inl e))
record_small c (injection k a b d (inr e)) = omega (arith, long_injection c k (inr e))
record_small c (round k a b d e) = omega (arith, long_round c k)
record_small c (change k a b d e) = omega (arith, long_change c k)
record_small c (read k a b d e) = omega (arith, long_read c k)

-- ---- the bytes laid out

-- a record with so many bytes behind it, link and state behind the chip
abbrev pub with_link : Call → List ℕ
with_link c =
    0 ∷ (length (record_of c) - 2) ∷ 1 ∷ c.kind ∷ c.chip / 256 ∷ c.chip % 256 ∷ c.link ∷ c.up ∷ 0 ∷ 0 ∷ 0 ∷ 0 ∷ 0 ∷ 0 ∷ 0 ∷ []

-- the same with the packet behind the chip
abbrev pub with_packet : Call → List ℕ
with_packet c =
    0 ∷ (length (record_of c) - 2) ∷ 1 ∷ c.kind ∷ c.chip / 256 ∷ c.chip % 256 ∷ get_or c.bytes 0 0 ∷ get_or c.bytes 1 0 ∷ get_or c.bytes 2 0 ∷ get_or c.bytes 3 0
    ∷ get_or c.bytes 4 0
    ∷ get_or c.bytes 5 0
    ∷ get_or c.bytes 6 0
    ∷ get_or c.bytes 7 0
    ∷ get_or c.bytes 8 0
    ∷ []

abbrev Begins : (Call → List ℕ) → Call → Type 0
Begins f c = take (length (record_of c)) (f c) ≡ record_of c

pub link_laid : (c : Call) → c.kind ≡ 3 → take (length (record_of c)) (with_link c) ≡ record_of c
link_laid c k = of_written (Begins with_link) c 3 c.length c.bytes k refl refl refl

pub packet_laid : (c : Call) → Kept c → (c.kind ≡ 3 → ⊥) → take (length (record_of c)) (with_packet c) ≡ record_of c
packet_laid c (injection k a b d (inl e)) other = of_written (Begins with_packet) c 1 5 c.bytes k e refl refl
packet_laid c (injection k a b d (inr e)) other = of_written (Begins with_packet) c 1 9 c.bytes k e refl refl
packet_laid c (round k a b d e) other = of_written (Begins with_packet) c 2 c.length c.bytes k refl refl refl
packet_laid c (change k a b d e) other = absurd (other k)
packet_laid c (read k a b d e) other = of_written (Begins with_packet) c 4 c.length c.bytes k refl refl refl

-- ---- what is answered

module _ (c : Call) (room : List ℕ) where
  pub not_kept : keepable c ≡ false → (record { refusal = 14; length = 0 } ≡ written_of (length room) c) × (room ≡ written_on c room)
  not_kept e = (simp e, simp e)

  pub no_room : keepable c ≡ true → length room < length (record_of c) → (record { refusal = 27; length = 0 } ≡ written_of (length room) c) × (room ≡ written_on c room)
  no_room e h = (simp (e, lt-ltb (length room) (length (record_of c)) h), simp (e, lt-ltb (length room) (length (record_of c)) h))

  pub kept_there : keepable c ≡ true → length (record_of c) ≤ length room → (b : List ℕ) → take (length (record_of c)) b ≡ record_of c
      → (record { refusal = 0; length = length (record_of c) } ≡ written_of (length room) c) × (take (length (record_of c)) b ++ drop (length (record_of c)) room ≡ written_on c room)
  kept_there k h b e =
      (simp (k, le-ltb (length room) (length (record_of c)) h), ap (λ (r : List ℕ). r ++ drop (length (record_of c)) room) e ∙ simp (k, le-ltb (length room) (length (record_of c)) h))
