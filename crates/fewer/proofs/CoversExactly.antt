-- "... whose keys one earlier row matches all": the test by masks is exact. The key that tells is the row's own with every bit set that the other looks at and the row leaves open.
use Prim.Native.Nat.{ℕ, ◌^◌, ◌<◌}
use mathlib.Core.Path.{◌≡◌, refl, sym, ap, ◌∙◌}
use mathlib.Core.Bool.{Bool, true, false, ◌&&◌, false≢true, true≢false}
use native.Mathlib.Nat.{lt_of_le_of_lt}
use lib.Bits.{bit_and, bit_xor, and_le_r, and_lt, xor_lt}
use borrow.Author.Tests.{eqb-true, eq-eqb}
use Rattle.tables.specs.Rows.{Entry, matches}
use Rattle.fewer.specs.Process.{covers, matches_some}
use Rattle.fewer.specs.Promises.{CoversExactly}
use Rattle.fewer.proofs.BitByBit.{bit, differs, and_bit, xor_bit, same_bits}
use Rattle.fewer.proofs.Covers.{covers_by, covered_matches}

-- at a bit: of the row's key k and mask m, and the other's mask n
open_bit : (k m n : Bool) → (k && m) ≡ k → (differs k (differs n (n && m)) && m) ≡ k
open_bit true true true h = refl
open_bit true true false h = refl
open_bit true false n h = absurd (false≢true h)
open_bit false true true h = refl
open_bit false true false h = refl
open_bit false false true h = refl
open_bit false false false h = refl

looked_at : (k m n : Bool) → (k && m) ≡ k → (differs k (differs n (n && m)) && n) ≡ (k && n) → (n && m) ≡ n
looked_at k m false h e = refl
looked_at k true true h e = refl
looked_at true false true h e = absurd (false≢true h)
looked_at false false true h e = absurd (true≢false e)

module _ (e r : Entry) (small : r.mask < 2 ^ 32) (other : e.mask < 2 ^ 32) (some : matches_some r ≡ true)
    (all : (key : ℕ) → key < 2 ^ 32 → matches key r.key r.mask ≡ true → matches key e.key e.mask ≡ true) where
  own : bit_and r.key r.mask ≡ r.key
  own = eqb-true _ _ some

  key_small : r.key < 2 ^ 32
  key_small = lt_of_le_of_lt (rw own at (and_le_r r.key r.mask)) small

  telling : ℕ
  telling = bit_xor r.key (bit_xor e.mask (bit_and e.mask r.mask))

  telling_small : telling < 2 ^ 32
  unfolding telling
  telling_small = xor_lt 32 _ _ key_small (xor_lt 32 _ _ other (and_lt 32 _ _ other small))

  telling_bit : (i : ℕ) → bit telling i ≡ differs (bit r.key i) (differs (bit e.mask i) (bit e.mask i && bit r.mask i))
  unfolding telling
  telling_bit i =
      xor_bit i r.key _ ∙ ap (differs (bit r.key i)) (xor_bit i e.mask _ ∙ ap (differs (bit e.mask i)) (and_bit i e.mask r.mask))

  own_bit : (i : ℕ) → (bit r.key i && bit r.mask i) ≡ bit r.key i
  own_bit i = sym (and_bit i r.key r.mask) ∙ ap (λ (x : ℕ). bit x i) own

  telling_matches : bit_and telling r.mask ≡ r.key
  telling_matches =
      same_bits _ _
      (λ i. and_bit i telling r.mask ∙ ap (λ (b : Bool). b && bit r.mask i) (telling_bit i) ∙ open_bit (bit r.key i) (bit r.mask i) (bit e.mask i) (own_bit i))

  -- both keys are the other's under its mask
  own_under : bit_and r.key e.mask ≡ e.key
  own_under = eqb-true _ _ (all r.key key_small some)

  alike : bit_and telling e.mask ≡ bit_and r.key e.mask
  alike = eqb-true _ _ (all telling telling_small (eq-eqb _ _ telling_matches)) ∙ sym own_under

  exact : covers e r ≡ true
  exact =
      covers_by e r
      (same_bits _ _
      (λ i. and_bit i e.mask r.mask
      ∙ looked_at (bit r.key i) (bit r.mask i) (bit e.mask i) (own_bit i)
      (ap (λ (b : Bool). b && bit e.mask i) (sym (telling_bit i)) ∙ sym (and_bit i telling e.mask) ∙ ap (λ (x : ℕ). bit x i) alike ∙ and_bit i r.key e.mask)))
      own_under

pub covers_exactly : CoversExactly
covers_exactly e r small other some = (covered_matches e r, exact e r small other some)
