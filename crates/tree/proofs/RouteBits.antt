-- A route's links and processors: what a link or a processor set adds to it, and what it leaves.
use Prim.Native.Nat.{ℕ, zero, suc, ◌*◌, ◌/◌, ◌%◌, ◌^◌, ◌<◌}
use mathlib.Core.Path.{◌≡◌, refl, sym, ap, subst, ◌∙◌}
use mathlib.Core.Logic.{◌⊎◌, inl, inr}
use mathlib.Core.Bool.{Bool, true, false, ◌||◌, or-true, or-false}
use native.Mathlib.Omega.{arith}
use native.Mathlib.Nat.{div-eq_of_lt}
use borrow.Author.Tests.{eqb-true, eq-eqb}
use lib.Bits.{bit_or, or_shr, or_zero_r}
use lib.Dec.{eqb, T}
use lib.Pow.{pow-lt}
use Rattle.packet.proofs.Small.{every₂, every, at₂}
use Rattle.steps.specs.Links.{has}
use Rattle.steps.proofs.Sets.{has_or}

-- ---- a link

same : Bool → Bool → Bool
same true b = b
same false true = false
same false false = true

alone : every₂ 6 6 (λ i j. same (has (2 ^ i) j) (eqb i j)) ≡ true
unfolding every₂ every same
alone = refl

same_is : (a b : Bool) → same a b ≡ true → a ≡ b
unfolding same
same_is true b e = sym e
same_is false true e = e
same_is false false e = refl

has_one : (i j : ℕ) → i < 6 → j < 6 → has (2 ^ i) j ≡ eqb i j
has_one i j hi hj = same_is (has (2 ^ i) j) (eqb i j) (at₂ 6 6 (λ i j. same (has (2 ^ i) j) (eqb i j)) alone i j hi hj)

pub bit_kept : (a b j : ℕ) → has a j ≡ true → has (bit_or a b) j ≡ true
bit_kept a b j e = has_or a b j ∙ ap (λ (x : Bool). x || has b j) e

pub bit_set : (a i : ℕ) → i < 6 → has (bit_or a (2 ^ i)) i ≡ true
bit_set a i h = has_or a (2 ^ i) i ∙ ap (λ (x : Bool). has a i || x) (has_one i i h h ∙ eq-eqb i i refl) ∙ or-true (has a i)

pub bit_of : (a i j : ℕ) → i < 6 → j < 6 → has (bit_or a (2 ^ i)) j ≡ true → (has a j ≡ true) ⊎ (j ≡ i)
bit_of a i j hi hj e = go (has a j) refl (sym (has_or a (2 ^ i) j ∙ ap (λ (x : Bool). has a j || x) (has_one i j hi hj)) ∙ e)
  where
    go : (b : Bool) → has a j ≡ b → (has a j || eqb i j) ≡ true → (has a j ≡ true) ⊎ (j ≡ i)
    go true h f = inl h
    go false h f = inr (sym (eqb-true i j (ap (λ (x : Bool). x || eqb i j) (sym h) ∙ f)))

-- no link is in a route that is empty
pub none_in : (j : ℕ) → j < 6 → has 0 j ≡ true → ⊥
none_in zero h e = subst T (sym e) tt
none_in (suc zero) h e = subst T (sym e) tt
none_in (suc (suc zero)) h e = subst T (sym e) tt
none_in (suc (suc (suc zero))) h e = subst T (sym e) tt
none_in (suc (suc (suc (suc zero)))) h e = subst T (sym e) tt
none_in (suc (suc (suc (suc (suc zero))))) h e = subst T (sym e) tt
none_in (suc (suc (suc (suc (suc (suc j)))))) h e = omega arith

-- ---- processors

no_link : (p j : ℕ) → j < 6 → has (p * 64) j ≡ false
no_link p zero h = let none : p * 64 / 1 % 2 ≡ 0 = omega arith in ap (λ (n : ℕ). eqb n 1) none
no_link p (suc zero) h = let none : p * 64 / 2 % 2 ≡ 0 = omega arith in ap (λ (n : ℕ). eqb n 1) none
no_link p (suc (suc zero)) h = let none : p * 64 / 4 % 2 ≡ 0 = omega arith in ap (λ (n : ℕ). eqb n 1) none
no_link p (suc (suc (suc zero))) h = let none : p * 64 / 8 % 2 ≡ 0 = omega arith in ap (λ (n : ℕ). eqb n 1) none
no_link p (suc (suc (suc (suc zero)))) h = let none : p * 64 / 16 % 2 ≡ 0 = omega arith in ap (λ (n : ℕ). eqb n 1) none
no_link p (suc (suc (suc (suc (suc zero))))) h = let none : p * 64 / 32 % 2 ≡ 0 = omega arith in ap (λ (n : ℕ). eqb n 1) none
no_link p (suc (suc (suc (suc (suc (suc j)))))) h = absurd (omega arith)

pub links_kept : (a p j : ℕ) → j < 6 → has (bit_or a (p * 64)) j ≡ has a j
links_kept a p j h = has_or a (p * 64) j ∙ ap (λ (x : Bool). has a j || x) (no_link p j h) ∙ or-false (has a j)

pub processors_kept : (a i : ℕ) → i < 6 → bit_or a (2 ^ i) / 64 ≡ a / 64
processors_kept a i h =
    let low : 2 ^ i < 64 = pow-lt {j = 6} h in
    or_shr a (2 ^ i) 6 ∙ ap (bit_or (a / 64)) (div-eq_of_lt low) ∙ or_zero_r (a / 64)

pub processors_more : (a p : ℕ) → bit_or a (p * 64) / 64 ≡ bit_or (a / 64) p
processors_more a p = or_shr a (p * 64) 6 ∙ ap (bit_or (a / 64)) (whole p)
  where
    whole : (p : ℕ) → p * 64 / 64 ≡ p
    whole p = omega arith
