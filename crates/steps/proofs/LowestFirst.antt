-- A set of links gone through lowest first: which link is the lowest, and which are left without it.
use mathlib.Core.Path.{◌≡◌, refl, sym}
use mathlib.Core.Bool.{Bool, true, false, cond, ◌&&◌, ◌||◌, not, and-eq-true_iff}
use Prim.Native.Nat.{ℕ, ◌-◌, ◌<◌}
use lib.Bits.{bit_and}
use lib.Count.{count_trailing_zeros}
use lib.Dec.{eqb, ltb}
use borrow.Author.Tests.{ne_eqb, ltb-true}
use Rattle.packet.proofs.Small.{every, at}
use Rattle.steps.specs.Links.{has}

same : Bool → Bool → Bool
same a b = cond a b (not b)

same_true : (a b : Bool) → same a b ≡ true → a ≡ b
unfolding same
same_true true true e = refl
same_true true false e = sym e
same_true false true e = e
same_true false false e = refl

other_test : ℕ → ℕ → Bool
other_test n j = same (has (bit_and n (n - 1)) j) (has n j && not (eqb j (count_trailing_zeros 32 n)))

lowest_test : ℕ → Bool
lowest_test n = eqb n 0 || (ltb (count_trailing_zeros 32 n) 6 && has n (count_trailing_zeros 32 n) && ltb (bit_and n (n - 1)) n && every 6 (other_test n))

lowest_test_lem : (n : ℕ) → n < 64 → lowest_test n ≡ true
unfolding every lowest_test other_test same count_trailing_zeros
lowest_test_lem = at 64 lowest_test refl

pub record Lowest (n i r : ℕ) : Type 0 where
  pub below : i < 6
  pub there : has n i ≡ true
  pub less : r < n
  pub others : (j : ℕ) → j < 6 → has r j ≡ (has n j && not (eqb j i))

pub lowest_link : (n : ℕ) → n < 64 → (n ≡ 0 → ⊥) → Lowest n (count_trailing_zeros 32 n) (bit_and n (n - 1))
unfolding lowest_test other_test
lowest_link n h some =
    let t : _ = simp (ne_eqb n 0 some, and-eq-true_iff) at (lowest_test_lem n h) in
    record {
      below = ltb-true _ _ t.0.0.0;
      there = t.0.0.1;
      less = ltb-true _ _ t.0.1;
      others = λ j hj. same_true _ _ (at 6 (other_test n) t.1 j hj);
    }
