-- A flood ends with fewer levels than there are chips: each level marks a chip at least, or it is the last that could.
use Prim.Native.Nat.{ℕ, zero, suc, ◌-◌, ◌≤◌, ◌<◌}
use mathlib.Core.Path.{◌≡◌, refl, sym, ◌∙◌}
use mathlib.Core.Bool.{Bool, true, false, ◌&&◌, not, and-eq-true_iff, true≢false}
use mathlib.Core.Logic.{◌⊎◌, inl, inr, ⊎_elim}
use native.Mathlib.Omega.{arith}
use borrow.Author.Tests.{eq-eqb, not-true, ltb-true}
use Rattle.tables.specs.Sizes.{size_fine}
use Rattle.lists.specs.Firsts.{first_below}
use Rattle.lists.proofs.Firsts.{lt_or_ge, first_holds, before_first}
use Rattle.mesh.specs.Mesh.{Mesh, many}
use Rattle.flood.specs.Ways.{within, fewest}
use Rattle.flood.proofs.Levels.{within_next, within_more, few_within, Still, still_on}
use Rattle.flood.proofs.Counting.{count_to, count_all, count_more}

module _ {A : Type 0} (m : Mesh A) (to : ℕ) (there : to < many m) (fine : size_fine m.width m.height ≡ true) where
  first_new : ℕ → ℕ
  first_new k = first_below (λ c. within m to (suc k) c && not (within m to k c)) (many m)

  -- a level is such, or counts one chip more
  still_or_more : (k : ℕ) → Still m to k ⊎ (suc (count_to (within m to k) (many m)) ≤ count_to (within m to (suc k)) (many m))
  unfolding first_new
  still_or_more k = ⊎_elim (λ (l : first_new k < many m). inr (more l)) (λ (l : many m ≤ first_new k). inl (none l)) (lt_or_ge (first_new k) (many m))
    where
      more : first_new k < many m → suc (count_to (within m to k) (many m)) ≤ count_to (within m to (suc k)) (many m)
      more l =
          let both = (and-eq-true_iff (within m to (suc k) (first_new k)) (not (within m to k (first_new k)))).0 (first_holds (λ c. within m to (suc k) c && not (within m to k c)) (many m) l) in
          count_more (within m to k) (within m to (suc k)) (λ c. within_next m to k c) (many m) (first_new k) l (not-true _ both.1) both.0

      none : many m ≤ first_new k → Still m to k
      none l c h = go (within m to (suc k) c) (within m to k c) (before_first (λ c. within m to (suc k) c && not (within m to k c)) (many m) c (omega arith)) (within_next m to k c)
        where
          go : (a b : Bool) → (a && not b) ≡ false → (b ≡ true → a ≡ true) → a ≡ b
          go true true e u = refl
          go true false e u = absurd (true≢false e)
          go false true e u = u refl
          go false false e u = refl

  -- after k levels one before was such, or k + 1 chips are within
  counts : (k : ℕ) → ((j : ℕ) × (j < k) × Still m to j) ⊎ (suc k ≤ count_to (within m to k) (many m))
  unfolding within
  counts zero = inr (omega (arith, count_more (λ c. false) (within m to 0) (λ c e. absurd (true≢false (sym e))) (many m) to there refl (eq-eqb to to refl)))
  counts (suc k) = go (counts k) (still_or_more k)
    where
      go : ((j : ℕ) × (j < k) × Still m to j) ⊎ (suc k ≤ count_to (within m to k) (many m))
          → Still m to k ⊎ (suc (count_to (within m to k) (many m)) ≤ count_to (within m to (suc k)) (many m))
          → ((j : ℕ) × (j < suc k) × Still m to j) ⊎ (suc (suc k) ≤ count_to (within m to (suc k)) (many m))
      go (inl s) d = inl (s.0, omega (arith, s.1), s.2)
      go (inr n) (inl s) = inl (k, omega arith, s)
      go (inr n) (inr l) = inr (omega arith)

  -- so whoever has a way has one of fewer links than there are chips
  pub all_levels : (k from : ℕ) → from < many m → within m to k from ≡ true → fewest m from to < many m
  all_levels k from h e =
      let p : suc (many m - 1) ≡ many m = omega arith in
      omega (arith, ltb-true (fewest m from to) (suc (many m - 1)) (few_within m to (many m - 1) from (omega arith) ∙ go (counts (many m - 1))))
    where
      go : ((j : ℕ) × (j < many m - 1) × Still m to j) ⊎ (suc (many m - 1) ≤ count_to (within m to (many m - 1)) (many m)) → within m to (many m - 1) from ≡ true
      go (inl s) =
          ⊎_elim (λ (l : k < s.0). within_more m to k (many m - 1) from (omega (arith, s.1)) e)
          (λ (l : s.0 ≤ k). within_more m to s.0 (many m - 1) from (omega (arith, s.1)) (sym (still_on m to fine s.0 s.2 k from l h) ∙ e))
          (lt_or_ge k s.0)
      go (inr n) = count_all (within m to (many m - 1)) (many m) (omega arith) from h
