-- Steps of the process: each lowers the rows left by one and lists one number, or nothing is left to do. So as many steps as there are rows reach the end, and a step
-- more from anywhere reaches the same.
use Prim.Native.Nat.{ℕ, zero, suc, ◌+◌, ◌-◌, ◌≤◌, ◌<◌}
use mathlib.Core.Path.{◌≡◌, refl, sym, ap, ◌∙◌, subst}
use mathlib.Core.Bool.{Bool, cond}
use mathlib.Core.List.{List, [], ◌∷◌, ◌++◌}
use mathlib.Core.Logic.{◌⊎◌, inl, inr, ⊎_elim}
use native.Mathlib.Nat.{le_antisymm}
use native.Mathlib.Omega.{arith}
use borrow.Author.Tests.{lt-ltb, le-ltb}
use lib.ListN.{length, length-append, length-take, length-drop}
use Rattle.lists.proofs.Firsts.{lt_or_ge, first_most}
use Rattle.fewer.specs.Process.{Numbered, Process, goes, joins, without, with_pair, taken_out, made_one, top_going, top_pair, join_step, step, steps}
use Rattle.fewer.specs.Hand.{end_from}

module _ (rows : List Numbered) (i : ℕ) where
  pub length_without : i < length rows → suc (length (without rows i)) ≡ length rows
  length_without h = simp (length-append, length-take, length-drop) (omega arith)

  pub length_pair : i + 1 < length rows → suc (length (with_pair rows i)) ≡ length rows
  length_pair h = simp (length-append, length-take, length-drop) (omega arith)

-- ---- a step, by what there is to do

module _ (p : Process) where
  pub step_out : top_going p.left < length p.left → step p ≡ taken_out p (top_going p.left)
  unfolding step
  step_out h = ap (λ (b : Bool). cond b (taken_out p (top_going p.left)) (join_step p)) (lt-ltb (top_going p.left) (length p.left) h)

  joining : length p.left ≤ top_going p.left → step p ≡ join_step p
  unfolding step
  joining h = ap (λ (b : Bool). cond b (taken_out p (top_going p.left)) (join_step p)) (le-ltb (top_going p.left) (length p.left) h)

  pub step_pair : length p.left ≤ top_going p.left → top_pair p.left < length p.left - 1 → step p ≡ made_one p (top_pair p.left)
  step_pair g h = joining g ∙ ap (λ (b : Bool). cond b (made_one p (top_pair p.left)) p) (lt-ltb (top_pair p.left) (length p.left - 1) h)

  pub step_none : length p.left ≤ top_going p.left → length p.left - 1 ≤ top_pair p.left → step p ≡ p
  step_none g h = joining g ∙ ap (λ (b : Bool). cond b (made_one p (top_pair p.left)) p) (le-ltb (top_pair p.left) (length p.left - 1) h)

  abbrev pub Resting : Type 0
  Resting = (top_going p.left ≡ length p.left) × (top_pair p.left ≡ length p.left - 1)

-- one row less, one number more
abbrev pub OneLess : Process → Process → Type 0
OneLess p q = (suc (length q.left) ≡ length p.left) × (length q.gone ≡ suc (length p.gone))

-- what holds of each way that a step can go holds of the step
module _ (P : Process → Type 0) (p : Process) where
  pub by_ways : (top_going p.left < length p.left → P (taken_out p (top_going p.left)))
      → (top_going p.left ≡ length p.left → top_pair p.left < length p.left - 1 → P (made_one p (top_pair p.left)))
      → (Resting p → P p) → P (step p)
  by_ways out pair none =
      ⊎_elim (λ (h : top_going p.left < length p.left). subst P (sym (step_out p h)) (out h))
      (λ (g : length p.left ≤ top_going p.left).
      let e : top_going p.left ≡ length p.left = le_antisymm (first_most (goes p.left) (length p.left)) g in
      ⊎_elim (λ (h : top_pair p.left < length p.left - 1). subst P (sym (step_pair p g h)) (pair e h))
      (λ (h : length p.left - 1 ≤ top_pair p.left).
      subst P (sym (step_none p g h)) (none (e, le_antisymm (first_most (joins p.left) (length p.left - 1)) h)))
      (lt_or_ge (top_pair p.left) (length p.left - 1)))
      (lt_or_ge (top_going p.left) (length p.left))

module _ (p : Process) where
  one_listed : (n : ℕ) → length (p.gone ++ n ∷ []) ≡ suc (length p.gone)
  one_listed n = simp length-append (omega arith)

  pub progress : OneLess p (step p) ⊎ ((step p ≡ p) × Resting p)
  progress =
      by_ways (λ (q : Process). OneLess p q ⊎ ((q ≡ p) × Resting p)) p
      (λ h. inl (length_without p.left _ h, one_listed _))
      (λ e h. inl (length_pair p.left (top_pair p.left) (omega arith), one_listed _))
      (λ r. inr (refl, r))

  -- a step more reaches the same end
  pub end_step : end_from (step p) ≡ end_from p
  unfolding steps
  end_step =
      ⊎_elim (λ (l : OneLess p (step p)). ap (λ (n : ℕ). steps n p) l.0) (λ (r : (step p ≡ p) × Resting p). ap end_from r.0) progress

  -- where nothing is left to do more steps change nothing
  pub steps_same : step p ≡ p → (n : ℕ) → steps n p ≡ p
  unfolding steps
  steps_same e zero = refl
  steps_same e (suc n) = ap (steps n) e ∙ steps_same e n

-- what each step keeps, all steps keep
pub steps_keep : (P : Process → Type 0) → ((p : Process) → P p → P (step p)) → (n : ℕ) (p : Process) → P p → P (steps n p)
unfolding steps
steps_keep P keep zero p h = h
steps_keep P keep (suc n) p h = steps_keep P keep n (step p) (keep p h)

pub rests_at_end : (n : ℕ) (p : Process) → length p.left ≡ n → Resting (steps n p)
unfolding steps
rests_at_end zero p e = (omega (arith, first_most (goes p.left) (length p.left)), omega (arith, first_most (joins p.left) (length p.left - 1)))
rests_at_end (suc n) p e =
    ⊎_elim (λ (l : OneLess p (step p)). rests_at_end n (step p) (omega arith))
    (λ (r : (step p ≡ p) × Resting p). subst Resting (sym (steps_same p r.0 (suc n))) r.1)
    (progress p)
