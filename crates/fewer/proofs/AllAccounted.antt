-- Each number that a row first had is that of one row left or is listed once.
use Prim.Native.Nat.{ℕ, zero, suc, ◌+◌, ◌≤◌, ◌<◌}
use mathlib.Core.Path.{◌≡◌, refl, ap, ◌∙◌}
use mathlib.Core.Bool.{true, false}
use mathlib.Core.List.{List, [], ◌∷◌, ◌++◌}
use mathlib.Core.Logic.{⊎_elim}
use native.Mathlib.Omega.{arith}
use borrow.Author.Tests.{eq-eqb, ne_eqb}
use lib.Dec.{eqb}
use lib.ListN.{length, take, drop}
use Rattle.lists.specs.Lists.{total}
use Rattle.lists.proofs.Totals.{total_append}
use Rattle.lists.proofs.Firsts.{lt_or_ge}
use Rattle.tables.specs.Rows.{Entry}
use Rattle.fewer.specs.Process.{Numbered, Process, numbered, number_at, without, with_pair, begun, ended, step, top_going, top_pair}
use Rattle.fewer.specs.Promises.{AllAccounted, one_if, times_left, times_gone}
use Rattle.fewer.proofs.AtRest.{length_numbered}
use Rattle.fewer.proofs.Steps.{OneLess, Resting, by_ways, progress, steps_keep}

abbrev pub accounted : Process → ℕ
accounted p = length p.left + length p.gone

step_accounted : (p : Process) → accounted (step p) ≡ accounted p
step_accounted p =
    ⊎_elim (λ (l : OneLess p (step p)). omega (arith, l.0, l.1)) (λ (r : (step p ≡ p) × Resting p). ap accounted r.0) (progress p)

-- ---- what the numbers weigh, as a row goes or two become one

module _ (w : ℕ → ℕ) where
  abbrev weight : List Numbered → ℕ
  weight rows = total (λ (r : Numbered). w r.number) rows

  abbrev of_row : Numbered → ℕ
  of_row r = w r.number

  from_on : (rows : List Numbered) (i : ℕ) → i < length rows → w (number_at rows i) + weight (drop (suc i) rows) ≡ weight (drop i rows)
  unfolding total
  from_on [] i h = absurd (omega arith)
  from_on (r ∷ rows) zero h = refl
  from_on (r ∷ rows) (suc i) h = from_on rows i (omega arith)

  in_two : (rows : List Numbered) (i : ℕ) → weight (take i rows) + weight (drop i rows) ≡ weight rows
  unfolding total
  in_two rows zero = omega arith
  in_two [] (suc i) = refl
  in_two (r ∷ rows) (suc i) = omega (arith, in_two rows i)

  weight_without : (rows : List Numbered) (i : ℕ) → i < length rows → weight (without rows i) + w (number_at rows i) ≡ weight rows
  weight_without rows i h =
      let next : i + 1 ≡ suc i = omega arith in
      simp (next, total_append) (omega (arith, from_on rows i h, in_two rows i))

  weight_pair : (rows : List Numbered) (i : ℕ) → i + 1 < length rows → weight (with_pair rows i) + w (number_at rows (i + 1)) ≡ weight rows
  unfolding total
  weight_pair rows i h =
      let next : i + 1 ≡ suc i = omega arith in
      let last : i + 2 ≡ suc (suc i) = omega arith in
      simp (next, last, total_append) (omega (arith, from_on rows i (omega arith), from_on rows (suc i) (omega arith), in_two rows i))

-- ---- a step

abbrev times : ℕ → Process → ℕ
times n p = times_left n p + times_gone n p

one_more : (w : ℕ → ℕ) (gone : List ℕ) (m : ℕ) → total w (gone ++ m ∷ []) ≡ total w gone + w m
unfolding total
one_more w gone m = total_append w gone (m ∷ []) ∙ omega arith

step_times : (n : ℕ) (p : Process) → times n (step p) ≡ times n p
step_times n p =
    by_ways (λ (q : Process). times n q ≡ times n p) p
    (λ h. omega (arith, weight_without (one_if n) p.left (top_going p.left) h, one_more (one_if n) p.gone (number_at p.left (top_going p.left))))
    (λ e h. omega (arith, weight_pair (one_if n) p.left (top_pair p.left) (omega arith), one_more (one_if n) p.gone (number_at p.left (top_pair p.left + 1))))
    (λ r. refl)

-- ---- at the beginning

none_before : (n k : ℕ) (rows : List Entry) → n < k → total (λ (r : Numbered). one_if n r.number) (numbered k rows) ≡ 0
unfolding total numbered
none_before n k [] h = refl
none_before n k (r ∷ rows) h =
    let off : eqb k n ≡ false = ne_eqb k n (λ (e : k ≡ n). omega arith) in
    simp off (omega (arith, none_before n (suc k) rows (omega arith)))

once_there : (n k : ℕ) (rows : List Entry) → k ≤ n → n < k + length rows → total (λ (r : Numbered). one_if n r.number) (numbered k rows) ≡ 1
unfolding total numbered
once_there n k [] a b = absurd (omega arith)
once_there n k (r ∷ rows) a b =
    ⊎_elim (λ (h : k < n).
    let off : eqb k n ≡ false = ne_eqb k n (λ (e : k ≡ n). omega arith) in
    simp off (omega (arith, once_there n (suc k) rows (omega arith) (omega arith))))
    (λ (h : n ≤ k).
    let on : eqb k n ≡ true = eq-eqb k n (omega arith) in
    simp on (omega (arith, none_before n (suc k) rows (omega arith))))
    (lt_or_ge k n)

once_begun : (n : ℕ) (rows : List Entry) → n < length rows → times n (begun rows) ≡ 1
unfolding total
once_begun n rows h =
    let none : times_gone n (begun rows) ≡ 0 = refl in
    omega (arith, none, once_there n 0 rows (omega arith) (omega arith))

pub all_accounted : AllAccounted
unfolding ended
all_accounted rows = (
  λ n h. steps_keep (λ (p : Process). times n p ≡ 1) (λ p e. step_times n p ∙ e) (length rows) (begun rows) (once_begun n rows h),
  steps_keep (λ (p : Process). accounted p ≡ length rows) (λ p e. step_accounted p ∙ e) (length rows) (begun rows) (omega (arith, length_numbered 0 rows)),
)
