-- A walk down the rows, by the rows alone: a row that passes the test stays, and one that does not is the topmost that goes.
use Prim.Native.Nat.{ℕ, ◌+◌, ◌-◌, ◌≤◌, ◌<◌, min}
use mathlib.Core.Path.{◌≡◌, ap, ap₂, ◌∙◌, subst}
use mathlib.Core.Bool.{true, false}
use mathlib.Core.List.{List}
use mathlib.Core.Logic.{◌⊎◌, inl, inr, ⊎_elim}
use native.Mathlib.Nat.{le_antisymm}
use native.Mathlib.Omega.{arith}
use lib.ListN.{length, get_or, take, drop, get_or-append}
use lib.Seq.{length-take-le, get_or-append-add, get_or-take, get_or-drop}
use Rattle.lists.proofs.Firsts.{lt_or_ge, first_is}
use Rattle.fewer.specs.Process.{Numbered, Process, blank, row_at, matches_some, covers, goes, without, taken_out, top_going, step}
use Rattle.fewer.specs.Hand.{Stays, AllMatch, Walked, Tested}
use Rattle.fewer.proofs.Going.{stays, goes_unmatched, goes_covered}
use Rattle.fewer.proofs.Steps.{step_out, length_without}

-- ---- a row that stays does so by it and by those above it

pub stays_alike : (rows others : List Numbered) (i : ℕ) → ((j : ℕ) → j ≤ i → row_at others j ≡ row_at rows j) → Stays rows i → Stays others i
stays_alike rows others i same s =
    record { some = ap matches_some (same i (omega arith)) ∙ s.some; apart = λ j h. ap₂ covers (same j (omega arith)) (same i (omega arith)) ∙ s.apart j h }

-- ---- without a row

module _ (rows : List Numbered) (m : ℕ) (h : m < length rows) where
  above_without : (i : ℕ) → i < m → row_at (without rows m) i ≡ row_at rows i
  above_without i l =
      ap (λ (r : Numbered). r.entry)
      (get_or-append (take m rows) (drop (m + 1) rows) blank i (omega (arith, length-take-le m rows (omega arith))) ∙ get_or-take m rows i blank l)

  below_without : (i : ℕ) → m ≤ i → row_at (without rows m) i ≡ row_at rows (i + 1)
  below_without i l =
      let long : length (take m rows) ≡ m = length-take-le m rows (omega arith) in
      let e : i ≡ length (take m rows) + (i - m) = omega arith in
      let f : m + 1 + (i - m) ≡ i + 1 = omega arith in
      ap (λ (r : Numbered). r.entry)
      (ap (λ (n : ℕ). get_or (without rows m) n blank) e
      ∙ get_or-append-add (take m rows) (drop (m + 1) rows) (i - m) blank
      ∙ get_or-drop (m + 1) rows (i - m) blank
      ∙ ap (λ (n : ℕ). get_or rows n blank) f)

  pub match_without : AllMatch rows → AllMatch (without rows m)
  match_without all i l =
      ⊎_elim (λ (a : i < m). ap matches_some (above_without i a) ∙ all i (omega arith))
      (λ (a : m ≤ i). ap matches_some (below_without i a) ∙ all (i + 1) (omega (arith, length_without rows m h)))
      (lt_or_ge i m)

-- ---- at the row that a walk has come to

module _ (lo hi : ℕ) (rows : List Numbered) (m : ℕ) (w : Walked lo hi rows m) (h : m < length rows) where
  pub walk_keeps : Tested rows (row_at rows m) lo (min hi m) true → Walked lo hi rows (m + 1)
  walk_keeps t = record { above = above; only = λ i j l k. w.only i j l (omega arith) }
    where
      apart : (j : ℕ) → j < m → covers (row_at rows j) (row_at rows m) ≡ false
      apart j l =
          ⊎_elim (λ (a : j < lo). w.only j m l (omega arith) h (inl a))
          (λ (a : lo ≤ j).
          ⊎_elim (λ (b : j < hi). t.1 j a (omega arith)) (λ (b : hi ≤ j). w.only j m l (omega arith) h (inr b)) (lt_or_ge j hi))
          (lt_or_ge j lo)

      above : (i : ℕ) → i < m + 1 → Stays rows i
      above i l =
          ⊎_elim (λ (a : i < m). w.above i a)
          (λ (a : m ≤ i). subst (λ (n : ℕ). Stays rows n) (le_antisymm a (omega arith)) (record { some = t.0; apart = apart }))
          (lt_or_ge i m)

  goes_there : Tested rows (row_at rows m) lo (min hi m) false → goes rows m ≡ true
  goes_there t =
      ⊎_elim (λ (n : matches_some (row_at rows m) ≡ false). goes_unmatched rows m n)
      (λ (c : (i : ℕ) × ((i < min hi m) × (covers (row_at rows i) (row_at rows m) ≡ true))). goes_covered rows m c.0 (omega (arith, c.1.0)) c.1.1) t

  pub walk_step : (gone : List ℕ) → Tested rows (row_at rows m) lo (min hi m) false
      → step (record { left = rows; gone = gone }) ≡ taken_out (record { left = rows; gone = gone }) m
  walk_step gone t =
      let p : Process = record { left = rows; gone = gone } in
      let top : top_going rows ≡ m = first_is (goes rows) (length rows) m h (goes_there t) (λ j l. stays rows j (w.above j l)) in
      step_out p (omega arith) ∙ ap (taken_out p) top

  pub walk_out : lo ≤ m → Walked lo hi (without rows m) m
  walk_out low =
      record {
        above = λ i l. stays_alike rows (without rows m) i (λ j k. above_without rows m h j (omega arith)) (w.above i l);
        only = only;
      }
    where
      only : (i j : ℕ) → i < j → m ≤ j → j < length (without rows m) → (i < lo) ⊎ (hi ≤ i) → covers (row_at (without rows m) i) (row_at (without rows m) j) ≡ false
      only i j l k n past =
          ⊎_elim
          (λ (a : i < m). ap₂ covers (above_without rows m h i a) (below_without rows m h j k) ∙ w.only i (j + 1) (omega arith) (omega arith) (omega (arith, length_without rows m h)) past)
          (λ (a : m ≤ i). ap₂ covers (below_without rows m h i a) (below_without rows m h j k)
          ∙ w.only (i + 1) (j + 1) (omega arith) (omega arith) (omega (arith, length_without rows m h)) (inr (⊎_elim (λ b. absurd (omega arith)) (λ b. omega arith) past)))
          (lt_or_ge i m)
