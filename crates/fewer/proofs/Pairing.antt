-- The topmost pair made one, by the rows alone: it is the process's next step, the joined row stays, and no row can go but by it.
use Prim.Native.Nat.{ℕ, suc, ◌+◌, ◌-◌, ◌≤◌, ◌<◌}
use mathlib.Core.Path.{◌≡◌, refl, sym, ap, ap₂, ◌∙◌, subst}
use mathlib.Core.Bool.{Bool, true, false, true≢false}
use mathlib.Core.List.{List}
use mathlib.Core.Logic.{◌⊎◌, ⊎_elim}
use native.Mathlib.Nat.{le_antisymm}
use native.Mathlib.Omega.{arith}
use lib.ListN.{length, get_or, take, drop, get_or-append}
use lib.Seq.{length-take-le, get_or-append-add, get_or_at, get_or-take, get_or-drop}
use Rattle.tables.specs.Rows.{Entry}
use Rattle.lists.proofs.Firsts.{lt_or_ge, first_is, first_none}
use Rattle.fewer.specs.Process.{Numbered, Process, blank, row_at, matches_some, covers, goes, pair, joins, joined, with_pair, made_one, top_going, top_pair, step}
use Rattle.fewer.specs.Hand.{Stays, AllStay, AllMatch, Walked, NoneJoin}
use Rattle.fewer.proofs.Covers.{covers_on}
use Rattle.fewer.proofs.Going.{stays}
use Rattle.fewer.proofs.Joined.{joined_some, covers_upper}
use Rattle.fewer.proofs.Steps.{step_pair, step_none, length_pair}
use Rattle.fewer.proofs.Walks.{stays_alike}

module _ (rows : List Numbered) (quiet : AllStay rows) where
  none_goes : top_going rows ≡ length rows
  none_goes = first_none (goes rows) (length rows) (λ j h. stays rows j (quiet j h))

  -- where no two neighbours make a pair, nothing is left to do
  pub nothing_left : (gone : List ℕ) → NoneJoin rows (length rows - 1) → step (record { left = rows; gone = gone }) ≡ record { left = rows; gone = gone }
  nothing_left gone apart =
      let none : top_pair rows ≡ length rows - 1 = first_none (joins rows) (length rows - 1) apart in
      step_none (record { left = rows; gone = gone }) (omega (arith, none_goes)) (omega arith)

  module _ (p : ℕ) (h : p + 1 < length rows) (is : joins rows p ≡ true) where
    pub pair_step : (gone : List ℕ) → NoneJoin rows p → step (record { left = rows; gone = gone }) ≡ made_one (record { left = rows; gone = gone }) p
    pair_step gone apart =
        let q : Process = record { left = rows; gone = gone } in
        let top : top_pair rows ≡ p = first_is (joins rows) (length rows - 1) p (omega arith) is apart in
        step_pair q (omega (arith, none_goes)) (omega arith) ∙ ap (made_one q) top

    -- ---- the rows once the pair is one

    abbrev one : Entry
    one = joined (row_at rows p) (row_at rows (p + 1))

    front : length (take p rows) ≡ p
    front = length-take-le p rows (omega arith)

    above_pair : (i : ℕ) → i < p → row_at (with_pair rows p) i ≡ row_at rows i
    above_pair i l = ap (λ (r : Numbered). r.entry) (get_or-append (take p rows) _ blank i (omega (arith, front)) ∙ get_or-take p rows i blank l)

    at_pair : row_at (with_pair rows p) p ≡ one
    at_pair = ap (λ (r : Numbered). r.entry) (get_or_at (take p rows) _ (drop (p + 2) rows) blank p front)

    below_pair : (i : ℕ) → p < i → row_at (with_pair rows p) i ≡ row_at rows (i + 1)
    below_pair i l =
        let e : i ≡ length (take p rows) + suc (i - (p + 1)) = omega (arith, front) in
        let f : p + 2 + (i - (p + 1)) ≡ i + 1 = omega arith in
        ap (λ (r : Numbered). r.entry)
        (ap (λ (n : ℕ). get_or (with_pair rows p) n blank) e
        ∙ get_or-append-add (take p rows) _ (suc (i - (p + 1))) blank
        ∙ get_or-drop (p + 2) rows (i - (p + 1)) blank
        ∙ ap (λ (n : ℕ). get_or rows n blank) f)

    some : matches_some (row_at rows p) ≡ true
    some = (quiet p (omega arith)).some

    other : matches_some (row_at rows (p + 1)) ≡ true
    other = (quiet (p + 1) h).some

    -- whoever covered the joined row would have covered the upper one
    uncovered : (j : ℕ) → j < p → covers (row_at rows j) one ≡ false
    uncovered j l = go (covers (row_at rows j) one) refl
      where
        go : (b : Bool) → covers (row_at rows j) one ≡ b → b ≡ false
        go false c = refl
        go true c =
            absurd
            (true≢false
            (sym (covers_on (row_at rows j) one (row_at rows p) c (covers_upper (row_at rows p) (row_at rows (p + 1)) is some other)) ∙ (quiet p (omega arith)).apart j l))

    one_stays : Stays (with_pair rows p) p
    one_stays =
        record {
          some = ap matches_some at_pair ∙ joined_some (row_at rows p) (row_at rows (p + 1)) is some other;
          apart = λ j l. ap₂ covers (above_pair j l) at_pair ∙ uncovered j l;
        }

    above : (i : ℕ) → i < p + 1 → Stays (with_pair rows p) i
    above i l =
        ⊎_elim (λ (a : i < p). stays_alike rows (with_pair rows p) i (λ j k. above_pair j (omega arith)) (quiet i (omega arith)))
        (λ (a : p ≤ i). subst (λ (n : ℕ). Stays (with_pair rows p) n) (le_antisymm a (omega arith)) one_stays)
        (lt_or_ge i p)

    only : (i j : ℕ) → i < j → p + 1 ≤ j → j < length (with_pair rows p) → (i < p) ⊎ (p + 1 ≤ i) → covers (row_at (with_pair rows p) i) (row_at (with_pair rows p) j) ≡ false
    only i j l k n past =
        let here : j + 1 < length rows = omega (arith, length_pair rows p h) in
        ⊎_elim (λ (a : i < p). ap₂ covers (above_pair i a) (below_pair j (omega arith)) ∙ (quiet (j + 1) here).apart i (omega arith))
        (λ (a : p + 1 ≤ i). ap₂ covers (below_pair i (omega arith)) (below_pair j (omega arith)) ∙ (quiet (j + 1) here).apart (i + 1) (omega arith))
        past

    pub walk_from_pair : Walked p (p + 1) (with_pair rows p) (p + 1)
    walk_from_pair = record { above = above; only = only }

    pub match_with_pair : AllMatch (with_pair rows p)
    match_with_pair i l =
        ⊎_elim (λ (a : i < p + 1). (above i a).some)
        (λ (a : p + 1 ≤ i). ap matches_some (below_pair i (omega arith)) ∙ (quiet (i + 1) (omega (arith, length_pair rows p h))).some)
        (lt_or_ge i (p + 1))

    -- ---- the neighbours above it, once the walk is over

    pub none_above : NoneJoin rows p → (after : List Numbered) → take (p + 1) after ≡ take (p + 1) (with_pair rows p) → NoneJoin after (p - 1)
    none_above apart after same i l = ap₂ pair (alike i (omega arith)) (alike (i + 1) (omega arith)) ∙ apart i (omega arith)
      where
        alike : (j : ℕ) → j < p → row_at after j ≡ row_at rows j
        alike j k =
            ap (λ (r : Numbered). r.entry)
            (sym (get_or-take (p + 1) after j blank (omega arith)) ∙ ap (λ (l : List Numbered). get_or l j blank) same ∙ get_or-take (p + 1) (with_pair rows p) j blank (omega arith))
            ∙ above_pair j k
