-- What searches of neighbouring rows tell is put together: a row is covered by one of both parts where it is by one of either.
use Prim.Native.Nat.{ℕ, ◌+◌, ◌≤◌}
use mathlib.Core.Path.{◌≡◌, sym, ap, ◌∙◌}
use mathlib.Core.Bool.{Bool, true, false, not, ◌||◌}
use mathlib.Core.List.{List}
use mathlib.Core.Logic.{⊎_elim, inr}
use Rattle.lists.proofs.Firsts.{lt_or_ge}
use native.Mathlib.Omega.{arith}
use lib.ListN.{get_or}
use Rattle.tables.specs.Rows.{Entry}
use Rattle.fewer.specs.Process.{Numbered, blank, matches_some, covers}
use Rattle.fewer.specs.Hand.{Covered, Tested}

module _ (rows : List Numbered) (r : Entry) where
  -- of one row, as it was read
  pub covered_at : (i high : ℕ) (row : Numbered) (b : Bool) → high ≡ i + 1 → row ≡ get_or rows i blank → b ≡ covers row.entry r → Covered rows r i high b
  covered_at i high row true next there told = (i, (omega arith, sym (ap (λ (n : Numbered). covers n.entry r) there) ∙ sym told))
  covered_at i high row false next there told =
      λ j from upto. let here : j ≡ i = omega arith in rw here (sym (ap (λ (n : Numbered). covers n.entry r) there) ∙ sym told)

  pub covered_wider : (lo mid low high : ℕ) → mid ≤ high → Covered rows r lo mid true → Covered rows r low high true
  covered_wider lo mid low high h (i, (less, e)) = (i, (omega arith, e))

  pub covered_both : (lo mid high : ℕ) (a b : Bool) → mid ≤ high → Covered rows r lo mid a → Covered rows r mid high b → Covered rows r lo high (a || b)
  covered_both lo mid high true b h (i, (less, e)) later = (i, (omega arith, e))
  covered_both lo mid high false true h none (i, (less, e)) = (i, (less, e))
  covered_both lo mid high false false h none later = λ i from upto. ⊎_elim (λ less. none i from less) (λ not-less. later i not-less upto) (lt_or_ge i mid)

  -- four rows, one after another
  pub covered_four : (i : ℕ) (a b c d : Bool) → Covered rows r i (i + 1) a → Covered rows r (i + 1) (i + 2) b → Covered rows r (i + 2) (i + 3) c → Covered rows r (i + 3) (i + 4) d → Covered rows r i (i + 4) (((a || b) || c) || d)
  covered_four i a b c d one two three four =
      let pair = covered_both i (i + 1) (i + 2) a b (omega arith) one two in
      let most = covered_both i (i + 2) (i + 3) (a || b) c (omega arith) pair three in
      covered_both i (i + 3) (i + 4) ((a || b) || c) d (omega arith) most four

  -- a row that matches some key stays where none covers it
  pub tested_by : (lo upto : ℕ) (b : Bool) → matches_some r ≡ true → Covered rows r lo upto b → Tested rows r lo upto (not b)
  tested_by lo upto true some by = inr by
  tested_by lo upto false some none = (some, none)
