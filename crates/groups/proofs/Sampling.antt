-- Rows that go into a group, counted one by one; and when groups pay, by the tests that the code makes first.
use Prim.Native.Nat.{ℕ, zero, suc, ◌+◌, ◌*◌, ◌-◌, ◌/◌, ◌≤◌, ◌<◌}
use mathlib.Core.Path.{◌≡◌, refl, sym, ap, ◌∙◌}
use mathlib.Core.Bool.{Bool, true, false, not, cond, false≢true}
use mathlib.Core.Logic.{⊎_elim}
use mathlib.Core.List.{List}
use native.Mathlib.Omega.{arith}
use native.Mathlib.Nat.{mul-zero}
use native.Mathlib.Numerals.{add-one}
use borrow.Author.Tests.{le-ltb, le-leb, lt-leb}
use lib.Dec.{eqb, ltb}
use lib.ListN.{length, get_or}
use Rattle.lists.proofs.Firsts.{lt_or_ge}
use Rattle.tables.specs.Rows.{Entry, rows_of, blank_entry}
use Rattle.tables.proofs.RowsByNumber.{row_at, rows_many}
use Rattle.groups.specs.Groups.{top_of, fixes_top}
use Rattle.groups.specs.Pays.{worth, is_taken, taken_of, taken, pays}

module _ (marks : List ℕ) (rows : List Entry) where
  pub taken_none : taken_of marks rows 0 ≡ 0
  unfolding taken_of
  taken_none = refl

  pub taken_next : (k : ℕ) → taken_of marks rows (k + 1) ≡ taken_of marks rows k + cond (is_taken marks (get_or rows (k * 13) blank_entry)) 1 0
  unfolding taken_of
  taken_next k = ap (taken_of marks rows) (add-one k)

  pub taken_most : (k : ℕ) → taken_of marks rows k ≤ k
  unfolding taken_of
  taken_most zero = omega arith
  taken_most (suc k) = go (is_taken marks (get_or rows (k * 13) blank_entry)) (taken_most k)
    where
      go : (b : Bool) → taken_of marks rows k ≤ k → taken_of marks rows k + cond b 1 0 ≤ suc k
      go true h = omega arith
      go false h = omega arith

pub taken_few : (marks words : List ℕ) → length words / 3 ≤ 1024 → taken marks (rows_of words) ≤ 78
taken_few marks words h = omega (arith, taken_most marks (rows_of words) (length (rows_of words) / 13), rows_many words)

-- a row that fixes the top byte, by its group's mark
pub taken_by_mark : (words marks : List ℕ) (i top : ℕ) (none : Bool) → i * 3 + 2 < length words → fixes_top (get_or (rows_of words) i blank_entry) ≡ true
    → top ≡ top_of (get_or words (i * 3) 0) → eqb (get_or marks top 0) 0 ≡ none → is_taken marks (get_or (rows_of words) i blank_entry) ≡ not none
taken_by_mark words marks i top none here fixed e mark =
    let g : top_of (get_or (rows_of words) i blank_entry).key ≡ top = ap (λ (r : Entry). top_of r.key) (row_at words i here) ∙ sym e in
    simp fixed (ap (λ (k : ℕ). not (eqb (get_or marks k 0) 0)) g ∙ ap not mark)

-- ---- the rules, as the code asks for them

module _ (packets rows : ℕ) where
  pub too_few : rows < 64 → false ≡ worth packets rows
  too_few h = simp (lt-leb 64 rows h)

  pub too_many : 1024 < rows → false ≡ worth packets rows
  too_many h = simp (le-leb 64 rows (omega arith), lt-leb rows 1024 h)

  pub worth_few : worth packets rows ≡ true → rows ≤ 1024
  worth_few e = ⊎_elim (λ (l : 1024 < rows). absurd (false≢true (too_many l ∙ e))) (λ (l : rows ≤ 1024). l) (lt_or_ge 1024 rows)

  pub worth_between : 64 ≤ rows → rows ≤ 1024 → ltb (rows * 6 + 1600) (packets * (rows - 40)) ≡ worth packets rows
  worth_between some most = simp (le-leb 64 rows some, le-leb rows 1024 most)

module _ (packets : ℕ) (marks : List ℕ) (rows : List Entry) where
  pub none_spared : length rows ≤ taken marks rows * 40 + 40 → false ≡ pays packets marks rows
  none_spared h =
      let none : length rows - (taken marks rows * 40 + 40) ≡ 0 = omega arith in
      let product : packets * (length rows - (taken marks rows * 40 + 40)) ≡ 0 = ap (λ (n : ℕ). packets * n) none ∙ mul-zero packets in
      sym (le-ltb (length rows * 6 + taken marks rows * 104 + 1600) (packets * (length rows - (taken marks rows * 40 + 40))) (omega (arith, product)))
