-- No rule of the model, but what the steps of the code promise each other of the rows in hand: each with the number that it first had.
use Rattle.std.specs.Prelude.{ℕ, ◌-◌, ◌*◌, ◌≤◌, ◌<◌, min, ◌≡◌, Bool, true, false, List, [], ◌∷◌, ◌++◌, ◌⊎◌, length, get_or, take, drop}
use Rattle.tables.specs.Rows.{Entry}
use Rattle.std.specs.Borrow.{Bor}
use Rattle.std.specs.List.{list_any}
use Rattle.fewer.specs.declared.Held.{Held}
use Rattle.fewer.specs.declared.Pairs.{Pairs}
use Rattle.fewer.specs.declared.Walk.{Walk}
use Rattle.fewer.specs.Process.{Numbered, Process, blank, matches_some, covers, row_at, joined, joins, steps}
use Rattle.fewer.specs.Call.{words_of}

-- ---- rows in hand

abbrev pub numbered_of : Held → Numbered
numbered_of r = record { entry = record { key = r.key; mask = r.mask; route = r.route }; number = r.number }

unfoldable pub held_of : List Held → List Numbered
held_of [] = []
held_of (r ∷ rs) = numbered_of r ∷ held_of rs

-- The process with these rows left, the room for numbers being as long as there were rows: the others are listed.
abbrev pub with_left : List Numbered → List ℕ → Process
with_left rows gone = record { left = rows; gone = take (length gone - length rows) gone }

-- ---- the end of the process from here on

abbrev pub end_from : Process → Process
end_from p = steps (length p.left) p

-- The words are as many as they were, the process has come no other way, and the room past what is listed is as it was.
pub record Onward (held₀ : List Held) (gone₀ : List ℕ) (rows₀ : List Numbered) (held : List Held) (gone : List ℕ) (rows : List Numbered) : Type 0 where
  pub words : length held ≡ length held₀
  pub room : length gone ≡ length gone₀
  pub fewer : length rows ≤ length rows₀
  pub ends : end_from (with_left rows gone) ≡ end_from (with_left rows₀ gone₀)
  pub rest : drop (length gone - length rows) gone ≡ drop (length gone - length rows) gone₀

-- ---- what is known of the rows left

-- A row that does not go.
pub record Stays (rows : List Numbered) (i : ℕ) : Type 0 where
  pub some : matches_some (row_at rows i) ≡ true
  pub apart : (j : ℕ) → j < i → covers (row_at rows j) (row_at rows i) ≡ false

abbrev pub AllStay : List Numbered → Type 0
AllStay rows = (i : ℕ) → i < length rows → Stays rows i

-- Every row matches some key.
abbrev pub AllMatch : List Numbered → Type 0
AllMatch rows = (i : ℕ) → i < length rows → matches_some (row_at rows i) ≡ true

-- No row above the m-th goes; one from there on is covered by none but those from `lo` up to `hi`.
pub record Walked (lo hi : ℕ) (rows : List Numbered) (m : ℕ) : Type 0 where
  pub above : (i : ℕ) → i < m → Stays rows i
  pub only : (i j : ℕ) → i < j → m ≤ j → j < length rows → (i < lo) ⊎ (hi ≤ i) → covers (row_at rows i) (row_at rows j) ≡ false

-- No two neighbours above row n make a pair.
abbrev pub NoneJoin : List Numbered → ℕ → Type 0
NoneJoin rows n = (i : ℕ) → i < n → joins rows i ≡ false

-- ---- a walk down the rows in hand

-- Those that are kept, and those that it has not come to.
abbrev pub walk_rows : List Held → Walk → List Numbered
walk_rows held w = take w.kept (held_of held) ++ drop w.next (take w.count (held_of held))

pub record Walking (lo hi : ℕ) (held : List Held) (gone : List ℕ) (w : Walk) : Type 0 where
  pub behind : w.kept ≤ w.next
  pub within : w.next ≤ w.count
  pub listed : w.count ≤ length gone
  pub fits : w.count ≤ length held
  pub lower : lo ≤ w.kept
  pub walked : Walked lo hi (walk_rows held w) w.kept

-- What a test of a row tells, against those from `lo` up to `upto`.
abbrev pub Tested : List Numbered → Entry → ℕ → ℕ → Bool → Type 0
Tested rows r lo upto true = (matches_some r ≡ true) × ((i : ℕ) → lo ≤ i → i < upto → covers (row_at rows i) r ≡ false)
Tested rows r lo upto false = (matches_some r ≡ false) ⊎ ((i : ℕ) × ((i < upto) × (covers (row_at rows i) r ≡ true)))

-- Whether one of some rows covers a row.
abbrev pub some_covers : Entry → List Held → Bool
some_covers r held = list_any (λ (h : Held). covers (numbered_of h).entry r) held

-- What a search tells of the rows from `lo` up to `upto`: one above `upto` covers a row, or none of them does.
abbrev pub Covered : List Numbered → Entry → ℕ → ℕ → Bool → Type 0
Covered rows r lo upto true = (i : ℕ) × ((i < upto) × (covers (row_at rows i) r ≡ true))
Covered rows r lo upto false = (i : ℕ) → lo ≤ i → i < upto → covers (row_at rows i) r ≡ false

-- The walk has gone on: it keeps what it kept.
pub record WentOn (held₀ : List Held) (gone₀ : List ℕ) (w₀ : Walk) (held : List Held) (gone : List ℕ) (w : Walk) : Type 0 where
  pub onward : Onward held₀ gone₀ (walk_rows held₀ w₀) held gone (walk_rows held w)
  pub same : w.count ≡ w₀.count
  pub more : w₀.kept ≤ w.kept
  pub front : take w₀.kept (held_of held) ≡ take w₀.kept (held_of held₀)
  pub matching : AllMatch (walk_rows held₀ w₀) → AllMatch (walk_rows held w)

-- Past a row, by what a test of it told.
abbrev pub Passes : List Held → List ℕ → Walk → Numbered → Bool → List Held → List ℕ → Walk → Type 0
Passes held₀ gone₀ w₀ row told held gone w =
    (lo hi : ℕ) → Walking lo hi held₀ gone₀ w₀ → row ≡ get_or (held_of held₀) w₀.next blank → Tested (held_of held₀) row.entry lo (min hi w₀.kept) told
    → (Walking lo hi held gone w) × (WentOn held₀ gone₀ w₀ held gone w)

-- A test that may be asked of any row, of so many of the first rows in hand.
abbrev pub TakesRows : (Bor (List Held) → Held → ℕ → Type 0) → Type 0
TakesRows may = (held : Bor (List Held)) (row : Held) (upto : ℕ) → upto ≤ length held.now → may held row upto

-- A walk is begun, by a test that tells of each row that it comes to whether one of those from `lo` up to `hi` covers it.
pub record Begins (tells : Bor (List Held) → Held → ℕ → Bool → Type 0) (held₀ : List Held) (gone₀ : List ℕ) (w₀ : Walk) : Type 0 where
  pub lo : ℕ
  pub hi : ℕ
  pub walking : Walking lo hi held₀ gone₀ w₀
  pub tested : (held : Bor (List Held)) (gone : List ℕ) (w : Walk) (row : Held) (b : Bool) → Walking lo hi held.now gone w → WentOn held₀ gone₀ w₀ held.now gone w → w.next < w.count
      → numbered_of row ≡ get_or (held_of held.now) w.next blank → tells held row w.kept b → Tested (held_of held.now) (numbered_of row).entry lo (min hi w.kept) b

-- The walk is over: r rows are kept, and none of them goes.
pub record TookOut (held₀ : List Held) (gone₀ : List ℕ) (w₀ : Walk) (held : List Held) (gone : List ℕ) (r : ℕ) : Type 0 where
  pub onward : Onward held₀ gone₀ (walk_rows held₀ w₀) held gone (take r (held_of held))
  pub more : w₀.kept ≤ r
  pub most : r ≤ w₀.count
  pub front : take w₀.kept (held_of held) ≡ take w₀.kept (held_of held₀)
  pub quiet : AllStay (take r (held_of held))

-- ---- joining

-- Two rows made one, with the upper's number.
abbrev pub joined_of : Numbered → Numbered → Numbered
joined_of upper lower = record { entry = joined upper.entry lower.entry; number = upper.number }

-- None of the rows in hand goes, and no two neighbours above a place make a pair.
pub record AtPairs (held : List Held) (gone : List ℕ) (p : Pairs) : Type 0 where
  pub within : p.at ≤ p.rows
  pub listed : p.rows ≤ length gone
  pub fits : p.rows ≤ length held
  pub quiet : AllStay (take p.rows (held_of held))
  pub above : NoneJoin (take p.rows (held_of held)) p.at

-- Either the place is one further on, or two rows are one and the place is one back.
pub record WentPast (held₀ : List Held) (gone₀ : List ℕ) (p₀ : Pairs) (held : List Held) (gone : List ℕ) (p : Pairs) : Type 0 where
  pub onward : Onward held₀ gone₀ (take p₀.rows (held_of held₀)) held gone (take p.rows (held_of held))
  pub nearer : 2 * p.rows - p.at < 2 * p₀.rows - p₀.at

-- The end of the process.
pub record JoinedAll (held₀ : List Held) (gone₀ : List ℕ) (count : ℕ) (held : List Held) (gone : List ℕ) (r : ℕ) : Type 0 where
  pub onward : Onward held₀ gone₀ (take count (held_of held₀)) held gone (take r (held_of held))
  pub most : r ≤ count
  pub over : end_from (with_left (take r (held_of held)) gone) ≡ with_left (take r (held_of held)) gone

-- ---- what is written at the end

pub record Shortened (end : Process) (left₀ gone₀ left gone : List ℕ) (r : ℕ) : Type 0 where
  pub many : r ≡ length end.left
  pub words : left ≡ words_of end.left ++ drop (length (words_of end.left)) left₀
  pub numbers : gone ≡ end.gone ++ drop (length end.gone) gone₀
