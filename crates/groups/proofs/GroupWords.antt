-- The search through one group as it stands in the room: the numbers there are the group's, and what is left of them finds what the whole table finds.
use Prim.Native.Nat.{ℕ, suc, ◌+◌, ◌*◌, ◌-◌, ◌/◌, ◌^◌, ◌≤◌, ◌<◌}
use mathlib.Core.Path.{◌≡◌, sym, ap, ◌∙◌}
use mathlib.Core.Bool.{Bool, true, false}
use mathlib.Core.List.{List, ◌∷◌}
use native.Mathlib.Omega.{arith}
use native.Mathlib.Numerals.{add-one}
use lib.ListN.{length, get_or, take, drop, length-drop, drop_of_length-le}
use lib.Seq.{drop-cons, ext_get_or, get_or-take, get_or-drop, length-take-le}
use Rattle.std.specs.Prelude.{Some, None}
use Rattle.tables.specs.Rows.{Entry, matches, rows_of, first_match, blank_entry}
use Rattle.tables.proofs.RowsByNumber.{row_at, rows_many}
use Rattle.groups.specs.Groups.{top_of, group_of, first_in, GroupedFor}
use Rattle.groups.proofs.InOrder.{row_below, from_most}
use Rattle.groups.proofs.SameRow.{same_row}
use Rattle.groups.proofs.Blocks.{block_end}

-- the part of the room that a search goes through, by the number of the group
abbrev pub numbers : List ℕ → List ℕ → ℕ → List ℕ
numbers words room g =
    take (256 + g * (length words / 3) + get_or room g 0 - (257 + g * (length words / 3))) (drop (257 + g * (length words / 3)) room)

module _ (words room : List ℕ) (key g : ℕ) (top : g ≡ top_of key) (small : g < 256) (holds : GroupedFor (rows_of words) room key) where
  abbrev group : List ℕ
  group = group_of (rows_of words) (top_of key)

  begins : 257 + g * (length words / 3) ≡ 257 + top_of key * length (rows_of words)
  begins i = 257 + top i * sym (rows_many words) i

  word : get_or room g 0 ≡ suc (length group)
  word = ap (λ (j : ℕ). get_or room j 0) top ∙ holds.many

  -- the block lies in the room, and has room for every row
  pub block_within : (257 + g * (length words / 3) + length group ≤ length room) × (length group ≤ length words / 3)
  block_within =
      let top_small : top_of key < 256 = omega (arith, top) in
      let few : length group ≤ length (rows_of words) = from_most (top_of key) 0 (rows_of words) in
      (omega (arith, begins, holds.long, block_end (length (rows_of words)) (top_of key) 256 top_small, few), omega (arith, few, rows_many words))

  pub numbers_many : 256 + g * (length words / 3) + get_or room g 0 ≡ 257 + g * (length words / 3) + length group
  numbers_many = omega (arith, word)

  pub numbers_are : numbers words room g ≡ group
  numbers_are =
      let many : 256 + g * (length words / 3) + get_or room g 0 - (257 + g * (length words / 3)) ≡ length group = omega (arith, word) in
      let long : length (take (length group) (drop (257 + g * (length words / 3)) room)) ≡ length group =
      length-take-le (length group) (drop (257 + g * (length words / 3)) room) (omega (arith, length-drop (257 + g * (length words / 3)) room, block_within)) in
      ap (λ (n : ℕ). take n (drop (257 + g * (length words / 3)) room)) many
      ∙ ext_get_or 0 (take (length group) (drop (257 + g * (length words / 3)) room)) group long
      (λ k h.
      let here : k < length group = omega (arith, long) in
      get_or-take (length group) (drop (257 + g * (length words / 3)) room) k 0 here
      ∙ get_or-drop (257 + g * (length words / 3)) room k 0
      ∙ ap (λ (n : ℕ). get_or room (n + k) 0) begins
      ∙ holds.there k here)

  -- each of them is a row's
  pub number_row : (i : ℕ) → i < length (numbers words room g) → get_or (numbers words room g) i 0 * 3 + 2 < length words
  number_row i h =
      let here : i < length group = omega (arith, ap length numbers_are) in
      omega (arith, ap (λ (l : List ℕ). get_or l i 0) numbers_are, row_below (rows_of words) (top_of key) i here, rows_many words)

  pub search_begins : key < 2 ^ 32 → first_in key (rows_of words) (numbers words room g) ≡ first_match key (rows_of words)
  search_begins key_small = ap (first_in key (rows_of words)) numbers_are ∙ same_row (rows_of words) key key_small

-- ---- turn by turn, through any row numbers

module _ (words : List ℕ) (key : ℕ) (numbers : List ℕ) (i : ℕ) (within : i < length numbers) (row : get_or numbers i 0 * 3 + 2 < length words) where
  one_left : drop i numbers ≡ get_or numbers i 0 ∷ drop (i + 1) numbers
  one_left = drop-cons numbers i 0 within ∙ ap (λ (n : ℕ). get_or numbers i 0 ∷ drop n numbers) (sym (add-one i))

  by_row : (b : Bool) → b ≡ matches key (get_or words (get_or numbers i 0 * 3) 0) (get_or words (get_or numbers i 0 * 3 + 1) 0)
      → matches key (get_or (rows_of words) (get_or numbers i 0) blank_entry).key (get_or (rows_of words) (get_or numbers i 0) blank_entry).mask ≡ b
  by_row b m = ap (λ (r : Entry). matches key r.key r.mask) (row_at words (get_or numbers i 0) row) ∙ sym m

  pub found_here : true ≡ matches key (get_or words (get_or numbers i 0 * 3) 0) (get_or words (get_or numbers i 0 * 3 + 1) 0)
      → first_in key (rows_of words) (drop i numbers) ≡ Some (get_or numbers i 0)
  unfolding first_in
  found_here m = ap (first_in key (rows_of words)) one_left ∙ simp (by_row true m)

  pub search_on : false ≡ matches key (get_or words (get_or numbers i 0 * 3) 0) (get_or words (get_or numbers i 0 * 3 + 1) 0)
      → first_in key (rows_of words) (drop i numbers) ≡ first_in key (rows_of words) (drop (i + 1) numbers)
  unfolding first_in
  search_on m = ap (first_in key (rows_of words)) one_left ∙ simp (by_row false m)

pub search_ends : (rows : List Entry) (key : ℕ) (numbers : List ℕ) (i : ℕ) → length numbers ≤ i → first_in key rows (drop i numbers) ≡ None
unfolding first_in
search_ends rows key numbers i h = ap (first_in key rows) (drop_of_length-le numbers h)

-- ---- by the words of the room

-- where the numbers of a key's group begin
abbrev pub begin_of : List Entry → ℕ → ℕ
begin_of rows key = 257 + top_of key * length rows

module _ (words : List ℕ) (room : List ℕ) (key : ℕ) (holds : GroupedFor (rows_of words) room key) (small : top_of key < 256)
    (k : ℕ) (from : begin_of (rows_of words) key ≤ k) (within : k < begin_of (rows_of words) key + length (group_of (rows_of words) (top_of key)))
  where
    pub number_there : k < length room
    number_there = omega (arith, holds.long, block_end (length (rows_of words)) (top_of key) 256 small, from_most (top_of key) 0 (rows_of words))
