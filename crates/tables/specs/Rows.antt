-- "An MC table is a run of rows, each with key, mask and route. ... A row matches when packet key AND mask equals the row key itself; the search
-- stops at the first row that matches."
use Rattle.std.specs.Prelude.{ℕ, suc, ◌+◌, ◌*◌, ◌%◌, ◌^◌, Bool, cond, List, [], ◌∷◌, eqb, get_or, drop, Option, Some, None}
use Rattle.std.specs.Int.Bits.{bit_and}
use Rattle.tables.specs.declared.Row.{Row}
use Rattle.tables.specs.declared.RowFound.{RowFound}
use Rattle.tables.specs.Shown.{found_shown}

pub record Entry : Type 0 where
  pub key : ℕ
  pub mask : ℕ
  pub route : ℕ

abbrev pub matches : ℕ → ℕ → ℕ → Bool
matches key row mask = eqb (bit_and key mask) row

-- Whether a row's key has no bit outside its mask. A board's unused rows, key all ones and mask 0, have all bits there.
abbrev pub used : ℕ → ℕ → Bool
used row mask = eqb (bit_and row mask) row

-- Three numbers a row.
unfoldable pub rows_of : List ℕ → List Entry
rows_of [] = []
rows_of (k ∷ []) = []
rows_of (k ∷ m ∷ []) = []
rows_of (k ∷ m ∷ r ∷ rest) = record { key = k; mask = m; route = r } ∷ rows_of rest

-- A table kept in row structs has the same numbers: key, mask and route of each row in turn.
unfoldable pub numbers_of : List Row → List ℕ
numbers_of [] = []
numbers_of (r ∷ rs) = r.key ∷ r.mask ∷ r.route ∷ numbers_of rs

-- One row further on.
abbrev pub next : Option ℕ → Option ℕ
next (Some n) = Some (suc n)
next None = None

unfoldable pub first_match : ℕ → List Entry → Option ℕ
first_match key [] = None
first_match key (r ∷ rs) = cond (matches key r.key r.mask) (Some 0) (next (first_match key rs))

-- What a search finds, i rows further on.
abbrev pub later : ℕ → Option ℕ → Option ℕ
later i (Some n) = Some (i + n)
later i None = None

-- What is found from row i of a table's numbers on.
abbrev pub found_from : ℕ → List ℕ → ℕ → Option ℕ
found_from key s i = later i (first_match key (rows_of (drop (i * 3) s)))

abbrev pub blank_entry : Entry
blank_entry = record { key = 0; mask = 0; route = 0 }

abbrev pub route_at : List Entry → ℕ → ℕ
route_at rows n = (get_or rows n blank_entry).route

-- What the table says of a key: the first matching row's route, or that no row matches.
abbrev pub matched_of : List Entry → Option ℕ → Option ℕ
matched_of rows f = cond (eqb (found_shown f).number 1) (Some (route_at rows (found_shown f).value)) None

abbrev pub route_for : ℕ → List Entry → Option ℕ
route_for key rows = matched_of rows (first_match key rows)

-- What stands past the end of a slice of row structs.
abbrev pub blank_row : Row
blank_row = record { key = 0; mask = 0; route = 0 }

-- What a search through row structs answers of what it finds. The number has 32 bits: it is the row's own in every table of up to 48 GiB.
abbrev pub row_found : Option ℕ → List Row → RowFound
row_found f rows =
    cond (eqb (found_shown f).number 1)
    (record { found = 1; row = (found_shown f).value % 2 ^ 32; route = (get_or rows (found_shown f).value blank_row).route })
    (record { found = 0; row = 0; route = 0 })

-- "One thin lookup over a lent slice of row structs."
abbrev pub found_in : ℕ → List Row → RowFound
found_in key rows = row_found (first_match key (rows_of (numbers_of rows))) rows
