-- The search, for every table and key: its number is that of the first row that matches, and it finds nothing only where no row matches. The search
-- through row structs says the same.
use Rattle.std.specs.Prelude.{ℕ, zero, suc, ◌%◌, ◌^◌, ◌<◌, ◌≤◌, ◌≡◌, refl, Bool, true, false, cond, List, [], ◌∷◌, length, get_or, Option, Some, None}
use Rattle.std.proofs.Common.{sym, arith, mod-eq_of_lt}
use Rattle.tables.specs.declared.Row.{Row}
use Rattle.tables.specs.declared.RowFound.{RowFound}
use Rattle.tables.specs.Shown.{Shown, found_shown, matched_shown}
use Rattle.tables.specs.Rows.{Entry, matches, rows_of, numbers_of, next, first_match, blank_entry, matched_of, route_for, row_found, found_in}
use Rattle.tables.proofs.LentRows.{length_rows, route_of_row}

-- whether row k of a table matches a key
abbrev pub matches_at : ℕ → List Entry → ℕ → Bool
matches_at key rows k = matches key (get_or rows k blank_entry).key (get_or rows k blank_entry).mask

pub record First (key : ℕ) (rows : List Entry) (n : ℕ) : Type 0 where
  pub there : n < length rows
  pub matching : matches_at key rows n ≡ true
  pub before : (k : ℕ) → k < n → matches_at key rows k ≡ false

-- what an answer of the search says: its number 1 that its value is the first matching row's, its number 0 that none matches
record Says (key : ℕ) (rows : List Entry) (a : Shown) : Type 0 where
  first : a.number ≡ 1 → First key rows a.value
  none : a.number ≡ 0 → (k : ℕ) → k < length rows → matches_at key rows k ≡ false

-- what a search of the other rows says, once the first does not match
further : (key : ℕ) (r : Entry) (rs : List Entry) → matches key r.key r.mask ≡ false → (f : Option ℕ) → Says key rs (found_shown f)
    → Says key (r ∷ rs) (found_shown (next f))
further key r rs no-match (Some n) s = record { first = λ e. record { there = omega (arith, (s.first refl).there); matching = (s.first refl).matching; before = go }; none = λ e. absurd (omega arith) }
  where
    go : (k : ℕ) → k < suc n → matches_at key (r ∷ rs) k ≡ false
    go zero h = no-match
    go (suc k) h = (s.first refl).before k (omega arith)
further key r rs no-match None s = record { first = λ e. absurd (omega arith); none = λ e. go }
  where
    go : (k : ℕ) → k < suc (length rs) → matches_at key (r ∷ rs) k ≡ false
    go zero h = no-match
    go (suc k) h = s.none refl k (omega arith)

search_says : (key : ℕ) (rows : List Entry) → Says key rows (found_shown (first_match key rows))
unfolding first_match
search_says key [] = record { first = λ e. absurd (omega arith); none = λ e k h. absurd (omega arith) }
search_says key (r ∷ rs) = go (matches key r.key r.mask) refl (search_says key rs)
  where
    go : (b : Bool) → matches key r.key r.mask ≡ b → Says key rs (found_shown (first_match key rs))
        → Says key (r ∷ rs) (found_shown (cond b (Some 0) (next (first_match key rs))))
    go true e s = record { first = λ z. record { there = omega arith; matching = e; before = λ k h. absurd (omega arith) }; none = λ z. absurd (omega arith) }
    go false e s = further key r rs e (first_match key rs) s

pub found_is_first : (key : ℕ) (rows : List Entry) → (found_shown (first_match key rows)).number ≡ 1 → First key rows (found_shown (first_match key rows)).value
found_is_first key rows = (search_says key rows).first

pub nothing_matches : (key : ℕ) (rows : List Entry) → (found_shown (first_match key rows)).number ≡ 0 → (k : ℕ) → k < length rows → matches_at key rows k ≡ false
nothing_matches key rows = (search_says key rows).none

-- What `find` answers, as the answer of a table to a key, and as that of a search.
abbrev pub route_shown : RowFound → Shown
route_shown r = record { number = r.found; value = r.route }

abbrev pub row_shown : RowFound → Shown
row_shown r = record { number = r.found; value = r.row }

-- The route is that of the search through the same table's numbers.
pub find_route : (key : ℕ) (rows : List Row) → route_shown (found_in key rows) ≡ matched_shown (route_for key (rows_of (numbers_of rows)))
find_route key rows = go (first_match key (rows_of (numbers_of rows)))
  where
    go : (f : Option ℕ) → route_shown (row_found f rows) ≡ matched_shown (matched_of (rows_of (numbers_of rows)) f)
    go (Some n) = λ i. record { number = 1; value = sym (route_of_row rows n) i }
    go None = refl

-- So is the row's number, in a table of up to 2^32 rows.
pub find_number : (key : ℕ) (rows : List Row) → length rows ≤ 2 ^ 32 → row_shown (found_in key rows) ≡ found_shown (first_match key (rows_of (numbers_of rows)))
find_number key rows fits = go (first_match key (rows_of (numbers_of rows))) (search_says key (rows_of (numbers_of rows)))
  where
    go : (f : Option ℕ) → Says key (rows_of (numbers_of rows)) (found_shown f) → row_shown (row_found f rows) ≡ found_shown f
    go (Some n) s =
        let own : n % 2 ^ 32 ≡ n = mod-eq_of_lt (omega (arith, (s.first refl).there, length_rows rows)) in
        λ i. record { number = 1; value = own i }
    go None s = refl
