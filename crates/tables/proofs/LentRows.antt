-- A table in row structs and the numbers that it has: how many, where a row's key and mask stand among them, how many rows, a row's route, and what a search through the structs finds.
use Rattle.std.proofs.Common.{◌≡◌, refl, sym, ap, ◌∙◌, ℕ, zero, suc, ◌+◌, ◌*◌, Bool, true, false, cond, arith, List, [], ◌∷◌, length, get_or, position, Option, Some}
use Rattle.std.specs.List.{position_from}
use Rattle.std.proofs.lemmas.Iterator.Adapters.{position_from-zero}
use Rattle.tables.specs.declared.Row.{Row}
use Rattle.tables.specs.Rows.{matches, rows_of, numbers_of, next, later, first_match, route_at, blank_row}
use Rattle.tables.proofs.RowByRow.{later_zero, later_next}

pub length_numbers : (rows : List Row) → length (numbers_of rows) ≡ length rows * 3
unfolding numbers_of
length_numbers [] = refl
length_numbers (r ∷ rows) = omega (arith, length_numbers rows)

pub key_at : (rows : List Row) (i : ℕ) → get_or (numbers_of rows) (i * 3) 0 ≡ (get_or rows i blank_row).key
unfolding numbers_of
key_at [] i = refl
key_at (r ∷ rows) zero = refl
key_at (r ∷ rows) (suc i) =
    let three : suc i * 3 ≡ suc (suc (suc (i * 3))) = omega arith in
    ap (λ (j : ℕ). get_or (numbers_of (r ∷ rows)) j 0) three ∙ key_at rows i

pub mask_at : (rows : List Row) (i : ℕ) → get_or (numbers_of rows) (i * 3 + 1) 0 ≡ (get_or rows i blank_row).mask
unfolding numbers_of
mask_at [] i = refl
mask_at (r ∷ rows) zero = refl
mask_at (r ∷ rows) (suc i) =
    let three : suc i * 3 + 1 ≡ suc (suc (suc (i * 3 + 1))) = omega arith in
    ap (λ (j : ℕ). get_or (numbers_of (r ∷ rows)) j 0) three ∙ mask_at rows i

pub length_rows : (rows : List Row) → length (rows_of (numbers_of rows)) ≡ length rows
unfolding rows_of numbers_of
length_rows [] = refl
length_rows (r ∷ rows) = ap suc (length_rows rows)

pub route_of_row : (rows : List Row) (i : ℕ) → route_at (rows_of (numbers_of rows)) i ≡ (get_or rows i blank_row).route
unfolding rows_of numbers_of
route_of_row [] i = refl
route_of_row (r ∷ rows) zero = refl
route_of_row (r ∷ rows) (suc i) = route_of_row rows i

-- a search through row structs in their order finds what the search through their numbers finds
from_found : (key : ℕ) (rows : List Row) (i : ℕ) → position_from (λ (r : Row). matches key r.key r.mask) i rows ≡ later i (first_match key (rows_of (numbers_of rows)))
unfolding rows_of numbers_of first_match
from_found key [] i = refl
from_found key (r ∷ rows) i = go (matches key r.key r.mask) (from_found key rows (i + 1))
  where
    test : Row → Bool
    test q = matches key q.key q.mask

    found : Option ℕ
    found = first_match key (rows_of (numbers_of rows))

    go : (b : Bool) → position_from test (i + 1) rows ≡ later (i + 1) found → cond b (Some i) (position_from test (i + 1) rows) ≡ later i (cond b (Some 0) (next found))
    go true e = let z : i ≡ i + 0 = omega arith in ap Some z
    go false e = e ∙ sym (later_next i found)

pub position_found : (key : ℕ) (rows : List Row) → position (λ (r : Row). matches key r.key r.mask) rows ≡ first_match key (rows_of (numbers_of rows))
position_found key rows = position_from-zero (λ (r : Row). matches key r.key r.mask) rows ∙ from_found key rows 0 ∙ later_zero (first_match key (rows_of (numbers_of rows)))
