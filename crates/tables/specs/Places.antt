-- The first place where lent tables are wrong, for each of the numbers 15 to 18: at which positions it is wrong, and the first of them.
use Rattle.std.specs.Prelude.{ℕ, ◌+◌, ◌-◌, ◌/◌, ◌%◌, ◌≤◌, ◌≡◌, Bool, cond, ◌&&◌, ◌||◌, not, List, eqb, ltb, length, get_or}
use Rattle.lists.specs.Firsts.{first_below, Exact}
use Rattle.tables.specs.Rows.{rows_of, route_at}
use Rattle.tables.specs.Accept.{route_fine, few_rows, starts_right, rows_few, routes_fine, fixed_fine}

-- 15, "bad starts": "0 if their number is wrong or the first is not 0; p if the start at p is below the one before it; the number of chips if the last is not the number of rows."
abbrev pub start_wrong : List ℕ → ℕ → ℕ → ℕ → Bool
start_wrong starts chips rows p =
    cond (eqb p 0) (not (eqb (length starts) (chips + 1) && eqb (get_or starts 0 0) 0))
    (ltb (get_or starts p 0) (get_or starts (p - 1) 0) || (eqb p chips && not (eqb (get_or starts chips 0) rows)))

abbrev pub starts_place : List ℕ → ℕ → ℕ → ℕ
starts_place starts chips rows = first_below (start_wrong starts chips rows) (chips + 1)

-- 16, "too many rows": "the lowest chip".
abbrev pub crowded : List ℕ → ℕ → Bool
crowded starts c = not (few_rows (get_or starts (c + 1) 0 - get_or starts c 0))

abbrev pub crowd_place : List ℕ → ℕ → ℕ
crowd_place starts chips = first_below (crowded starts) chips

-- 17, "a bad route bit": "the row's number in the slice that is lent, over all chips. Words past the last whole row are a row without a route: 17 at its number, after all whole rows".
abbrev pub row_wrong : List ℕ → ℕ → Bool
row_wrong s i = cond (eqb i (length s / 3)) (not (eqb (length s % 3) 0)) (not (route_fine (route_at (rows_of s) i)))

abbrev pub route_place : List ℕ → ℕ
route_place s = first_below (row_wrong s) (length s / 3 + 1)

-- 18, "a bad fixed route": "the lowest chip", "0 if their number is wrong".
abbrev pub fixed_wrong : List ℕ → ℕ → ℕ → Bool
fixed_wrong fixed chips c = cond (eqb (length fixed) chips) (not (route_fine (get_or fixed c 0))) (eqb c 0)

abbrev pub fixed_place : List ℕ → ℕ → ℕ
fixed_place fixed chips = first_below (fixed_wrong fixed chips) chips

-- ---- what is promised: "each with the first place where it holds", exact both ways

-- Where the starts are not right, their place is the first that is wrong; where they are, none is. The same of rows, routes and fixed routes.
pub record PlacesExact : Type 0 where
  pub starts : (starts : List ℕ) (chips rows : ℕ) → 1 ≤ chips → Exact (start_wrong starts chips rows) (chips + 1) (starts_right starts chips rows)
  pub crowd : (starts : List ℕ) (chips : ℕ) → length starts ≡ chips + 1 → Exact (crowded starts) chips (rows_few starts)
  pub routes : (s : List ℕ) → Exact (row_wrong s) (length s / 3 + 1) (routes_fine s)
  pub fixed : (fixed : List ℕ) (chips : ℕ) → 1 ≤ chips → Exact (fixed_wrong fixed chips) chips (fixed_fine fixed chips)
