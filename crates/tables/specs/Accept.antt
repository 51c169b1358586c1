-- Which lent tables are acceptable, a definition for each refusal: "15 bad starts, 16 too many rows, 17 route bits", "a bad fixed route becomes 18", with a wrong number of them, and 11: "P2P table of
-- wrong size, or a code above 7".
use Rattle.std.specs.Prelude.{ℕ, ◌+◌, ◌-◌, ◌*◌, ◌/◌, ◌%◌, ◌^◌, ◌<◌, ◌≡◌, Bool, true, ◌&&◌, List, [], ◌∷◌, eqb, ltb, leb, length, get_or, drop}
use Rattle.std.specs.Int.Bits.{bit_and}
use Rattle.tables.specs.Rows.{Entry, rows_of}

-- "Route bits 0 to 5 are links, 6 to 25 are processors 0 to 19."
abbrev pub route_fine : ℕ → Bool
route_fine route = ltb route 67108864

unfoldable pub all_routes : List Entry → Bool
all_routes [] = true
all_routes (r ∷ rs) = route_fine r.route && all_routes rs

-- Numbers that are no whole number of rows are no rows.
abbrev pub routes_fine : List ℕ → Bool
routes_fine s = eqb (length s % 3) 0 && all_routes (rows_of s)

-- "Over 1,024 rows for a chip" are too many.
abbrev pub few_rows : ℕ → Bool
few_rows n = leb n 1024

-- One chip's rows.
abbrev pub rows_fine : List ℕ → Bool
rows_fine s = few_rows (length s / 3) && routes_fine s

-- The fixed routes of all chips: "each chip gets one route of 26 bits".
unfoldable pub all_fixed : List ℕ → Bool
all_fixed [] = true
all_fixed (r ∷ rs) = route_fine r && all_fixed rs

abbrev pub fixed_fine : List ℕ → ℕ → Bool
fixed_fine s n = eqb (length s) n && all_fixed s

unfoldable pub all_codes : List ℕ → Bool
all_codes [] = true
all_codes (c ∷ cs) = ltb c 8 && all_codes cs

abbrev pub codes_fine : List ℕ → ℕ → Bool
codes_fine s n = eqb (length s) n && all_codes s

-- In each of eight bytes, the bits above the lowest three: a code above 7 has one of them, and no other code has.
abbrev pub above_seven : ℕ
above_seven = 17940362863843014904

-- No rule of the model, but what the steps of that test promise each other: a number of n bytes that tells of n codes at once whether one is
-- above 7. Where in it each of them stands is not said.
abbrev pub SideBySide : ℕ → List ℕ → ℕ → ℕ → Type 0
SideBySide n codes i r = (r < 2 ^ (8 * n)) × (all_codes (drop i codes) ≡ (eqb (bit_and r above_seven) 0 && all_codes (drop (i + n) codes)))

-- "Where each chip's rows start": "first 0, never falling, last the number of rows, one more number than chips".
unfoldable pub never_falling : List ℕ → Bool
never_falling [] = true
never_falling (a ∷ []) = true
never_falling (a ∷ b ∷ rest) = leb a b && never_falling (b ∷ rest)

abbrev pub starts_right : List ℕ → ℕ → ℕ → Bool
starts_right starts chips rows = eqb (length starts) (chips + 1) && eqb (get_or starts 0 0) 0 && eqb (get_or starts chips 0) rows && never_falling starts

-- Few rows for each chip, from its start to the next.
unfoldable pub rows_few : List ℕ → Bool
rows_few [] = true
rows_few (a ∷ []) = true
rows_few (a ∷ b ∷ rest) = few_rows (b - a) && rows_few (b ∷ rest)

-- The starts that are accepted: right, and few rows for each chip.
abbrev pub starts_fine : List ℕ → ℕ → ℕ → Bool
starts_fine starts chips rows = starts_right starts chips rows && rows_few starts
