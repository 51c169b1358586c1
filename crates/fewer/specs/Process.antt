-- Fewer rows, step by step: "A row that matches no key, or whose keys one earlier row matches all, goes; two neighbouring rows with equal mask and route, keys differing in a single
-- masked bit, become one without that bit in key and mask. Taking out comes before joining, the topmost first, until neither can be done."
use Rattle.std.specs.Prelude.{ℕ, zero, suc, ◌+◌, ◌-◌, Bool, cond, ◌&&◌, ◌||◌, not, List, [], ◌∷◌, ◌++◌, eqb, ltb, length, get_or, take, drop}
use Rattle.std.specs.Int.Bits.{bit_and, bit_xor}
use Rattle.std.specs.Int.Count.{ones}
use Rattle.lists.specs.Firsts.{first_below}
use Rattle.tables.specs.Rows.{Entry, blank_entry, matches, used}

-- A row, with the number that it first had.
pub record Numbered : Type 0 where
  pub entry : Entry
  pub number : ℕ

-- The rows that are left, topmost first, and the numbers of those that went, in the order in which they went.
pub record Process : Type 0 where
  pub left : List Numbered
  pub gone : List ℕ

unfoldable pub numbered : ℕ → List Entry → List Numbered
numbered n [] = []
numbered n (r ∷ rs) = record { entry = r; number = n } ∷ numbered (suc n) rs

unfoldable pub entries : List Numbered → List Entry
entries [] = []
entries (r ∷ rs) = r.entry ∷ entries rs

abbrev pub blank : Numbered
blank = record { entry = blank_entry; number = 0 }

abbrev pub row_at : List Numbered → ℕ → Entry
row_at rows i = (get_or rows i blank).entry

abbrev pub number_at : List Numbered → ℕ → ℕ
number_at rows i = (get_or rows i blank).number

-- ---- taking out

abbrev pub matches_some : Entry → Bool
matches_some r = used r.key r.mask

-- Every key that a row matches is matched by another: that one looks at no bit that the row leaves open, and matches the row's own key. Of rows that match some key this is exact:
-- the law `covers_exactly`.
abbrev pub covers : Entry → Entry → Bool
covers e r = eqb (bit_and e.mask r.mask) e.mask && matches r.key e.key e.mask

-- "... whose keys one earlier row matches all".
abbrev pub covered : List Numbered → ℕ → Bool
covered rows i = ltb (first_below (λ j. covers (row_at rows j) (row_at rows i)) i) i

abbrev pub goes : List Numbered → ℕ → Bool
goes rows i = not (matches_some (row_at rows i)) || covered rows i

abbrev pub without : List Numbered → ℕ → List Numbered
without rows i = take i rows ++ drop (i + 1) rows

-- ---- joining

-- "Two neighbouring rows with equal mask and route, keys differing in a single masked bit".
abbrev pub pair : Entry → Entry → Bool
pair a b =
    eqb a.mask b.mask && eqb a.route b.route && eqb (ones (bit_xor a.key b.key)) 1
    && eqb (bit_and (bit_xor a.key b.key) a.mask) (bit_xor a.key b.key)

abbrev pub joins : List Numbered → ℕ → Bool
joins rows i = pair (row_at rows i) (row_at rows (i + 1))

-- "... become one without that bit in key and mask".
abbrev pub joined : Entry → Entry → Entry
joined a b = record { key = bit_and a.key b.key; mask = bit_xor a.mask (bit_xor a.key b.key); route = a.route }

-- "The joined row keeps the upper's number."
abbrev pub with_pair : List Numbered → ℕ → List Numbered
with_pair rows i =
    take i rows ++ record { entry = joined (row_at rows i) (row_at rows (i + 1)); number = number_at rows i } ∷ drop (i + 2) rows

-- ---- the process

-- "It lists in order, by the number it first had, each row taken out and the lower of each pair".
abbrev pub taken_out : Process → ℕ → Process
taken_out p i = record { left = without p.left i; gone = p.gone ++ number_at p.left i ∷ [] }

abbrev pub made_one : Process → ℕ → Process
made_one p i = record { left = with_pair p.left i; gone = p.gone ++ number_at p.left (i + 1) ∷ [] }

-- The topmost row that goes; the upper row of the topmost pair. As many as there are rows, or pairs of neighbours, where there is none.
abbrev pub top_going : List Numbered → ℕ
top_going rows = first_below (goes rows) (length rows)

abbrev pub top_pair : List Numbered → ℕ
top_pair rows = first_below (joins rows) (length rows - 1)

abbrev pub join_step : Process → Process
join_step p = cond (ltb (top_pair p.left) (length p.left - 1)) (made_one p (top_pair p.left)) p

-- "Taking out comes before joining, the topmost first".
unfoldable pub step : Process → Process
step p = cond (ltb (top_going p.left) (length p.left)) (taken_out p (top_going p.left)) (join_step p)

unfoldable pub steps : ℕ → Process → Process
steps zero p = p
steps (suc k) p = steps k (step p)

-- "... until neither can be done": each step has one row less, so that as many steps as there are rows are enough (the law `at_rest`).
abbrev pub begun : List Entry → Process
begun rows = record { left = numbered 0 rows; gone = [] }

unfoldable pub ended : List Entry → Process
ended rows = steps (length rows) (begun rows)
