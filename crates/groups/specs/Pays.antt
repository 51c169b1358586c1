-- When groups pay: a rule of the team's, by the keys that are to be looked up and the table alone. Either search gives the same row, so that nothing but time depends on it.
-- Time is counted in half rows of a plain search, since a search that finds its row has looked at half of them.
use Rattle.std.specs.Prelude.{ℕ, zero, suc, ◌+◌, ◌-◌, ◌*◌, ◌/◌, Bool, not, ◌&&◌, ◌||◌, cond, List, ltb, leb, length, get_or}
use Rattle.tables.specs.Rows.{Entry, blank_entry}
use Rattle.groups.specs.Groups.{top_of, fixes_top, asked}

-- Whether asking is worth it, before a row is looked at: building takes 6 a row and 1,600 besides, and a lookup spares all rows but 40. 1,024 rows are a chip's most, and under 64 a plain
-- search is nearly as fast.
abbrev pub worth : ℕ → ℕ → Bool
worth packets rows = leb 64 rows && leb rows 1024 && ltb (rows * 6 + 1600) (packets * (rows - 40))

-- A row that goes into a group.
abbrev pub is_taken : List ℕ → Entry → Bool
is_taken marks r = not (fixes_top r) || asked marks (top_of r.key)

-- Of every thirteenth row, k of them, how many are taken.
unfoldable pub taken_of : List ℕ → List Entry → ℕ → ℕ
taken_of marks rows zero = 0
taken_of marks rows (suc k) = taken_of marks rows k + cond (is_taken marks (get_or rows (k * 13) blank_entry)) 1 0

abbrev pub taken : List ℕ → List Entry → ℕ
taken marks rows = taken_of marks rows (length rows / 13)

-- Each stands for 13: written, they take 104, and a lookup that finds them all in its own group spares 40 less.
abbrev pub pays : ℕ → List ℕ → List Entry → Bool
pays packets marks rows =
    ltb (length rows * 6 + taken marks rows * 104 + 1600) (packets * (length rows - (taken marks rows * 40 + 40)))
