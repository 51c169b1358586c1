-- What a lab is promised of a lookup that skips.
use Rattle.std.specs.Prelude.{ℕ, ◌^◌, ◌<◌, ◌≡◌, List}
use Rattle.tables.specs.Rows.{Entry, first_match}
use Rattle.groups.specs.Groups.{top_of, group_of, first_in}

-- "Proved equal to the plain search, which stays, for every accepted table and every key": the group of the key's top byte finds the row that the whole table finds.
abbrev pub SameRow : Type 0
SameRow = (rows : List Entry) (key : ℕ) → key < 2 ^ 32 → first_in key rows (group_of rows (top_of key)) ≡ first_match key rows
