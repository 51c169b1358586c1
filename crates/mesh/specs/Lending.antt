-- The tables of a whole mesh, as a call is lent them, and what of them is one chip's.
use Rattle.std.specs.Prelude.{ℕ, ◌+◌, ◌-◌, ◌*◌, List, get_or, take, drop}
use Rattle.tables.specs.Tables.{ChipTables, chip_tables}

-- "All rows of the mesh in one slice, a second slice giving where each chip's rows start ..., and the P2P codes chip after chip." "Each chip gets one route of 26 bits, lent
-- with the tables": the fixed routes, a number for each chip. The length of the room for groups that is lent beside them, 0 where none is: no pass looks at it.
pub record Tables : Type 0 where
  pub rows : List ℕ
  pub starts : List ℕ
  pub codes : List ℕ
  pub fixed : List ℕ
  pub room : ℕ

abbrev pub tables_of : List ℕ → List ℕ → List ℕ → List ℕ → ℕ → Tables
tables_of rows starts codes fixed room = record { rows = rows; starts = starts; codes = codes; fixed = fixed; room = room }

-- The same tables, with a room of so many words beside them.
abbrev pub with_room : Tables → ℕ → Tables
with_room t room = tables_of t.rows t.starts t.codes t.fixed room

abbrev pub rows_at : Tables → ℕ → List ℕ
rows_at t c = take ((get_or t.starts (c + 1) 0 - get_or t.starts c 0) * 3) (drop (get_or t.starts c 0 * 3) t.rows)

abbrev pub codes_at : Tables → ℕ → ℕ → List ℕ
codes_at t chips c = take chips (drop (c * chips) t.codes)

abbrev pub tables_at : Tables → ℕ → ℕ → ChipTables
tables_at t chips c = chip_tables (rows_at t c) (codes_at t chips c) (get_or t.fixed c 0)
