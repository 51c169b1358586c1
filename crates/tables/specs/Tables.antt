-- The tables of one chip, as one record: its MC rows, three numbers a row, its P2P codes, and the one route of its fixed-route packets.
use Rattle.std.specs.Prelude.{ℕ, List}

pub record ChipTables : Type 0 where
  pub rows : List ℕ
  pub codes : List ℕ
  pub fixed : ℕ

-- As they are lent, a slice each, and the route.
abbrev pub chip_tables : List ℕ → List ℕ → ℕ → ChipTables
chip_tables rows codes fixed = record { rows = rows; codes = codes; fixed = fixed }
