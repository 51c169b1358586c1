use Rattle.std.proofs.Common.{◌≡◌, drop}
use Rattle.tables.specs.Rows.{rows_of, first_match}
use Rattle.groups.specs.Groups.{first_in}
use Rattle.groups.proofs.searching.grouped_row.Given as goal

-- what is left of the group finds what the whole table finds
abbrev pub invariant-loop-row : goal.invariant-loop-row
invariant-loop-row l = first_in l.key (rows_of l.rows) (drop l.row-index l.row-items) ≡ first_match l.key (rows_of l.rows)
