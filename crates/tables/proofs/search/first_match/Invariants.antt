-- `search::first_match` meets its contract. The invariants: from row four times j on, and then from row i on, the search finds
-- what it finds in the whole table.
--
use mathlib.Core.Path.{◌≡◌}
use Prim.Native.Nat.{◌*◌}
use Rattle.tables.specs.Rows.{rows_of, first_match, found_from}
use Rattle.tables.proofs.search.first_match.Given as goal

abbrev pub invariant-loop-j : goal.invariant-loop-j
invariant-loop-j l = first_match l.key (rows_of l.rows) ≡ found_from l.key l.rows (l.j * 4)

abbrev pub invariant-loop-i : goal.invariant-loop-i
invariant-loop-i l = first_match l.key (rows_of l.rows) ≡ found_from l.key l.rows l.i
