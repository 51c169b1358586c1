-- `accept::routes_fine` meets its contract. The loop's invariant: the test of all rows is that of the two numbers joined so far, with that of the
-- rows from eight times i on.
use mathlib.Core.Path.{◌≡◌}
use mathlib.Core.Bool.{◌&&◌}
use Prim.Native.Nat.{◌*◌}
use lib.Dec.{ltb}
use lib.ListN.{drop}
use Rattle.tables.specs.Rows.{rows_of}
use Rattle.tables.specs.Accept.{all_routes}
use Rattle.tables.proofs.accept.routes_fine.Given as goal

abbrev pub invariant-loop-i : goal.invariant-loop-i
invariant-loop-i l = all_routes (rows_of l.rows) ≡ (ltb l.joined 67108864 && (ltb l.other 67108864 && all_routes (rows_of (drop (l.i * 8 * 3) l.rows))))
