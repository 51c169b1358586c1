-- `accept::last_routes` meets its contract. The loop's invariant: what is joined and the rows from i on are fine where what was joined and the rows
-- past the last whole eight are.
use mathlib.Core.Path.{◌≡◌}
use mathlib.Core.Bool.{◌&&◌}
use Prim.Native.Nat.{◌*◌, ◌/◌}
use lib.Dec.{ltb}
use lib.ListN.{length, drop}
use Rattle.tables.specs.Rows.{rows_of}
use Rattle.tables.specs.Accept.{all_routes}
use Rattle.tables.proofs.accept.last_routes.Given as goal

abbrev pub invariant-loop-i : goal.invariant-loop-i
invariant-loop-i l = (ltb l.so_far 67108864 && all_routes (rows_of (drop (length l.rows / 3 / 8 * 8 * 3) l.rows))) ≡ (ltb l.joined 67108864 && all_routes (rows_of (drop (l.i * 3) l.rows)))
