-- `tables::accept::starts_fine` meets its contract. The loop's invariant: the test of all the starts is what is found so far, joined with the
-- test of those from `i` on.
use mathlib.Core.Path.{◌≡◌}
use mathlib.Core.Bool.{◌&&◌}
use lib.Dec.{eqb}
use lib.ListN.{get_or, drop}
use Rattle.tables.proofs.Starts.{climbs}
use Rattle.tables.proofs.accept.starts_fine.Given as goal

abbrev pub invariant-loop-i : goal.invariant-loop-i
invariant-loop-i l = (eqb (get_or l.starts 0 0) 0 && climbs l.starts) ≡ (l.fine && climbs (drop l.i l.starts))
