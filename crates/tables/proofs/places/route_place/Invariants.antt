-- `places::route_place` meets its contract. The loop's invariant: no row before i has a route bit above 25.
use mathlib.Core.Path.{◌≡◌}
use mathlib.Core.Bool.{false}
use Prim.Native.Nat.{ℕ, ◌<◌}
use Rattle.tables.specs.Places.{row_wrong}
use Rattle.tables.proofs.places.route_place.Given as goal

abbrev pub invariant-loop-i : goal.invariant-loop-i
invariant-loop-i l = (j : ℕ) → j < l.i → row_wrong l.rows j ≡ false
