-- `places::starts_place` meets its contract. The loop's invariant: no start up to that of chip c is below the one before it.
use Prim.Native.Nat.{◌+◌}
use Rattle.tables.proofs.StartsFound.{Unfallen}
use Rattle.tables.proofs.places.starts_place.Given as goal

abbrev pub invariant-loop-c : goal.invariant-loop-c
invariant-loop-c l = Unfallen l.starts l.chips (l.c + 1)
