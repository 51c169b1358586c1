-- `places::fixed_place` meets its contract. The loop's invariant: no chip before c has a wrong route.
use mathlib.Core.Path.{◌≡◌}
use mathlib.Core.Bool.{false}
use Prim.Native.Nat.{ℕ, ◌<◌}
use Rattle.tables.specs.Places.{fixed_wrong}
use Rattle.tables.proofs.places.fixed_place.Given as goal

abbrev pub invariant-loop-c : goal.invariant-loop-c
invariant-loop-c l = (j : ℕ) → j < l.c → fixed_wrong l.fixed l.chips j ≡ false
