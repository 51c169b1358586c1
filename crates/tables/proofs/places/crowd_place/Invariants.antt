-- `places::crowd_place` meets its contract. The loop's invariant: no chip before c has too many rows.
use mathlib.Core.Path.{◌≡◌}
use mathlib.Core.Bool.{false}
use Prim.Native.Nat.{ℕ, ◌<◌}
use Rattle.tables.specs.Places.{crowded}
use Rattle.tables.proofs.places.crowd_place.Given as goal

abbrev pub invariant-loop-c : goal.invariant-loop-c
invariant-loop-c l = (j : ℕ) → j < l.c → crowded l.starts j ≡ false
