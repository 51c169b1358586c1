use mathlib.Core.Path.{◌≡◌}
use mathlib.Core.Bool.{true}
use Prim.Native.Nat.{ℕ, ◌<◌}
use Rattle.steps.specs.Links.{has}
use Rattle.router.proofs.ShownSoFar.{shown_but}
use Rattle.router.proofs.showing.packets_of.Given as goal

abbrev pub invariant-loop-rest : goal.invariant-loop-rest
invariant-loop-rest l = (l.rest < 64) × (((j : ℕ) → j < 6 → has l.rest j ≡ true → has l.o.sent j ≡ true) × (l.packets ≡ shown_but l.o l.rest))

abbrev pub decreases-loop-rest : goal.decreases-loop-rest
decreases-loop-rest l = l.rest
