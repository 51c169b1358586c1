use Rattle.std.proofs.Common.{◌≡◌, ◌-◌}
use Rattle.buffer.specs.Holding.{chips_fine}
use Rattle.buffer.proofs.holding.chips_fine.Given as goal

abbrev pub invariant-loop-i : goal.invariant-loop-i
invariant-loop-i l = chips_fine 0 l.count l.mesh ≡ chips_fine l.i (l.count - l.i) l.mesh
