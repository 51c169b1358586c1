-- The loop of `sum` goes through the nine chips: so far it has what `sum_of` says of those that it has passed.
use Rattle.std.proofs.Common.{◌≡◌}
use Rattle.blue_light.specs.Board.{sum_of}
use Rattle.blue_light.proofs.board.sum.Given as goal

abbrev pub invariant-loop-chip : goal.invariant-loop-chip
invariant-loop-chip l = l.all ≡ sum_of l.mesh l.counter l.chip
