use Rattle.lists.specs.Lists.{up_to}
use Rattle.buffer.specs.PassesInTurn.{pass_by, Passed}
use Rattle.buffer.proofs.Arrivals as arrivals
use Rattle.buffer.proofs.round_passes.pass_link.Given as goal

abbrev pub invariant-loop-i : goal.invariant-loop-i
invariant-loop-i l = Passed (pass_by l.tables) (up_to (arrivals.one l.initial.mesh l.at l.chip l.source) l.i) l.initial.mesh l.initial.log l.n l.mesh l.log l.done
