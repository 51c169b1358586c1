use Rattle.lists.specs.Lists.{up_to}
use Rattle.buffer.specs.PassesInTurn.{aside_by, pass_by, Passed}
use Rattle.buffer.proofs.round_passes.pass_links.Given as goal

abbrev pub invariant-loop-source : goal.invariant-loop-source
invariant-loop-source l = Passed (pass_by l.tables) (up_to (aside_by l.initial.mesh l.chip) l.source) l.initial.mesh l.initial.log l.n l.mesh l.log l.done
