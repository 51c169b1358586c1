-- `grouping::count_aside` meets its contract. The loop's invariant: the packets of the links before `source` are counted, at most eight of each.
use Rattle.std.proofs.Common.{◌≡◌, ◌*◌, ◌≤◌, length}
use Rattle.lists.specs.Lists.{up_to}
use Rattle.buffer.specs.PassesInTurn.{aside_by}
use Rattle.buffer.proofs.grouping.count_aside.Given as goal

abbrev pub invariant-loop-source : goal.invariant-loop-source
invariant-loop-source l = (l.count ≤ l.source * 8) × (l.count ≡ length (up_to (aside_by l.mesh l.chip) l.source))
