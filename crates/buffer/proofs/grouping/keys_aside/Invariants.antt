-- `grouping::keys_aside` meets its contract. The loop's invariant: the words of the links before `source` are gathered, at most eight of each.
use Rattle.std.proofs.Common.{◌≡◌, ◌*◌, ◌≤◌, take}
use Rattle.lists.specs.Lists.{up_to}
use Rattle.mesh.specs.Room.{keys_of}
use Rattle.buffer.specs.PassesInTurn.{aside_by}
use Rattle.buffer.proofs.grouping.keys_aside.Given as goal

abbrev pub invariant-loop-source : goal.invariant-loop-source
invariant-loop-source l = (l.count ≤ l.source * 8) × (take l.count l.keys ≡ keys_of (up_to (aside_by l.mesh l.chip) l.source))
