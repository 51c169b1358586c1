-- `round_passes::pass_chips` meets its contract. The loop's invariant: the chips before `chip` have passed what was set aside for them, and the room is as they leave it.
use Rattle.std.proofs.Common.{◌≡◌, length}
use Rattle.mesh.specs.Lending.{with_room}
use Rattle.mesh.specs.Steps.{pass_at, same}
use Rattle.mesh.specs.Room.{keys_of, room_upto}
use Rattle.lists.specs.Lists.{up_to}
use Rattle.buffer.specs.PassesInTurn.{aside_from, Passed}
use Rattle.buffer.proofs.round_passes.pass_chips.Given as goal

abbrev pub invariant-loop-chip : goal.invariant-loop-chip
invariant-loop-chip l =
    Passed (pass_at l.tables same) (up_to (aside_from l.initial.mesh) l.chip) l.initial.mesh l.initial.log 0 l.mesh l.log l.n
    × (l.room ≡ room_upto (with_room l.tables (length l.initial.room)) (λ chip. keys_of (aside_from l.initial.mesh chip)) l.chip l.initial.room)
