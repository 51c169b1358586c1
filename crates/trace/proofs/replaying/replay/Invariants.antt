use mathlib.Core.Path.{◌≡◌}
use Prim.Native.Nat.{◌-◌}
use lib.ListN.{length}
use Rattle.mesh.specs.Lending.{with_room}
use Rattle.buffer.specs.Testing.{numbers_of, tested_of}
use Rattle.trace.proofs.SoFar.{SoFar}
use Rattle.trace.proofs.RoomSoFar.{RoomSoFar}
use Rattle.trace.proofs.replaying.replay.Given as goal

abbrev pub invariant-loop-at : goal.invariant-loop-at
invariant-loop-at l = let t = with_room l.tables (length l.initial.room) in
    ((numbers_of l.tested ≡ tested_of l.initial.mesh t) × RoomSoFar t l.trace l.initial.mesh l.initial.log l.initial.room l.mesh l.log l.room l.at l.added) × SoFar t l.trace l.initial.mesh l.initial.log l.mesh l.log l.at l.added

abbrev pub decreases-loop-at : goal.decreases-loop-at
decreases-loop-at l = length l.trace - l.at
