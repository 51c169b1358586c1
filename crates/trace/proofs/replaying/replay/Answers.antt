use mathlib.Core.Path.{◌∙◌}
use native.Mathlib.Omega.{arith}
use lib.ListN.{length}
use Rattle.mesh.specs.Lending.{with_room}
use Rattle.trace.proofs.SoFar.{begun, tested_still}
use Rattle.trace.proofs.Replays.{log_kept, at_the_end, stopped_here, some_bytes, bytes_within, added_within, one_more}
use Rattle.trace.proofs.RoomSoFar.{room_begun, room_at_the_end, room_stopped, room_more}
use Rattle.trace.proofs.replaying.replay.Goals as goal

pub test-tested-requires : goal.test-tested-requires
test-tested-requires c = tt

pub loop-at-init : goal.loop-at-init
loop-at-init c = let s = c.args in
    let t = with_room s.tables.now (length s.room.now) in
    ((c.test-tested.ensures, room_begun t s.trace.now s.mesh.now s.log.now s.room.now), begun t s.trace.now s.mesh.now s.log.now)

pub overflow_mul-from : goal.overflow_mul-from
overflow_mul-from c = omega (arith, c.loop-at.invariant.1.room, c.loop-at.invariant.1.log_long)

pub offset_bounds-log-from : goal.offset_bounds-log-from
offset_bounds-log-from c = omega (arith, c.loop-at.invariant.1.room, c.loop-at.invariant.1.log_long, c.well_formed)

pub slice_bounds-replay_one-count : goal.slice_bounds-replay_one-count
slice_bounds-replay_one-count c = omega (arith, c.loop-at.invariant.1.room)

pub slice_bounds-replay_one-start : goal.slice_bounds-replay_one-start
slice_bounds-replay_one-start c = omega (arith, c.loop-at.invariant.1.room)

pub slice_bounds-replay_one-end : goal.slice_bounds-replay_one-end
slice_bounds-replay_one-end c = omega arith

pub slice_bounds-replay_one-count-in-loop-at : goal.slice_bounds-replay_one-count-in-loop-at
slice_bounds-replay_one-count-in-loop-at c = omega (arith, c.loop-at.invariant.1.within)

pub slice_bounds-replay_one-start-in-loop-at : goal.slice_bounds-replay_one-start-in-loop-at
slice_bounds-replay_one-start-in-loop-at c = omega (arith, c.loop-at.invariant.1.within)

pub slice_bounds-replay_one-end-in-loop-at : goal.slice_bounds-replay_one-end-in-loop-at
slice_bounds-replay_one-end-in-loop-at c = omega arith

pub replay_one-done-requires : goal.replay_one-done-requires
replay_one-done-requires c = let s = c.args in
    let now = c.loop-at in
    let t = with_room s.tables.now (length s.room.now) in
    rw now.invariant.0.1.long (now.invariant.0.0 ∙ tested_still t s.trace.now s.mesh.now s.log.now now.mesh now.log now.at now.added now.invariant.1)

pub shape_of-mesh-then-done-ne0 : goal.shape_of-mesh-then-done-ne0
shape_of-mesh-then-done-ne0 c = c.replay_one-done.ensures.one_done.buffer.long ∙ c.loop-at.invariant.1.long

pub shape_of-log-then-done-ne0 : goal.shape_of-log-then-done-ne0
shape_of-log-then-done-ne0 c = let s = c.args in
    let now = c.loop-at in
    let t = with_room s.tables.now (length s.room.now) in
    log_kept t s.trace.now s.mesh.now s.log.now now.mesh now.log now.at now.added now.invariant.1 c.replay_one-done.new.log c.replay_one-done.auto.log

pub shape_of-room-then-done-ne0 : goal.shape_of-room-then-done-ne0
shape_of-room-then-done-ne0 c = c.replay_one-done.auto.room ∙ c.loop-at.invariant.0.1.long

pub returns-then-done-ne0 : goal.returns-then-done-ne0
returns-then-done-ne0 c = let s = c.args in
    let now = c.loop-at in
    let t = with_room s.tables.now (length s.room.now) in
    let one = c.replay_one-done in
    record {
      replays = stopped_here t s.trace.now s.mesh.now s.log.now now.mesh now.log now.at now.added now.invariant.1 c.loop-at-test.true one.new.mesh one.new.log one.result (rw now.invariant.0.1.long at one.ensures.one_done) c.if-done-ne0.true;
      room_after = room_stopped t s.trace.now s.mesh.now s.log.now s.room.now now.mesh now.log now.room now.at now.added now.invariant.1 now.invariant.0.1 c.loop-at-test.true one.new.mesh one.new.log one.result (rw now.invariant.0.1.long at one.ensures.one_done) _ (rw now.invariant.0.1.long at one.ensures.room_after) c.if-done-ne0.true;
    }

pub overflow_add-at : goal.overflow_add-at
overflow_add-at c = let s = c.args in
    let now = c.loop-at in
    let t = with_room s.tables.now (length s.room.now) in
    let one = c.replay_one-done in
    omega (arith, bytes_within t s.trace.now s.mesh.now s.log.now now.mesh now.log now.at now.added now.invariant.1 c.loop-at-test.true one.new.mesh one.new.log one.result (rw now.invariant.0.1.long at one.ensures.one_done) c.if-done-ne0.false one.auto.log, c.well_formed)

pub overflow_cast-added : goal.overflow_cast-added
overflow_cast-added c = omega (arith, c.struct_known-in-loop-at-2-1.given.1.1.0)

pub overflow_add-added : goal.overflow_add-added
overflow_add-added c = let s = c.args in
    let now = c.loop-at in
    let t = with_room s.tables.now (length s.room.now) in
    let one = c.replay_one-done in
    omega (arith, added_within t s.trace.now s.mesh.now s.log.now now.mesh now.log now.at now.added now.invariant.1 c.loop-at-test.true one.new.mesh one.new.log one.result (rw now.invariant.0.1.long at one.ensures.one_done) c.if-done-ne0.false one.auto.log, c.well_formed)

pub loop-at-smaller : goal.loop-at-smaller
loop-at-smaller c = let s = c.args in
    let now = c.loop-at in
    let t = with_room s.tables.now (length s.room.now) in
    let one = c.replay_one-done in
    omega (arith, some_bytes t s.trace.now s.mesh.now s.log.now now.mesh now.log now.at now.added now.invariant.1 c.loop-at-test.true one.new.mesh one.new.log one.result (rw now.invariant.0.1.long at one.ensures.one_done) c.if-done-ne0.false one.auto.log, bytes_within t s.trace.now s.mesh.now s.log.now now.mesh now.log now.at now.added now.invariant.1 c.loop-at-test.true one.new.mesh one.new.log one.result (rw now.invariant.0.1.long at one.ensures.one_done) c.if-done-ne0.false one.auto.log)

pub loop-at-preserved : goal.loop-at-preserved
loop-at-preserved c = let s = c.args in
    let now = c.loop-at in
    let t = with_room s.tables.now (length s.room.now) in
    let one = c.replay_one-done in
    ((now.invariant.0.0, room_more t s.trace.now s.mesh.now s.log.now s.room.now now.mesh now.log now.room now.at now.added now.invariant.1 now.invariant.0.1 c.loop-at-test.true one.new.mesh one.new.log one.result (rw now.invariant.0.1.long at one.ensures.one_done) _ (rw now.invariant.0.1.long at one.ensures.room_after) c.if-done-ne0.false one.auto.log one.auto.room), one_more t s.trace.now s.mesh.now s.log.now now.mesh now.log now.at now.added now.invariant.1 c.loop-at-test.true one.new.mesh one.new.log one.result (rw now.invariant.0.1.long at one.ensures.one_done) c.if-done-ne0.false one.auto.log)

pub shape_of-mesh : goal.shape_of-mesh
shape_of-mesh c = c.loop-at.invariant.1.long

pub shape_of-log : goal.shape_of-log
shape_of-log c = c.loop-at.invariant.1.log_long

pub shape_of-room : goal.shape_of-room
shape_of-room c = c.loop-at.invariant.0.1.long

pub returns : goal.returns
returns c = let s = c.args in
    let now = c.loop-at in
    let t = with_room s.tables.now (length s.room.now) in
    record {
      replays = at_the_end t s.trace.now s.mesh.now s.log.now now.mesh now.log now.at now.added now.invariant.1 c.loop-at-test.false;
      room_after = room_at_the_end t s.trace.now s.mesh.now s.log.now s.room.now now.mesh now.log now.room now.at now.added now.invariant.1 now.invariant.0.1 c.loop-at-test.false;
    }
