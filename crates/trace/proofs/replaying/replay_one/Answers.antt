use mathlib.Core.Path.{◌∙◌}
use lib.ListN.{length}
use Rattle.mesh.specs.Lending.{with_room}
use Rattle.records.proofs.ReadRecords.{read_packet}
use Rattle.trace.proofs.DoneRecords.{record_refused, record_made}
use Rattle.trace.proofs.Rooms.{room_refused, room_made_lem}
use Rattle.trace.proofs.replaying.replay_one.Goals as goal

pub returns-then-record-ne0 : goal.returns-then-record-ne0
returns-then-record-ne0 c = let t = with_room c.args.tables.now (length c.args.room.now) in
    let refused = record_refused t c.args.trace.now c.args.mesh.now c.args.log.now c.read_record-record.result c.read_record-record.ensures c.if-record-ne0.true in
    record {
      one_done = refused;
      room_after = room_refused t c.args.trace.now c.args.mesh.now (length c.args.log.now) c.args.room.now (λ z. c.if-record-ne0.true (refused.refusal ∙ z));
    }

pub make-made-requires : goal.make-made-requires
make-made-requires c = (rw c.read_record-record.ensures (read_packet c.args.trace.now), c.requires)

pub returns : goal.returns
returns c = let t = with_room c.args.tables.now (length c.args.room.now) in
    record {
      one_done = record_made t c.args.trace.now c.args.mesh.now c.args.log.now c.read_record-record.result c.read_record-record.ensures c.if-record-ne0.false c.make-made.result _ _ c.make-made.ensures.moves;
      room_after = room_made_lem t c.args.trace.now c.args.mesh.now (length c.args.log.now) c.args.room.now c.read_record-record.result c.read_record-record.ensures c.if-record-ne0.false _ c.make-made.ensures.room_after;
    }
