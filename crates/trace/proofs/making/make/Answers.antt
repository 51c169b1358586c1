use Rattle.std.proofs.Common.{sym, ap, ◌∙◌, length}
use lib.Seq.{length-take-le}
use Rattle.mesh.specs.Lending.{with_room}
use Rattle.buffer.specs.Testing.{Numbers}
use Rattle.buffer.proofs.Refusals.{some_holds}
use Rattle.records.specs.Records.{nine_of}
use Rattle.trace.proofs.KindMade.{made_as}
use Rattle.trace.proofs.MadeCalls.{made_injection, made_round, made_change, made_read}
use Rattle.trace.proofs.Rooms.{room_injection, room_round, room_change, room_read}
use Rattle.trace.proofs.making.make.Goals as goal

pub slice_bounds-inject_tested-end : goal.slice_bounds-inject_tested-end
slice_bounds-inject_tested-end c = sym (length-take-le c.args.call.length (nine_of c.args.call.bytes) c.requires.0)

pub set_link_tested-requires : goal.set_link_tested-requires
set_link_tested-requires c = c.is_some.ensures ∙ some_holds _ ∙ ap (λ (x : Numbers). x.holds) c.requires.1

pub read_registers_tested-read-requires : goal.read_registers_tested-read-requires
read_registers_tested-read-requires c = c.is_some-in-Registers.ensures ∙ some_holds _ ∙ ap (λ (x : Numbers). x.holds) c.requires.1

pub returns-in-Injection : goal.returns-in-Injection
returns-in-Injection c = let t = with_room c.args.tables.now (length c.args.room.now) in
    let is = made_as _ _ c.try_from.ensures _ (sym c.in-Injection.is ∙ c.unwrap_or-kind.ensures) in
    record {
      moves = made_injection t c.args.mesh.now c.args.log.now c.args.call _ _ _ is c.inject_tested.ensures;
      room_after = room_injection t c.args.mesh.now (length c.args.log.now) c.args.call c.args.room.now is;
    }

pub returns-in-Round : goal.returns-in-Round
returns-in-Round c = let t = with_room c.args.tables.now (length c.args.room.now) in
    let is = made_as _ _ c.try_from.ensures _ (sym c.in-Round.is ∙ c.unwrap_or-kind.ensures) in
    record {
      moves = made_round t c.args.mesh.now c.args.log.now c.args.call _ _ _ is c.round_tested.ensures.moves;
      room_after = room_round t c.args.mesh.now (length c.args.log.now) c.args.call c.args.room.now is _ c.round_tested.ensures.room_after;
    }

pub returns-in-LinkChange : goal.returns-in-LinkChange
returns-in-LinkChange c = let t = with_room c.args.tables.now (length c.args.room.now) in
    let is = made_as _ _ c.try_from.ensures _ (sym c.in-LinkChange.is ∙ c.unwrap_or-kind.ensures) in
    record {
      moves = made_change t c.args.mesh.now c.args.log.now c.args.call _ is _ (c.told-refusal.ensures ∙ c.set_link_tested.ensures.value) c.set_link_tested.ensures.leaves;
      room_after = room_change t c.args.mesh.now (length c.args.log.now) c.args.call c.args.room.now is;
    }

pub returns-in-Registers : goal.returns-in-Registers
returns-in-Registers c = let t = with_room c.args.tables.now (length c.args.room.now) in
    let none = made_as _ _ c.try_from.ensures _ (sym c.in-Registers.is ∙ c.unwrap_or-kind.ensures) in
    let read = c.read_registers_tested-read in
    record {
      moves = made_read t c.args.mesh.now c.args.log.now c.args.call _ none.0 none.1.0 none.1.1 _ read.ensures.value read.ensures.leaves;
      room_after = room_read t c.args.mesh.now (length c.args.log.now) c.args.call c.args.room.now none.0 none.1.0 none.1.1;
    }
