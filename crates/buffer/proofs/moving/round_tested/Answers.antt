use Rattle.std.proofs.Common.{length, sym, ap, ◌∙◌, arith}
use Rattle.mesh.specs.Lending.{with_room}
use Rattle.packet.proofs.Numbers.{number_some}
use Rattle.buffer.specs.Testing.{Numbers, numbers_of}
use Rattle.buffer.proofs.Refusals.{round_number_lem, round_place}
use Rattle.buffer.proofs.HoldsMesh.{holds_size, words_enough, few_held}
use Rattle.buffer.proofs.Headers.{chips_kept}
use Rattle.buffer.proofs.LoggedPasses.{lent_room}
use Rattle.buffer.proofs.RoundCall.{round_room_refused, round_fits, round_room_lem, round_holds, round_lent, round_refused, round_due, over_requires, count_small, round_leaves}
use Rattle.buffer.proofs.moving.round_tested.Goals as goal

pub round_refusal-requires : goal.round_refusal-requires
round_refusal-requires c = ap (λ (x : Numbers). x.holds) c.requires

pub returns-in-Err : goal.returns-in-Err
returns-in-Err c = let t = with_room c.args.tables.now (length c.args.room.now) in
    let number = c.in-Err.ensures ∙ round_number_lem c.args.mesh.now t (numbers_of c.args.tested) c.requires (length c.args.log.now) in
    let some = number_some c.in-Err.refused in
    record {
      moves = rw c.from.ensures (round_refused t c.args.mesh.now c.args.log.now _ number some _ (c.place_told.ensures ∙ round_place c.args.mesh.now t (numbers_of c.args.tested) c.requires _ (length c.args.log.now) _ c.in-Err.ensures some));
      room_after = round_room_refused t c.args.mesh.now c.args.log.now _ number some c.args.room.now;
    }

pub bounds-mesh-0 : goal.bounds-mesh-0
bounds-mesh-0 c = let t = with_room c.args.tables.now (length c.args.room.now) in
    let none = sym (c.in_default.ensures ∙ round_number_lem c.args.mesh.now t (numbers_of c.args.tested) c.requires (length c.args.log.now)) in
    omega (arith, words_enough c.args.mesh.now (round_holds t c.args.mesh.now c.args.log.now none))

pub bounds-mesh-1 : goal.bounds-mesh-1
bounds-mesh-1 c = let t = with_room c.args.tables.now (length c.args.room.now) in
    let none = sym (c.in_default.ensures ∙ round_number_lem c.args.mesh.now t (numbers_of c.args.tested) c.requires (length c.args.log.now)) in
    omega (arith, words_enough c.args.mesh.now (round_holds t c.args.mesh.now c.args.log.now none))

pub chips-all-requires : goal.chips-all-requires
chips-all-requires c = let t = with_room c.args.tables.now (length c.args.room.now) in
    let none = sym (c.in_default.ensures ∙ round_number_lem c.args.mesh.now t (numbers_of c.args.tested) c.requires (length c.args.log.now)) in
    holds_size c.args.mesh.now (round_holds t c.args.mesh.now c.args.log.now none)

pub set_aside-requires : goal.set_aside-requires
set_aside-requires c = let t = with_room c.args.tables.now (length c.args.room.now) in
    let none = sym (c.in_default.ensures ∙ round_number_lem c.args.mesh.now t (numbers_of c.args.tested) c.requires (length c.args.log.now)) in
    rw c.chips-all.ensures (words_enough c.args.mesh.now (round_holds t c.args.mesh.now c.args.log.now none), few_held c.args.mesh.now (round_holds t c.args.mesh.now c.args.log.now none))

pub pass_chips-n-requires : goal.pass_chips-n-requires
pass_chips-n-requires c = let t = with_room c.args.tables.now (length c.args.room.now) in
    let none = sym (c.in_default.ensures ∙ round_number_lem c.args.mesh.now t (numbers_of c.args.tested) c.requires (length c.args.log.now)) in
    let a = c.args in
    let u = rw c.chips-all.ensures at c.set_aside.ensures in
    rw c.chips-all.ensures (chips_kept a.mesh.now c.set_aside.new.mesh u.head, ((round_due t c.args.mesh.now c.args.log.now none _ u, lent_room a.tables.now (length a.room.now) _ (round_lent t c.args.mesh.now c.args.log.now none _ u)), round_fits t c.args.mesh.now c.args.log.now none _ u))

pub round_over-requires : goal.round_over-requires
round_over-requires c = let t = with_room c.args.tables.now (length c.args.room.now) in
    let none = sym (c.in_default.ensures ∙ round_number_lem c.args.mesh.now t (numbers_of c.args.tested) c.requires (length c.args.log.now)) in
    over_requires t c.args.mesh.now c.args.log.now none _ (rw c.chips-all.ensures at c.set_aside.ensures) _ _ _ (rw c.chips-all.ensures at c.pass_chips-n.ensures.passed)

pub overflow_cast-added : goal.overflow_cast-added
overflow_cast-added c = let t = with_room c.args.tables.now (length c.args.room.now) in
    let none = sym (c.in_default.ensures ∙ round_number_lem c.args.mesh.now t (numbers_of c.args.tested) c.requires (length c.args.log.now)) in
    omega (arith, count_small t c.args.mesh.now c.args.log.now none _ (rw c.chips-all.ensures at c.set_aside.ensures) _ _ _ (rw c.chips-all.ensures at c.pass_chips-n.ensures.passed))

pub returns : goal.returns
returns c = let t = with_room c.args.tables.now (length c.args.room.now) in
    let none = sym (c.in_default.ensures ∙ round_number_lem c.args.mesh.now t (numbers_of c.args.tested) c.requires (length c.args.log.now)) in
    record {
      moves = rw c.round_over.ensures (round_leaves t c.args.mesh.now c.args.log.now none _ (rw c.chips-all.ensures at c.set_aside.ensures) _ _ _ (rw c.chips-all.ensures at c.pass_chips-n.ensures.passed));
      room_after = round_room_lem t c.args.mesh.now c.args.log.now none _ (rw c.chips-all.ensures at c.set_aside.ensures) c.args.room.now _ (rw c.chips-all.ensures at c.pass_chips-n.ensures.room_after);
    }
