use Rattle.std.proofs.Common.{length, sym, ap, ◌∙◌}
use Rattle.packet.proofs.Numbers.{number_some}
use Rattle.mesh.specs.Lending.{with_room}
use Rattle.buffer.specs.Testing.{Numbers, numbers_of}
use Rattle.buffer.proofs.Refusals.{inject_number_lem, inject_place}
use Rattle.buffer.proofs.LoggedPasses.{lent_room}
use Rattle.buffer.proofs.InjectCall.{inject_refused, inject_lent, inject_due, inject_leaves}
use Rattle.buffer.proofs.moving.inject_tested.Goals as goal

pub injected_packet-requires : goal.injected_packet-requires
injected_packet-requires c = ap (λ (x : Numbers). x.holds) c.requires

pub pass_there-n-requires : goal.pass_there-n-requires
pass_there-n-requires c = let a = c.args in
    let t = with_room a.tables.now a.room in
    let none = sym (c.in-Ok.ensures.refusal ∙ inject_number_lem a.mesh.now t (numbers_of a.tested) c.requires a.chip (length a.log.now) a.bytes.now) in
    (rw c.in-Ok.ensures.packet (inject_due t a.mesh.now a.log.now a.chip a.bytes.now none), lent_room a.tables.now a.room _ (inject_lent t a.mesh.now a.log.now a.chip a.bytes.now none).0)

pub returns-in-Ok : goal.returns-in-Ok
returns-in-Ok c = let a = c.args in
    let t = with_room a.tables.now a.room in
    let none = sym (c.in-Ok.ensures.refusal ∙ inject_number_lem a.mesh.now t (numbers_of a.tested) c.requires a.chip (length a.log.now) a.bytes.now) in
    inject_leaves t a.mesh.now a.log.now a.chip a.bytes.now none _ _ _ (rw c.in-Ok.ensures.packet at c.pass_there-n.ensures)

pub returns-in-Err : goal.returns-in-Err
returns-in-Err c = let a = c.args in
    let t = with_room a.tables.now a.room in
    let x = numbers_of a.tested in
    let some = number_some c.in-Err.refused in
    rw c.from.ensures (inject_refused t a.mesh.now a.log.now a.chip a.bytes.now _ (c.in-Err.ensures.refusal ∙ inject_number_lem a.mesh.now t x c.requires a.chip (length a.log.now) a.bytes.now) some _
    (c.place_told.ensures ∙ inject_place a.mesh.now t x c.requires a.chip (length a.log.now) a.bytes.now _ c.in-Err.ensures.refusal some))
