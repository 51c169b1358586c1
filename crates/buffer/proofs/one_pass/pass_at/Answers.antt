use Rattle.std.proofs.Common.{◌+◌, ◌*◌, refl}
use native.Mathlib.Nat.{add-sub_cancel_left}
use Rattle.buffer.proofs.StepAt.{checked_at, chip_long_lem, mesh_step}
use Rattle.steps.proofs.Sources.{source_near}
use Rattle.buffer.proofs.Takes.{takes}
use Rattle.buffer.specs.OnePass.{chip_words, setting_in}
use Rattle.links.specs.Offsets.{header_long, chip_long}
use Rattle.buffer.proofs.one_pass.pass_at.Goals as goal

pub outcome_of-o-requires : goal.outcome_of-o-requires
outcome_of-o-requires c = let a = c.args in
    let ready = rw (add-sub_cancel_left (header_long + a.chip * chip_long) chip_long) at c.ready_of-ready.ensures in
    rw ready (checked_at a.mesh.now a.chip a.source a.p a.tables.now c.requires (source_near a.source c.requires.from))

pub after-requires : goal.after-requires
after-requires c = let a = c.args in
    let r = c.requires in
    let l = a.mesh.now in
    let at = header_long + a.chip * chip_long in
    let ready = rw (add-sub_cancel_left at chip_long) at c.ready_of-ready.ensures in
    let same = rw ready at c.outcome_of-o.ensures in
    rw (add-sub_cancel_left at chip_long, same)
    (takes a.p a.source a.tables.now (setting_in l a.chip) (checked_at l a.chip a.source a.p a.tables.now r (source_near a.source r.from)) r.from (chip_words a.chip l) (chip_long_lem l a.chip r.fits) refl)

pub returns : goal.returns
returns c = let a = c.args in
    let r = c.requires in
    let at = header_long + a.chip * chip_long in
    let ready = rw (add-sub_cancel_left at chip_long) at c.ready_of-ready.ensures in
    record {
      value = rw ready at c.outcome_of-o.ensures;
      mesh_step = rw (add-sub_cancel_left at chip_long) (mesh_step a.mesh.now c.after.new.chip a.chip c.outcome_of-o.result r.fits r.there (rw (add-sub_cancel_left at chip_long) at c.after.ensures));
    }
