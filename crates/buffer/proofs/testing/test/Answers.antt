use Rattle.std.proofs.Common.{sym, ◌∙◌}
use Rattle.tables.proofs.Sizes.{chips_small, chips_some}
use Rattle.mesh.specs.Lending.{with_room}
use Rattle.buffer.proofs.Refusals.{tables_sized}
use Rattle.buffer.proofs.HoldsMesh.{holds_size}
use Rattle.buffer.proofs.testing.test.Goals as goal

pub tables_refusal-requires : goal.tables_refusal-requires
tables_refusal-requires c = let sized = holds_size c.args.mesh.now (sym c.holds.ensures ∙ c.if-not-holds.false) in
    rw c.chips-all.ensures (chips_some _ _ sized, chips_small _ _ sized)

pub place_in-place-requires : goal.place_in-place-requires
place_in-place-requires c = let sized = holds_size c.args.mesh.now (sym c.holds.ensures ∙ c.if-not-holds.false) in
    (rw c.chips-all.ensures (chips_some _ _ sized), (rw c.chips-all.ensures (chips_small _ _ sized), tables_sized (with_room c.args.tables.now c.args.room) c.chips-all.result _ c.in-Err.ensures))
