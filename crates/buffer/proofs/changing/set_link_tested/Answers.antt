use Rattle.std.proofs.Common.{◌+◌, ◌*◌, sym}
use native.Mathlib.Nat.{add-sub_cancel_left}
use Rattle.std.proofs.lemmas.Result.{err_from_is_err_and}
use Rattle.packet.proofs.Numbers.{number_some}
use Rattle.buffer.proofs.OneChipChanged.{link_refused, link_leaves}
use Rattle.links.specs.Offsets.{header_long, chip_long}
use Rattle.buffer.proofs.changing.set_link_tested.Goals as goal

pub returns-in_err-number_refusal : goal.returns-in_err-number_refusal
returns-in_err-number_refusal c =
    let p = err_from_is_err_and c.from_residual.result c.from_residual.ensures.1 in
    let h = link_refused c.args.mesh.now c.args.chip c.args.link c.args.up _ c.in_err-number_refusal.ensures (number_some _) in
    record { value = rw (p.1, p.2) h.0; leaves = h.1 }

pub returns : goal.returns
returns c = let a = c.args in
    let at = header_long + a.chip * chip_long in
    let h = link_leaves a.mesh.now a.chip a.link a.up (sym c.in_ok-number_refusal.ensures) in
    record { value = h.0; leaves = rw (add-sub_cancel_left at chip_long, rw (add-sub_cancel_left at chip_long) at c.link_on_chip.ensures) h.1 }
