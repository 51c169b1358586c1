use Rattle.std.proofs.Common.{◌+◌, ◌*◌, refl, ◌∙◌}
use native.Mathlib.Nat.{add-sub_cancel_left}
use Rattle.packet.proofs.Numbers.{number_some}
use Rattle.buffer.proofs.Looks.{link_refused, link_found}
use Rattle.links.specs.Offsets.{header_long, link_long, links_at, chip_long}
use Rattle.buffer.proofs.looking.look_link.Goals as goal

pub returns-in-Err : goal.returns-in-Err
returns-in-Err c = rw c.from.ensures (link_refused c.args.mesh.now c.args.chip c.args.link _ c.in-Err.ensures (number_some c.in-Err.refused))

pub returns : goal.returns
returns c = let at = header_long + c.args.chip * chip_long + (links_at + c.args.link * link_long) in
    rw (add-sub_cancel_left at link_long) at c.link_shown.ensures ∙ link_found c.args.mesh.now c.args.chip c.args.link _ c.in_default.ensures refl
