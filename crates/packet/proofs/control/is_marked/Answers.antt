use Rattle.packet.specs.Types.{is_marked}
use Rattle.packet.proofs.control.is_marked.Goals as goal

pub returns : goal.returns
unfolding is_marked
returns c = simp (c.is_mc.ensures, c.is_fixed.ensures)
