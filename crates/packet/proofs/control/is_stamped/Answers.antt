use Rattle.packet.specs.Types.{is_stamped}
use Rattle.packet.proofs.control.is_stamped.Goals as goal

pub returns : goal.returns
unfolding is_stamped
returns c = simp (c.kind_of.ensures, c.from.ensures)
