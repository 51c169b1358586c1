-- `packet::control::mark_in` meets its contract: the three parts stand apart, so that `|` adds them.
use lib.Dec.{lit≤}
use Rattle.packet.proofs.Masks.{field_in}
use Rattle.packet.proofs.control.mark_in.Goals as goal

pub returns : goal.returns
returns c = field_in 4 c.args.control c.args.mark c.ranges.control.fits (lit≤ tt)
