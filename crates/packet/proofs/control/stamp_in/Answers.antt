-- `packet::control::stamp_in` meets its contract: the three parts stand apart, so that `|` adds them.
use lib.Dec.{lit≤}
use Rattle.packet.proofs.Masks.{field_in}
use Rattle.packet.proofs.control.stamp_in.Goals as goal

pub returns : goal.returns
returns c = field_in 2 c.args.control c.args.stamp c.ranges.control.fits (lit≤ tt)
