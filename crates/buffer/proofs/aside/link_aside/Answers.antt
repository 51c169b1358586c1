use Rattle.std.proofs.Common.{refl}
use Rattle.buffer.proofs.aside.link_aside.Goals as goal

pub returns : goal.returns
returns c = rw c.copy_aside.ensures refl
