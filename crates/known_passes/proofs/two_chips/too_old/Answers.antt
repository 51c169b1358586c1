use mathlib.Core.Path.{refl}
use Rattle.known_passes.specs.TwoChips.{too_old}
use Rattle.known_passes.proofs.two_chips.too_old.Goals as goal

pub returns : goal.returns
unfolding too_old
returns c = refl
