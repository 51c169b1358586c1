use mathlib.Core.Bool.{◌&&◌}
use Rattle.known_passes.specs.TwoChips.{case14}
use Rattle.known_passes.proofs.two_chips.case_14.Goals as goal

pub returns : goal.returns
unfolding case14
returns c = λ i. c.crosses_four.ensures i && c.crosses_four-2.ensures i
