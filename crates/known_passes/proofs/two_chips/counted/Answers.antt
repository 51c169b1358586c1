use mathlib.Core.Bool.{◌&&◌}
use Rattle.known_passes.specs.TwoChips.{counted}
use Rattle.known_passes.proofs.two_chips.counted.Goals as goal

pub returns : goal.returns
unfolding counted
returns c = λ i. c.counter_is.ensures i && c.counter_is-2.ensures i && c.counter_is-3.ensures i && c.counter_is-4.ensures i
