use mathlib.Core.Bool.{◌&&◌}
use Rattle.known_passes.specs.OneRouter.{case13}
use Rattle.known_passes.proofs.one_router.case_13.Goals as goal

pub returns : goal.returns
unfolding case13
returns c = λ i. c.refused.ensures i && c.refused-2.ensures i && c.refused-3.ensures i && c.refused-4.ensures i && c.parity_wrong.ensures i
