use mathlib.Core.Bool.{◌&&◌}
use lib.Dec.{eqb}
use Rattle.known_passes.specs.OneRouter.{rows_fit}
use Rattle.known_passes.proofs.one_router.rows_fit.Goals as goal

pub returns : goal.returns
unfolding rows_fit
returns c = λ i. eqb (c.refusal_with.ensures i) 0 && eqb (c.refusal_with-2.ensures i) 16
