use mathlib.Core.Bool.{◌&&◌}
use lib.Dec.{eqb}
use Rattle.known_passes.specs.TwoChips.{counts}
use Rattle.known_passes.proofs.two_chips.counter_is.Goals as goal

pub returns : goal.returns
unfolding counts
returns c = let e = c.read_counter-r.ensures in
    λ i. eqb (e i).refusal 0 && eqb (e i).count c.args.count
