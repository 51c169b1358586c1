use mathlib.Core.Bool.{◌&&◌}
use lib.Dec.{eqb}
use Rattle.known_passes.specs.TwoChips.{link_is}
use Rattle.known_passes.proofs.two_chips.link_is.Goals as goal

pub returns : goal.returns
unfolding link_is
returns c = let e = c.look_link-r.ensures in
    let a = c.args in
    λ i. eqb (e i).refusal 0 && eqb (e i).up 1 && eqb (e i).held a.held && eqb (e i).ready a.ready
