use Rattle.std.proofs.Common.{replicate}
use mathlib.Core.Bool.{◌&&◌}
use lib.Dec.{eqb}
use Rattle.known_passes.specs.TwoChips.{packet, inject, added}
use Rattle.known_passes.proofs.AsLent.{inject_as_lent}
use Rattle.known_passes.proofs.Following.{inject_held}
use Rattle.known_passes.proofs.two_chips.injected.Goals as goal

pub returns : goal.returns
unfolding inject added
returns c = let a = c.args in
    let e = inject_as_lent _ _ c.new-tables.ensures a.mesh.now (replicate 6 0) 0 6 _ _ _ a.chip packet c.inject-r.ensures in
    record { value = λ i. eqb (e.answered i).refusal 0 && eqb (e.answered i).added 0; mesh_after = inject_held a.mesh.now _ a.chip e.buffer }
