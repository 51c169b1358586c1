use Rattle.std.proofs.Common.{replicate}
use mathlib.Core.Path.{◌∙◌, ap}
use mathlib.Core.Bool.{◌&&◌}
use lib.Dec.{eqb}
use Rattle.known_passes.specs.TwoChips.{round, added, flight, passes_on}
use Rattle.known_passes.proofs.AsLent.{round_as_lent}
use Rattle.known_passes.proofs.Following.{round_held}
use Rattle.known_passes.proofs.two_chips.passes_on.Goals as goal

pub returns : goal.returns
unfolding round added passes_on
returns c = let a = c.args in
    let e = round_as_lent _ _ c.new-tables.ensures a.mesh.now (replicate 6 0) 0 6 _ _ _ c.round-r.ensures.moves in
    let held = round_held a.mesh.now c.round-r.new.mesh e.buffer in
    let flies = c.in_flight.ensures ∙ ap flight held in
    record { value = λ i. eqb (e.answered i).refusal 0 && eqb (e.answered i).added 0 && eqb (flies i) a.flying; mesh_after = held }
