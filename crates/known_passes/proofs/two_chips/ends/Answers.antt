use Rattle.std.proofs.Common.{replicate}
use mathlib.Core.List.{List}
use mathlib.Core.Path.{◌∙◌, ap}
use mathlib.Core.Bool.{◌&&◌}
use Prim.Native.Nat.{ℕ}
use lib.Dec.{eqb}
use Rattle.known_passes.specs.TwoChips.{round, added, flight, too_old, ends}
use Rattle.known_passes.proofs.AsLent.{round_as_lent}
use Rattle.known_passes.proofs.Following.{round_held}
use Rattle.known_passes.proofs.two_chips.ends.Goals as goal

pub returns : goal.returns
unfolding round added ends
returns c = let a = c.args in
    let e = round_as_lent _ _ c.new-tables.ensures a.mesh.now (replicate 6 0) 0 6 _ _ _ c.round-r.ensures.moves in
    let held = round_held a.mesh.now c.round-r.new.mesh e.buffer in
    let flies = c.in_flight.ensures ∙ ap flight held in
    let old = c.too_old.ensures ∙ ap (λ (log : List ℕ). too_old log a.chip) e.logged in
    record { value = λ i. eqb (e.answered i).refusal 0 && eqb (e.answered i).added 1 && eqb (flies i) 0 && old i; mesh_after = held }
