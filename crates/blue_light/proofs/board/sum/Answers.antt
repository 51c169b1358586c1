use Rattle.std.proofs.Common.{◌≡◌, ◌+◌, ◌%◌, ◌^◌, sym, refl, ap, ◌∙◌, add-one, arith}
use Rattle.blue_light.specs.Board.{sum_of}
use Rattle.blue_light.proofs.board.sum.Goals as goal

pub loop-chip-init : goal.loop-chip-init
unfolding sum_of
loop-chip-init c = refl

pub loop-chip-preserved : goal.loop-chip-preserved
unfolding sum_of
loop-chip-preserved c = let a = c.args in
    (λ i. (c.loop-chip.invariant i + (c.read_counter-all.ensures i).count) % 2 ^ 32) ∙ sym (ap (sum_of a.mesh.now a.counter) (add-one c.loop-chip.chip))

pub returns : goal.returns
returns c = let a = c.args in
    let nine : c.loop-chip.chip ≡ 9 = omega arith in
    c.loop-chip.invariant ∙ ap (sum_of a.mesh.now a.counter) nine
