use Rattle.std.proofs.Common.{◌≡◌, ◌+◌, ◌-◌, ◌*◌, Bool, true, false, ◌&&◌, sym, ap, ◌∙◌}
use native.Mathlib.Nat.{add-sub_cancel_left}
use Rattle.buffer.proofs.FineSteps.{chips_step, chips_end}
use Rattle.lists.specs.Lists.{part}
use Rattle.buffer.specs.Holding.{chip_fine, chips_fine}
use Rattle.links.specs.Offsets.{header_long, chip_long}
use Rattle.buffer.proofs.holding.chips_fine.Goals as goal

pub returns-then-not-chip_fine : goal.returns-then-not-chip_fine
returns-then-not-chip_fine c = let at = c.loop-i in
    let l = c.args.mesh.now in
    let n = c.args.count in
    let bad : chip_fine (part (header_long + at.i * chip_long) chip_long l) ≡ false = sym (rw (add-sub_cancel_left (header_long + at.i * chip_long) chip_long) at c.chip_fine.ensures) ∙ c.if-not-chip_fine.true in
    sym (at.invariant ∙ chips_step n at.i l c.loop-i-test.true ∙ ap (λ (x : Bool). x && chips_fine (at.i + 1) (n - (at.i + 1)) l) bad)

pub loop-i-preserved : goal.loop-i-preserved
loop-i-preserved c = let at = c.loop-i in
    let l = c.args.mesh.now in
    let n = c.args.count in
    let good : chip_fine (part (header_long + at.i * chip_long) chip_long l) ≡ true = sym (rw (add-sub_cancel_left (header_long + at.i * chip_long) chip_long) at c.chip_fine.ensures) ∙ c.if-not-chip_fine.false in
    at.invariant ∙ chips_step n at.i l c.loop-i-test.true ∙ ap (λ (x : Bool). x && chips_fine (at.i + 1) (n - (at.i + 1)) l) good

pub returns : goal.returns
returns c = sym (c.loop-i.invariant ∙ chips_end _ _ _ _ c.loop-i-test.false)
