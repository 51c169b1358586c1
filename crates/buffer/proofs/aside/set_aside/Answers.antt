use Rattle.std.proofs.Common.{◌+◌, ◌*◌, ◌<◌, add-one}
use native.Mathlib.Nat.{add-sub_cancel_left}
use Rattle.buffer.proofs.AsideChips.{aside_next}
use Rattle.links.specs.Offsets.{header_long, chip_long}
use Rattle.buffer.proofs.aside.set_aside.Goals as goal

pub loop-i-preserved : goal.loop-i-preserved
loop-i-preserved c = let at = c.loop-i in
    let i = at.i in
    let a = c.args in
    let pre = c.requires in
    let hi : i < a.count = c.loop-i-test.true in
    rw (add-sub_cancel_left (header_long + i * chip_long) chip_long, add-one)
    (aside_next a.count i a.mesh.now at.mesh c.chip_aside.new.chip pre.0 hi at.invariant (rw (add-sub_cancel_left (header_long + i * chip_long) chip_long) at c.chip_aside.ensures))
