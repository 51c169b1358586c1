use Rattle.std.proofs.Common.{◌≡◌, ◌+◌, ◌*◌, arith}
use native.Mathlib.Nat.{add-sub_cancel_left}
use Rattle.buffer.specs.OnePass.{chip_words}
use Rattle.buffer.specs.Held.{chip_flight}
use Rattle.buffer.proofs.HoldsMesh.{chips_held, few_held}
use Rattle.buffer.proofs.Flights.{summed_first, summed_next, summed_last}
use Rattle.links.specs.Offsets.{header_long, chip_long}
use Rattle.buffer.proofs.flight.in_flight.Goals as goal

pub loop-i-init : goal.loop-i-init
loop-i-init c = let l = c.args.mesh.now in
    let n = c.args.count in
    (chips_held l n c.requires.0 c.requires.1, summed_first l n)

pub on_chip-sum-requires : goal.on_chip-sum-requires
on_chip-sum-requires c = let i = c.loop-i.i in
    rw (add-sub_cancel_left (header_long + i * chip_long) chip_long) (few_held c.args.mesh.now c.requires.0 i (omega (arith, c.requires.1)))

pub overflow_add-sum : goal.overflow_add-sum
overflow_add-sum c =
    let at = c.loop-i in
    let one : c.on_chip-sum.result ≡ chip_flight (chip_words at.i c.args.mesh.now) = rw (add-sub_cancel_left (header_long + at.i * chip_long) chip_long) at c.on_chip-sum.ensures in
    let next = summed_next c.args.mesh.now c.args.count at.i at.sum c.requires.1 at.invariant.1 c.requires.0 _ (omega arith) one in
    omega (arith, next.few)

pub loop-i-preserved : goal.loop-i-preserved
loop-i-preserved c =
    let at = c.loop-i in
    let one : c.on_chip-sum.result ≡ chip_flight (chip_words at.i c.args.mesh.now) = rw (add-sub_cancel_left (header_long + at.i * chip_long) chip_long) at c.on_chip-sum.ensures in
    let next = summed_next c.args.mesh.now c.args.count at.i at.sum c.requires.1 at.invariant.1 c.requires.0 _ (omega arith) one in
    (c.loop-i.invariant.0, next)

pub returns : goal.returns
returns c = let at = c.loop-i in
    summed_last c.args.mesh.now c.args.count at.i at.sum c.requires.1 at.invariant.1 c.loop-i-test.false
