use Rattle.std.proofs.Common.{◌≡◌, sym, ◌∙◌, arith}
use Rattle.steps.specs.Deciding.{packet_on}
use Rattle.buffer.proofs.Sending.{none_yet, link_there, link_less, link_fits, one_pushed}
use Rattle.buffer.proofs.chip.send_packets.Goals as goal

pub loop-rest-init : goal.loop-rest-init
loop-rest-init c = none_yet c.args.o.sent (packet_on c.args.o) c.args.chip.now c.requires

pub packet_on-requires : goal.packet_on-requires
packet_on-requires c = link_there c.args.o.sent (packet_on c.args.o) c.loop-rest.rest c.args.chip.now c.loop-rest.chip c.requires c.loop-rest.invariant c.loop-rest-test.true

pub push_on-requires : goal.push_on-requires
push_on-requires c = (c.loop-rest.invariant.changed.long, (link_there c.args.o.sent (packet_on c.args.o) c.loop-rest.rest c.args.chip.now c.loop-rest.chip c.requires c.loop-rest.invariant c.loop-rest-test.true, link_fits c.args.o.sent (packet_on c.args.o) c.loop-rest.rest c.args.chip.now c.loop-rest.chip c.requires c.loop-rest.invariant c.loop-rest-test.true))

pub overflow_sub-rest : goal.overflow_sub-rest
overflow_sub-rest c = omega (arith, link_less c.args.o.sent (packet_on c.args.o) c.loop-rest.rest c.args.chip.now c.loop-rest.chip c.requires c.loop-rest.invariant c.loop-rest-test.true)

pub loop-rest-smaller : goal.loop-rest-smaller
loop-rest-smaller c = link_less c.args.o.sent (packet_on c.args.o) c.loop-rest.rest c.args.chip.now c.loop-rest.chip c.requires c.loop-rest.invariant c.loop-rest-test.true

pub loop-rest-preserved : goal.loop-rest-preserved
loop-rest-preserved c = rw c.push_on.ensures (rw c.packet_on.ensures (one_pushed c.args.o.sent (packet_on c.args.o) c.loop-rest.rest c.args.chip.now c.loop-rest.chip c.requires c.loop-rest.invariant c.loop-rest-test.true))

pub shape_of-chip : goal.shape_of-chip
shape_of-chip c = c.loop-rest.invariant.changed.long ∙ sym c.requires.long

pub returns : goal.returns
returns c = let e : c.loop-rest.rest ≡ 0 = c.loop-rest-test.false in rw e at c.loop-rest.invariant.changed
