-- `chip::send_all` meets its contract.
use Rattle.buffer.proofs.Sending.{packets_fit, legs_fit, both_sent}
use Rattle.buffer.proofs.chip.send_all.Goals as goal

pub send_packets-requires : goal.send_packets-requires
send_packets-requires c = packets_fit c.args.chip.now c.args.o c.requires

pub send_legs-requires : goal.send_legs-requires
send_legs-requires c = legs_fit c.args.chip.now c.args.o c.requires _ c.send_packets.ensures

pub returns : goal.returns
returns c = both_sent c.args.chip.now c.args.o c.requires _ c.send_packets.ensures _ c.send_legs.ensures
