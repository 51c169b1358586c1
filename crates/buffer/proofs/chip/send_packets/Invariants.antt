-- `chip::send_packets` meets its contract. The loop's invariant: all links of the set but the rest have been gone through. The measure is the rest, as a number.
use Rattle.steps.specs.Deciding.{packet_on}
use Rattle.buffer.proofs.Sending.{Pushed}
use Rattle.buffer.proofs.chip.send_packets.Given as goal

abbrev pub invariant-loop-rest : goal.invariant-loop-rest
invariant-loop-rest l = Pushed l.o.sent (packet_on l.o) l.rest l.initial.chip l.chip

abbrev pub decreases-loop-rest : goal.decreases-loop-rest
decreases-loop-rest l = l.rest
