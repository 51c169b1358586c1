-- `chip::send_legs` meets its contract. The loop's invariant: all links of the set but the rest have been gone through. The measure is the rest, as a number.
use Rattle.steps.specs.Deciding.{leg_packet}
use Rattle.buffer.proofs.Sending.{Pushed}
use Rattle.buffer.proofs.chip.send_legs.Given as goal

abbrev pub invariant-loop-rest : goal.invariant-loop-rest
invariant-loop-rest l = Pushed l.o.leg_sent (λ _. leg_packet l.o) l.rest l.initial.chip l.chip

abbrev pub decreases-loop-rest : goal.decreases-loop-rest
decreases-loop-rest l = l.rest
