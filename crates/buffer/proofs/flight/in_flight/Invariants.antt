-- `mesh::flight::in_flight` meets its contract. The loop's invariant: there is room for the chips, and the sum so far is what those below `i` hold.
-- The measure is what is left of the chips.
use Rattle.buffer.proofs.HoldsMesh.{Chips}
use Rattle.buffer.proofs.Flights.{Summed}
use Rattle.buffer.proofs.flight.in_flight.Given as goal

abbrev pub invariant-loop-i : goal.invariant-loop-i
invariant-loop-i l = Chips l.mesh l.count × Summed l.mesh l.count l.i l.sum
