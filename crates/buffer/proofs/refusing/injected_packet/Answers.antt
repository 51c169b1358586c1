use Rattle.std.proofs.Common.{lt-ltb}
use Rattle.packet.proofs.Numbers.{told_some}
use Rattle.buffer.proofs.refusing.injected_packet.Goals as goal

pub returns-in-Err-clause-refusal : goal.returns-in-Err-clause-refusal
returns-in-Err-clause-refusal c = rw (c.in-Some.is, c.in-Err.is) (simp (lt-ltb _ _ (rw c.chips.ensures at c.if-chips-chip.false), told_some c.in-Err.wrong.refused))
