use Rattle.buffer.specs.ChipWords.{ChangedBut, from}
use Rattle.buffer.specs.Aside.{aside_on}
use Rattle.buffer.proofs.aside.chip_aside.Given as goal

abbrev pub invariant-loop-i : goal.invariant-loop-i
invariant-loop-i l = ChangedBut aside_on (from l.i) l.initial.chip l.chip
