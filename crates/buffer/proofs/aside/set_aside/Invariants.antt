use Rattle.buffer.specs.Aside.{AsideUpto}
use Rattle.buffer.proofs.aside.set_aside.Given as goal

abbrev pub invariant-loop-i : goal.invariant-loop-i
invariant-loop-i l = AsideUpto l.count l.i l.initial.mesh l.mesh
