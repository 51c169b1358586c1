use Rattle.flood.specs.Marks.{code_on}
use Rattle.flood.proofs.Columns.{SoFar}
use Rattle.flood.proofs.flooding.write_to.Given as goal

abbrev pub invariant-loop-from : goal.invariant-loop-from
invariant-loop-from l = SoFar l.all l.to l.from (code_on l.around l.marks) l.initial.codes l.codes
