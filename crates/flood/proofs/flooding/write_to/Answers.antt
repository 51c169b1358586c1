use Rattle.flood.specs.Marks.{code_on}
use Rattle.flood.proofs.Columns.{one_more}
use Rattle.flood.proofs.flooding.write_to.Goals as goal

pub loop-from-preserved : goal.loop-from-preserved
loop-from-preserved c = let at = c.loop-from in
    rw c.code_on.ensures (one_more c.args.all c.args.to at.from (code_on c.args.around.now c.args.marks.now) c.args.codes.now at.codes c.requires.1.1 c.loop-from-test.true c.requires.0 at.invariant)
