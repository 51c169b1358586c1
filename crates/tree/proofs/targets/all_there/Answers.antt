use Rattle.std.proofs.Common.{sym, ◌∙◌}
use Rattle.std.specs.Slice.Iter.{chunks_rest}
use Rattle.tree.proofs.TargetByTarget.{there_on, there_not, there_end}
use Rattle.tree.proofs.targets.all_there.Goals as goal

pub returns-then-all-target : goal.returns-then-all-target
returns-then-all-target c = let at = c.loop-target in
    sym (at.invariant.same ∙ there_not (chunks_rest at.target-iterator) c.in-Some.target.now (chunks_rest c.next.new.self) at.invariant.pairs c.in-Some.ensures.steps.1 c.args.all c.if-all-target.true)

pub loop-target-preserved : goal.loop-target-preserved
loop-target-preserved c = let at = c.loop-target in
    record {
      pairs = c.in-Some.ensures.steps.0 ∙ at.invariant.pairs;
      same = at.invariant.same ∙ there_on (chunks_rest at.target-iterator) c.in-Some.target.now (chunks_rest c.next.new.self) at.invariant.pairs c.in-Some.ensures.steps.1 c.args.all c.if-all-target.false;
    }

pub returns : goal.returns
returns c = let at = c.loop-target in
    sym (at.invariant.same ∙ there_end c.args.all _ c.in-None.ensures.steps.1.0)
