use Rattle.std.proofs.Common.{sym, ap, ◌∙◌}
use Rattle.std.specs.Slice.Iter.{chunks_rest}
use Rattle.tree.specs.Call.{set_fine}
use Rattle.tree.proofs.TargetByTarget.{sets_on, sets_not, sets_end}
use Rattle.tree.proofs.targets.sets_fine.Goals as goal

pub returns-then-not-set_fine : goal.returns-then-not-set_fine
returns-then-not-set_fine c = let at = c.loop-target in
    let bad = ap set_fine (sym c.set_of.ensures) ∙ sym c.set_fine.ensures ∙ c.if-not-set_fine.true in
    sym (at.invariant.same ∙ sets_not (chunks_rest at.target-iterator) c.in-Some.target.now (chunks_rest c.next.new.self) at.invariant.pairs c.in-Some.ensures.steps.1 bad)

pub loop-target-preserved : goal.loop-target-preserved
loop-target-preserved c = let at = c.loop-target in
    let fine = ap set_fine (sym c.set_of.ensures) ∙ sym c.set_fine.ensures ∙ c.if-not-set_fine.false in
    record {
      pairs = c.in-Some.ensures.steps.0 ∙ at.invariant.pairs;
      same = at.invariant.same ∙ sets_on (chunks_rest at.target-iterator) c.in-Some.target.now (chunks_rest c.next.new.self) at.invariant.pairs c.in-Some.ensures.steps.1 fine;
    }

pub returns : goal.returns
returns c = let at = c.loop-target in
    sym (at.invariant.same ∙ sets_end _ c.in-None.ensures.steps.1.0)
