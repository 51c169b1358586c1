use Rattle.std.proofs.Common.{◌<◌, sym, ◌∙◌}
use Rattle.std.specs.Slice.Iter.{chunks_rest}
use Rattle.tree.proofs.TargetByTarget.{there_chip, there_after, set_small, sets_after, grown_on, grown_end}
use Rattle.tree.proofs.growing.Grown.grow.Goals as goal

pub add_target-requires : goal.add_target-requires
add_target-requires c = let at = c.loop-target in
    let s = c.args.size in
    let words = chunks_rest at.target-iterator in
    let chip = there_chip words c.in-Some.target.now (chunks_rest c.next.new.self) at.invariant.pairs c.in-Some.ensures.steps.1 _ at.invariant.low in
    let small : c.set_of.result < 1048576 = rw c.set_of.ensures (set_small words c.in-Some.target.now (chunks_rest c.next.new.self) at.invariant.pairs c.in-Some.ensures.steps.1 at.invariant.fine) in
    (c.requires.there, (chip, small))

pub loop-target-preserved : goal.loop-target-preserved
loop-target-preserved c = let at = c.loop-target in
    let s = c.args.size in
    let words = chunks_rest at.target-iterator in
    let cut = c.in-Some.ensures.steps.1 in
    record {
      pairs = c.in-Some.ensures.steps.0 ∙ at.invariant.pairs;
      low = there_after words c.in-Some.target.now (chunks_rest c.next.new.self) at.invariant.pairs cut _ at.invariant.low;
      fine = sets_after words c.in-Some.target.now (chunks_rest c.next.new.self) at.invariant.pairs cut at.invariant.fine;
      same = at.invariant.same ∙ rw (c.add_target.ensures, c.set_of.ensures) (grown_on words c.in-Some.target.now (chunks_rest c.next.new.self) at.invariant.pairs cut s.width s.height c.args.source at.self);
    }

pub returns : goal.returns
returns c = let at = c.loop-target in
    sym (at.invariant.same ∙ grown_end c.args.size.width c.args.size.height c.args.source at.self _ c.in-None.ensures.steps.1.0)
