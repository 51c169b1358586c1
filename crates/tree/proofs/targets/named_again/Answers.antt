use Rattle.std.proofs.Common.{◌≡◌, refl, sym, ap, ◌∙◌, arith, length-set}
use Rattle.std.specs.Slice.Iter.{chunks_rest, chunks_size}
use Rattle.tree.proofs.TargetByTarget.{there_chip, there_after, none_marked, again_yes, again_on, again_end}
use Rattle.tree.proofs.targets.named_again.Goals as goal

pub loop-target-init : goal.loop-target-init
loop-target-init c = let items = c.chunks-target-items.ensures in
    let same = c.into_iter-target-iterator.ensures.into_iter_gives in
    let rest : chunks_rest c.into_iter-target-iterator.result ≡ c.args.targets.now = ap chunks_rest same ∙ items.rest in
    record { long = refl; pairs = ap chunks_size same ∙ items.size; low = rw rest c.requires; same = rw rest (none_marked _ c.requires) }

pub bounds-named-chip : goal.bounds-named-chip
bounds-named-chip c = let at = c.loop-target in
    let chip = there_chip (chunks_rest at.target-iterator) c.in-Some.target.now (chunks_rest c.next.new.self) at.invariant.pairs c.in-Some.ensures.steps.1 144 at.invariant.low in
    omega (arith, at.invariant.long)

pub bounds-named-chip-in-loop-target : goal.bounds-named-chip-in-loop-target
bounds-named-chip-in-loop-target c = let at = c.loop-target in
    let chip = there_chip (chunks_rest at.target-iterator) c.in-Some.target.now (chunks_rest c.next.new.self) at.invariant.pairs c.in-Some.ensures.steps.1 144 at.invariant.low in
    omega (arith, at.invariant.long)

pub returns-then-named-chip : goal.returns-then-named-chip
returns-then-named-chip c = let at = c.loop-target in
    sym (at.invariant.same ∙ again_yes (chunks_rest at.target-iterator) c.in-Some.target.now (chunks_rest c.next.new.self) at.invariant.pairs c.in-Some.ensures.steps.1 at.named c.if-named-chip.true)

pub loop-target-preserved : goal.loop-target-preserved
loop-target-preserved c = let at = c.loop-target in
    let words = chunks_rest at.target-iterator in
    let cut = c.in-Some.ensures.steps.1 in
    record {
      long = simp length-set at.invariant.long;
      pairs = c.in-Some.ensures.steps.0 ∙ at.invariant.pairs;
      low = there_after words c.in-Some.target.now (chunks_rest c.next.new.self) at.invariant.pairs cut 144 at.invariant.low;
      same = at.invariant.same ∙ again_on words c.in-Some.target.now (chunks_rest c.next.new.self) at.invariant.pairs cut at.named c.if-named-chip.false;
    }

pub returns : goal.returns
returns c = let at = c.loop-target in
    sym (at.invariant.same ∙ again_end at.named _ c.in-None.ensures.steps.1.0)
