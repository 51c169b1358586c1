use Rattle.std.proofs.Common.{◌≡◌, ◌+◌, ◌-◌, arith, length-set, ◌∙◌}
use Rattle.flood.proofs.Spreads.{reached_first, level_after}
use Rattle.flood.proofs.marking.marks_to.Goals as goal

pub loop-level-init : goal.loop-level-init
loop-level-init c = record { long = simp length-set; reached = λ m a. reached_first m c.args.all c.args.to c.requires.0 c.requires.1 a.many_here }

pub loop-level-preserved : goal.loop-level-preserved
loop-level-preserved c = let at = c.loop-level in
    let back : at.level + 1 - 1 ≡ at.level = omega arith in
    record {
      long = c.spread.ensures.long;
      reached = λ m a. rw back (rw c.if-not-spread.false at (level_after m c.args.all c.args.to c.args.around.now a c.requires.1 at.level at.marks c.spread.new.marks c.spread.result (omega (arith, at.auto.level)) (omega arith) (at.invariant.reached m a) c.spread.ensures));
    }

pub returns-then-not-spread : goal.returns-then-not-spread
returns-then-not-spread c m a k h = let at = c.loop-level in
    let r = level_after m c.args.all c.args.to c.args.around.now a c.requires.1 at.level at.marks c.spread.new.marks c.spread.result (omega (arith, at.auto.level)) (omega arith) (at.invariant.reached m a) c.spread.ensures in
    r.each k h ∙ r.over c.if-not-spread.true k h
