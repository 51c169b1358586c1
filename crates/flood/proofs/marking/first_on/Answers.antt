use Rattle.std.proofs.Common.{◌∙◌, sym, arith}
use Rattle.lists.proofs.Firsts.{first_is, first_none}
use Rattle.flood.proofs.marking.first_on.Goals as goal

pub returns-then-is_below : goal.returns-then-is_below
returns-then-is_below c = let at = c.loop-i in
    (first_is _ 6 at.i c.loop-i-test.true (sym c.is_below.ensures ∙ c.if-is_below.true) at.invariant, c.loop-i-test.true)

pub returns : goal.returns
returns c = first_none _ 6 (λ j h. c.loop-i.invariant j (omega arith))
