use mathlib.Core.Path.{refl, sym, ◌∙◌}
use borrow.Author.Tests.{ltb-true}
use Prim.Native.Nat.{◌+◌, ◌%◌, ◌^◌}
use native.Mathlib.Nat.{mod-lt}
use lib.Dec.{ltb, lit<}
use Rattle.packet.proofs.Small.{every, at}
use Rattle.steps.proofs.deciding.leg_set.Goals as goal

pub returns-then-has_leg : goal.returns-then-has_leg
unfolding every
returns-then-has_leg c = let e = c.args.source in (
  c.bit.ensures ∙ simp (sym c.has_leg.ensures ∙ c.if-has_leg.true),
  rw c.bit.ensures (ltb-true _ _ (at 6 (λ i. ltb (2 ^ i) 64) refl ((e + 5) % 6) (mod-lt (e + 5) (lit< tt)))),
)

pub returns-else-has_leg : goal.returns-else-has_leg
returns-else-has_leg c = (simp (sym c.has_leg.ensures ∙ c.if-has_leg.false), lit< tt)
