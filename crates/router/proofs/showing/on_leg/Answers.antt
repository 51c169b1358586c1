use mathlib.Core.Path.{◌∙◌}
use borrow.Author.Tests.{eq-eqb, ne_eqb}
use Rattle.router.proofs.showing.on_leg.Goals as goal

pub returns-then-o-eq0 : goal.returns-then-o-eq0
returns-then-o-eq0 c = c.no_packet.ensures ∙ simp (eq-eqb _ _ c.if-o-eq0.true)

pub returns-else-o-eq0 : goal.returns-else-o-eq0
returns-else-o-eq0 c = c.leg_packet.ensures ∙ simp (ne_eqb _ _ c.if-o-eq0.false)
