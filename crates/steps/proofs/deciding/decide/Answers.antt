use Rattle.std.proofs.Common.{sym, ◌∙◌}
use Rattle.steps.specs.Deciding.{decided}
use Rattle.steps.proofs.deciding.decide.Goals.{then-is_marked, else-is_marked}
use Rattle.steps.proofs.deciding.decide.Goals as goal

pub returns : goal.returns
unfolding decided
returns c = elim c.if-is_marked.branch [
  | then-is_marked w ↦ simp (c.plain_send_set-2.ensures, c.plain_drop_set-2.ensures, w.sent-is, w.drop_set.ensures, w.carry_set.ensures, w.send_set.ensures, c.leg_set-leg.ensures.0, sym c.is_marked.ensures ∙ w.if-is_marked.true)
  | else-is_marked w ↦ simp (c.plain_send_set-2.ensures, c.plain_drop_set-2.ensures, w.sent-is, w.plain_drop_set.ensures, w.plain_send_set.ensures, c.leg_set-leg.ensures.0, sym c.is_marked.ensures ∙ w.if-is_marked.false)
]
