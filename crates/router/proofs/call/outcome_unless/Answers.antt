use Rattle.std.proofs.Common.{◌∙◌}
use Rattle.steps.specs.Deciding.{outcome_of}
use Rattle.router.proofs.call.outcome_unless.Goals as goal

pub returns-in-Ok : goal.returns-in-Ok
unfolding outcome_of
returns-in-Ok c = c.decide.ensures ∙ simp (c.wanted_of-wanted.ensures, c.stamped_of-stamped.ensures, c.errors_of-errors.ensures.0, c.in-Ok.is)
