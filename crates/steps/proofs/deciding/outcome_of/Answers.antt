use mathlib.Core.Path.{◌∙◌}
use Rattle.steps.specs.Deciding.{outcome_of}
use Rattle.steps.proofs.ByRows.{wanted_by_rows}
use Rattle.steps.proofs.deciding.outcome_of.Goals as goal

pub returns : goal.returns
unfolding outcome_of
returns c = let a = c.args in
    let errors = c.errors_of-errors.result in
    let wanted =
    c.wanted_given-wanted.ensures
    ∙ wanted_by_rows errors a.p a.source a.tables.now a.t _ _ c.by_rows-goes.ensures (rw c.rows.ensures at c.looked_up-found.ensures) in
    c.decide.ensures ∙ simp (wanted, c.stamped_of-stamped.ensures, c.errors_of-errors.ensures.0)
