use Rattle.std.proofs.Common.{◌∙◌, sym, refl}
use Rattle.groups.proofs.Sampling.{taken_by_mark}
use Rattle.groups.proofs.paying.is_taken.Goals as goal

pub returns-else-not-fixes_top : goal.returns-else-not-fixes_top
returns-else-not-fixes_top c =
    sym (taken_by_mark c.args.rows.now c.args.marks.now c.args.i c.top_of.result _ c.requires.0 (sym c.fixes_top.ensures ∙ c.if-not-fixes_top.false) c.top_of.ensures.0 refl)
