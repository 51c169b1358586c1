use mathlib.Core.Path.{sym, ap₂, ◌∙◌}
use Prim.Native.Nat.{ℕ}
use Rattle.std.specs.Prelude.{Option}
use Rattle.tables.specs.Rows.{rows_of, route_for}
use Rattle.steps.specs.Wants.{match_wanted, wanted_of}
use Rattle.steps.proofs.ByRows.{as_matched, as_missed}
use Rattle.steps.proofs.wants.wanted_of.Goals as goal

pub other_wanted-requires : goal.other_wanted-requires
other_wanted-requires c = (sym c.by_rows.ensures ∙ c.if-by_rows.false, c.requires.1)

pub returns-then-by_rows : goal.returns-then-by_rows
unfolding wanted_of
returns-then-by_rows c = let a = c.args in
    c.match_wanted.ensures
    ∙ ap₂ (λ (m : Option ℕ) (n : ℕ). match_wanted m n a.source a.t.monitor) (rw c.rows.ensures at c.route_for.ensures) c.mark_of.ensures
    ∙ sym (as_matched a.errors a.p a.source (route_for a.p.word (rows_of a.tables.now.rows)) a.tables.now.codes a.tables.now.fixed a.t (sym c.by_rows.ensures ∙ c.if-by_rows.true))

pub returns-else-by_rows : goal.returns-else-by_rows
unfolding wanted_of
returns-else-by_rows c = let a = c.args in
    c.alone.ensures ∙ c.other_wanted.ensures
    ∙ sym (as_missed a.errors a.p a.source (route_for a.p.word (rows_of a.tables.now.rows)) a.tables.now.codes a.tables.now.fixed a.t (sym c.by_rows.ensures ∙ c.if-by_rows.false))
