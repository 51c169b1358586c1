use Rattle.std.proofs.Common.{sym, subst, arith}
use Rattle.mesh.specs.Lending.{Tables}
use Rattle.mesh.specs.Refusals.{Lent}
use Rattle.mesh.proofs.Cuts.{rows_below, rows_end}
use Rattle.mesh.proofs.lent.Tables.chip.Goals as goal

pub slice_bounds-new-count : goal.slice_bounds-new-count
slice_bounds-new-count c = let lent = subst (λ (t : Tables). Lent t c.args.chips) (sym c.self.view_is) c.requires.lent in
    omega (arith, rows_below _ _ _ lent c.requires.there, rows_end _ _ _ lent c.requires.there)

pub slice_bounds-new-start : goal.slice_bounds-new-start
slice_bounds-new-start c = let lent = subst (λ (t : Tables). Lent t c.args.chips) (sym c.self.view_is) c.requires.lent in
    omega (arith, rows_below _ _ _ lent c.requires.there, rows_end _ _ _ lent c.requires.there)

pub slice_bounds-new-end : goal.slice_bounds-new-end
slice_bounds-new-end c = let lent = subst (λ (t : Tables). Lent t c.args.chips) (sym c.self.view_is) c.requires.lent in
    omega (arith, rows_below _ _ _ lent c.requires.there, rows_end _ _ _ lent c.requires.there)
