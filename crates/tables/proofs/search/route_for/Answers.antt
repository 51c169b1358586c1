use Rattle.std.proofs.Common.{sym, ap, ◌∙◌, Some}
use Rattle.tables.proofs.RowByRow.{match_row}
use Rattle.tables.specs.Rows.{rows_of, matched_of}
use Rattle.tables.proofs.search.route_for.Goals as goal

pub route_at-requires : goal.route_at-requires
route_at-requires c = (match_row _ _ _ (sym c.in_ok-n.ensures)).0

pub returns : goal.returns
returns c = let found : _ = sym c.in_ok-n.ensures in
    sym (ap (matched_of (rows_of c.args.rows.now)) found ∙ ap Some ((match_row _ _ _ found).1 ∙ sym c.route_at.ensures))
