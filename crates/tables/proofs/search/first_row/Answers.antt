use Rattle.std.proofs.Common.{rules, tests, ◌∙◌}
use Rattle.std.proofs.lemmas.Iterator.{YieldsList-from_slice}
use Rattle.std.proofs.lemmas.Iterator.Search.{position_from_yields_List}
use Rattle.tables.specs.declared.Row.{Row}
use Rattle.tables.specs.Rows.{matches}
use Rattle.tables.proofs.LentRows.{position_found}
use Rattle.tables.proofs.search.first_row.Goals as goal

pub returns : goal.returns
returns c = let rows = c.args.rows.now in
    position_from_yields_List (λ (r : Row). matches c.args.key r.key r.mask) _ _ _ c.position.ensures.ran (YieldsList-from_slice rows cc) (λ x b q k. search (rules, tests)) ∙ position_found c.args.key rows
