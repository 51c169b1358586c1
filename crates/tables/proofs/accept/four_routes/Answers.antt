use Rattle.tables.proofs.OneByOne.{routes_four}
use Rattle.tables.proofs.accept.four_routes.Goals as goal

pub returns : goal.returns
returns c = let a = c.args in
    rw (c.route_at.ensures, c.route_at-2.ensures, c.route_at-3.ensures, c.route_at-4.ensures)
    (routes_four a.rows.now a.i c.requires)
