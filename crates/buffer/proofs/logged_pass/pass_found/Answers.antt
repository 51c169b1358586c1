use Rattle.buffer.proofs.LoggedPasses as logged
use Rattle.buffer.proofs.logged_pass.pass_found.Goals as goal

pub returns : goal.returns
returns c = let own = rw (c.codes.ensures, c.fixed.ensures) at c.new-own.ensures in
    logged.passed_route c.args.tables.now _ _ _ _ _ _ _ _ (rw c.rows.ensures at c.found_row-found.ensures) (rw own at c.pass_one.ensures)
