-- `rows::write_row` meets its contract.
use Rattle.std.proofs.Common.{Some, None, true, false, Bool, cond, ◌≡◌, ℕ, Option, refl, sym, ◌∙◌}
use Rattle.tree.specs.Rows.{entered_at, route_at, has_row}
use Rattle.tree.proofs.RowByRow.{one_row}
use Rattle.tree.proofs.rows.write_row.Goals as goal

-- a row that is there, and one that is not
there : (b : Bool) (route r : ℕ) → cond {A = Option ℕ} b (Some route) None ≡ Some r → (b ≡ true) × (r ≡ route)
there true route r e = (refl, cc)
there false route r e = absurd cc

none : (b : Bool) (route : ℕ) → cond {A = Option ℕ} b (Some route) None ≡ None → b ≡ false
none true route e = absurd cc
none false route e = refl

pub returns : goal.returns
returns c = let a = c.args in
    let found = there (has_row a.tree.now a.chip) (route_at a.tree.now a.chip) c.in-Some.route (sym c.row.ensures ∙ c.in-Some.is) in
    let one = one_row a.key a.mask (entered_at a.tree.now a.chip) (route_at a.tree.now a.chip) a.count a.rows.now found.0 c.requires.1 in
    record { value = one.0; rows_after = rw found.1 one.1 }
