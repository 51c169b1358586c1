use Rattle.std.proofs.Common.{arith, ◌≡◌, sym, ap, ◌∙◌, Option, None, ℕ}
use Rattle.std.proofs.lemmas.List.Quantifiers.{position-Some}
use Rattle.tables.specs.declared.Row.{Row}
use Rattle.tables.specs.Rows.{matches, blank_row, row_found}
use Rattle.tables.proofs.LentRows.{position_found}
use Rattle.tables.proofs.search.find.Goals as goal

pub bounds-rows-i : goal.bounds-rows-i
bounds-rows-i c = let rows = c.args.rows.now in
    (position-Some (λ (r : Row). matches c.args.key r.key r.mask) rows c.in-Some.i blank_row (position_found c.args.key rows ∙ sym c.in-Some.ensures)).0

pub offset_bounds-rows-i : goal.offset_bounds-rows-i
offset_bounds-rows-i c = let rows = c.args.rows.now in
    omega (arith, (position-Some (λ (r : Row). matches c.args.key r.key r.mask) rows c.in-Some.i blank_row (position_found c.args.key rows ∙ sym c.in-Some.ensures)).0)

pub returns-in-Some : goal.returns-in-Some
returns-in-Some c = ap (λ (f : Option ℕ). row_found f c.args.rows.now) c.in-Some.ensures

pub returns-in-None : goal.returns-in-None
returns-in-None c = let d = c.default.ensures in
    let none : c.default.result ≡ row_found None c.args.rows.now = λ i. record { found = d.0 i; row = d.1.0 i; route = d.1.1 i } in
    none ∙ ap (λ (f : Option ℕ). row_found f c.args.rows.now) c.in-None.ensures
