use mathlib.Core.Path.{◌≡◌, refl, sym, ap, ◌∙◌}
use mathlib.Core.Bool.{true, false}
use Prim.Native.Nat.{◌/◌, ◌%◌, ◌+◌}
use native.Mathlib.Omega.{arith}
use borrow.Author.Count.{below_more}
use borrow.Author.Tests.{eq-eqb, ne_eqb}
use lib.ListN.{length}
use Rattle.lists.proofs.Firsts.{first_is, first_none}
use Rattle.tables.specs.Rows.{Entry, rows_of, route_at}
use Rattle.tables.specs.Places.{row_wrong}
use Rattle.tables.proofs.RowsByNumber.{row_at}
use Rattle.tables.proofs.places.route_place.Goals as goal

pub loop-i-preserved : goal.loop-i-preserved
loop-i-preserved c = let rows = c.args.rows.now in
    let i = c.loop-i.i in
    let route : route_at (rows_of rows) i ≡ c.route_at.result = ap (λ (r : Entry). r.route) (row_at rows i (omega arith)) ∙ sym c.route_at.ensures in
    let fine : row_wrong rows i ≡ false = simp (ne_eqb i (length rows / 3) (λ z. omega arith), route, sym c.route_fine.ensures ∙ c.if-not-route_fine.false) in
    below_more _ _ c.loop-i.invariant fine

pub returns-then-not-route_fine : goal.returns-then-not-route_fine
returns-then-not-route_fine c = let rows = c.args.rows.now in
    let i = c.loop-i.i in
    let route : route_at (rows_of rows) i ≡ c.route_at.result = ap (λ (r : Entry). r.route) (row_at rows i (omega arith)) ∙ sym c.route_at.ensures in
    let wrong : row_wrong rows i ≡ true = simp (ne_eqb i (length rows / 3) (λ z. omega arith), route, sym c.route_fine.ensures ∙ c.if-not-route_fine.true) in
    sym (first_is (row_wrong rows) (length rows / 3 + 1) i (omega arith) wrong c.loop-i.invariant)

pub returns-then-rows-ne0 : goal.returns-then-rows-ne0
returns-then-rows-ne0 c = let at = c.loop-i in
    let rows = c.args.rows.now in
    let wrong : row_wrong rows (length rows / 3) ≡ true = simp (eq-eqb (length rows / 3) (length rows / 3) refl, ne_eqb (length rows % 3) 0 c.if-rows-ne0.true) in
    sym (first_is (row_wrong rows) (length rows / 3 + 1) (length rows / 3) (omega arith) wrong (λ j h. at.invariant j (omega arith)))

pub returns : goal.returns
returns c = let at = c.loop-i in
    let rows = c.args.rows.now in
    let fine : row_wrong rows (length rows / 3) ≡ false = simp (eq-eqb (length rows / 3) (length rows / 3) refl, eq-eqb (length rows % 3) 0 c.if-rows-ne0.false) in
    sym (first_none (row_wrong rows) (length rows / 3 + 1) (below_more _ _ (λ j h. at.invariant j (omega arith)) fine))
