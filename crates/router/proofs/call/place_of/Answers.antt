use mathlib.Core.Path.{◌∙◌}
use Prim.Native.Nat.{◌+◌, ◌/◌}
use native.Mathlib.Omega.{arith}
use borrow.Author.Tests.{eq-eqb, ne_eqb}
use lib.ListN.{length}
use Rattle.lists.proofs.Firsts.{first_most}
use Rattle.tables.specs.Places.{row_wrong}
use Rattle.router.proofs.call.place_of.Goals as goal

pub overflow_cast-result : goal.overflow_cast-result
overflow_cast-result c = let rows = c.args.rows.now in
    omega (arith, c.requires c.if-refusal-eq17.true, c.route_place.ensures, first_most (row_wrong rows) (length rows / 3 + 1))

pub returns-then-refusal-eq17 : goal.returns-then-refusal-eq17
returns-then-refusal-eq17 c = c.route_place.ensures ∙ simp (eq-eqb c.args.refusal 17 c.if-refusal-eq17.true)

pub returns : goal.returns
returns c = simp (ne_eqb c.args.refusal 17 c.if-refusal-eq17.false)
