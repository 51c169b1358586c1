-- `testing::place_in` meets its contract: a place is at most one more than the chips or, where the starts are right and the rows few, than 1,024 rows a chip, so that it fits.
use Rattle.std.proofs.Common.{◌≡◌, ◌+◌, ◌/◌, length, ap, arith}
use mathlib.Core.Bool.{and-eq-true_iff}
use Rattle.packet.specs.Refused.{number_of}
use Rattle.lists.proofs.Firsts.{first_most}
use Rattle.tables.specs.Accept.{starts_right, rows_few}
use Rattle.tables.specs.Places.{start_wrong, crowded, row_wrong, fixed_wrong}
use Rattle.tables.proofs.Starts.{rows_most}
use Rattle.buffer.proofs.testing.place_in.Goals as goal

pub overflow_cast-result : goal.overflow_cast-result
overflow_cast-result c = omega (arith, c.requires.1.0, c.starts_place.ensures, first_most (start_wrong c.starts.result.now c.args.chips (length c.rows.result.now / 3)) (c.args.chips + 1))

pub overflow_cast-result-in-ManyRows : goal.overflow_cast-result-in-ManyRows
overflow_cast-result-in-ManyRows c = omega (arith, c.requires.1.0, c.crowd_place.ensures, first_most (crowded c.starts-in-ManyRows.result.now) c.args.chips)

pub overflow_cast-result-in-RouteBits : goal.overflow_cast-result-in-RouteBits
overflow_cast-result-in-RouteBits c = let t = c.args.tables.now in
    let rows = length t.rows / 3 in
    let number : number_of c.args.refused ≡ 17 = ap number_of c.in-RouteBits.is in
    let right = c.requires.1.1.right (omega arith) in
    let few = c.requires.1.1.few (omega arith) in
    let most = rows_most t.starts c.args.chips rows ((and-eq-true_iff (starts_right t.starts c.args.chips rows) (rows_few t.starts)).1 (right, few)) in
    omega (arith, c.requires.1.0, most, rw c.rows-in-RouteBits.ensures at c.route_place.ensures, first_most (row_wrong t.rows) (rows + 1))

pub overflow_cast-result-in-FixedRoutes : goal.overflow_cast-result-in-FixedRoutes
overflow_cast-result-in-FixedRoutes c = omega (arith, c.requires.1.0, c.fixed_place.ensures, first_most (fixed_wrong c.fixed.result.now c.args.chips) c.args.chips)
