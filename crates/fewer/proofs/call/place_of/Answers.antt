-- `call::place_of` meets its contract: there are few rows where the refusal is 17, so that the row's number fits.
use Prim.Native.Nat.{◌+◌, ◌/◌}
use native.Mathlib.Omega.{arith}
use lib.ListN.{length}
use Rattle.lists.proofs.Firsts.{first_most}
use Rattle.tables.specs.Places.{row_wrong}
use mathlib.Core.Path.{ap}
use Rattle.packet.specs.Refused.{number_of}
use Rattle.fewer.proofs.call.place_of.Goals as goal

pub overflow_cast-result : goal.overflow_cast-result
overflow_cast-result c = let few = c.requires (λ e. omega (arith, e, ap number_of c.in-RouteBits.is)) in
    omega (arith, c.route_place.ensures, first_most (row_wrong c.args.rows.now) (length c.args.rows.now / 3 + 1), few)
