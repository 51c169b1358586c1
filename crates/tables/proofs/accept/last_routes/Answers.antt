use Prim.Native.Nat.{◌+◌, ◌*◌, ◌<◌}
use native.Mathlib.Omega.{arith}
use lib.ListN.{length}
use Rattle.tables.proofs.OneByOne.{routes_joined, routes_last}
use Rattle.tables.proofs.accept.last_routes.Goals as goal

pub loop-i-preserved : goal.loop-i-preserved
loop-i-preserved c = let at = c.loop-i in
    let rows = c.args.rows.now in
    let fits : at.i * 3 + 2 < length rows = omega arith in
    rw c.route_at-joined.ensures (routes_joined rows at.i _ at.joined fits at.invariant)

pub returns : goal.returns
returns c = let at = c.loop-i in routes_last _ at.i _ at.joined (omega arith) at.invariant
