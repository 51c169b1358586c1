use mathlib.Core.Path.{◌≡◌, sym, ap, ◌∙◌}
use mathlib.Core.Bool.{Bool, ◌&&◌}
use Prim.Native.Nat.{◌+◌, ◌*◌, ◌/◌}
use native.Mathlib.Omega.{arith}
use borrow.Author.Tests.{eq-eqb}
use lib.Dec.{ltb}
use lib.ListN.{length}
use Rattle.tables.proofs.OneByOne.{or_on, two_on}
use Rattle.tables.proofs.accept.routes_fine.Goals as goal

pub loop-i-preserved : goal.loop-i-preserved
loop-i-preserved c = let at = c.loop-i in
    let next : at.i * 8 + 4 + 4 ≡ (at.i + 1) * 8 = omega arith in
    let turn = c.four_routes-joined.ensures ∙ ap (λ (r : Bool). ltb c.four_routes-joined.result 67108864 && r) (rw next at c.four_routes-other.ensures) in
    two_on 26 at.joined at.other _ _ _ _ (at.invariant ∙ ap (λ (r : Bool). ltb at.joined 67108864 && (ltb at.other 67108864 && r)) turn)

pub returns : goal.returns
returns c = let at = c.loop-i in
    let all : at.i ≡ length c.args.rows.now / 3 / 8 = omega arith in
    let turns = rw all at (or_on 26 at.joined at.other _ _ at.invariant) in
    sym (simp (eq-eqb _ _ c.if-rows-ne0.false) (turns ∙ c.last_routes.ensures))
