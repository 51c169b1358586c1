use mathlib.Core.Path.{◌≡◌, ap, ◌∙◌}
use mathlib.Core.Bool.{Bool, ◌&&◌}
use Prim.Native.Nat.{◌+◌, ◌*◌}
use native.Mathlib.Omega.{arith}
use Rattle.tables.proofs.EightCodes.{clear, clear_or}
use Rattle.tables.proofs.accept.codes_fine.Goals as goal

pub loop-i-preserved : goal.loop-i-preserved
loop-i-preserved c = let at = c.loop-i in
    let next : at.i * 8 + 8 ≡ (at.i + 1) * 8 = omega arith in
    let turn = rw next at c.eight_codes-joined.ensures.1 in
    clear_or at.joined _ _ _ (at.invariant ∙ ap (λ (r : Bool). clear at.joined && r) turn)
