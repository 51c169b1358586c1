use mathlib.Core.Path.{sym, ap, ◌∙◌}
use mathlib.Core.Bool.{Bool, ◌&&◌}
use Prim.Native.Nat.{◌+◌, ◌<◌}
use native.Mathlib.Omega.{arith}
use lib.ListN.{get_or, drop}
use Rattle.tables.specs.Accept.{all_codes}
use Rattle.tables.proofs.OneByOne.{codes_step}
use Rattle.tables.proofs.EightCodes.{one_code}
use Rattle.tables.proofs.accept.code_at.Goals as goal

pub returns : goal.returns
returns c = let a = c.args in
    let byte : get_or a.codes.now a.i 0 < 256 = omega arith in
    let step = codes_step a.codes.now a.i (omega arith) ∙ ap (λ (f : Bool). f && all_codes (drop (a.i + 1) a.codes.now)) (sym (one_code _ byte)) in
    rw c.from.ensures (byte, step)
