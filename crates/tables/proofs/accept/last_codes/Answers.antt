use mathlib.Core.Path.{ap, ◌∙◌}
use mathlib.Core.Bool.{Bool, ◌&&◌, and-true}
use native.Mathlib.Omega.{arith}
use Rattle.tables.proofs.EightCodes.{clear, clear_or}
use Rattle.tables.proofs.OneByOne.{codes_end}
use Rattle.tables.proofs.accept.last_codes.Goals as goal

pub loop-i-preserved : goal.loop-i-preserved
loop-i-preserved c = let at = c.loop-i in
    clear_or at.joined _ _ _ (at.invariant ∙ ap (λ (r : Bool). clear at.joined && r) c.code_at-joined.ensures.1)

pub returns : goal.returns
returns c = let at = c.loop-i in
    at.invariant ∙ ap (λ (r : Bool). clear at.joined && r) (codes_end c.args.codes.now at.i (omega arith)) ∙ and-true _
