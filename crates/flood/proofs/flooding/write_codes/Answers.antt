use mathlib.Core.Path.{◌≡◌, ◌∙◌}
use native.Mathlib.Omega.{arith}
use native.Mathlib.Nat.{mod-lt}
use Prim.Native.Nat.{◌-◌}
use Rattle.flood.specs.Marks.{code_on}
use Rattle.flood.proofs.ChipAfterChip.{column_more, codes_whole, some_row}
use Rattle.flood.proofs.Spreads.{codes_on}
use Rattle.flood.proofs.flooding.write_codes.Goals as goal

pub loop-to-preserved : goal.loop-to-preserved
loop-to-preserved c m a = let at = c.loop-to in
    let marks = c.marks_to-marks in
    column_more m c.args.all at.to (code_on c.args.around.now marks.result) at.codes c.write_to.new.codes (omega arith) c.write_to.ensures
    (codes_on m c.args.all at.to c.args.around.now a c.requires.1 (c.args.all - 1) marks.result (omega arith) (marks.ensures m a) (omega arith))
    (at.invariant m a)

pub returns : goal.returns
returns c m a = let at = c.loop-to in
    let all = c.args.all in
    let e : at.to ≡ all = omega arith in
    codes_whole m all a.many_here at.codes (at.auto.codes ∙ c.requires.0) (λ k h. at.invariant m a k h (rw e (mod-lt k (some_row k all h))))
