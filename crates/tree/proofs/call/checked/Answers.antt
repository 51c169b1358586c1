use Rattle.std.proofs.Common.{◌≤◌, sym, ◌∙◌, arith}
use Rattle.tables.proofs.Sizes.{chips_small}
use Rattle.tree.specs.Growing.{targets_of}
use Rattle.tree.proofs.TargetByTarget.{there_more}
use Rattle.tree.proofs.call.checked.Goals as goal

pub named_again-requires : goal.named_again-requires
named_again-requires c = let a = c.args in
    let fine = sym c.size_fine.ensures ∙ c.if-not-size_fine.false in
    let few : c.chips-all.result ≤ 144 = omega (arith, c.chips-all.ensures, chips_small a.width a.height fine) in
    there_more c.chips-all.result 144 (targets_of a.targets.now) few (sym c.all_there.ensures ∙ c.if-not-all_there.false)
