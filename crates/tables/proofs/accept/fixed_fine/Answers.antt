use Rattle.std.proofs.Common.{rules, ◌≡◌, fold, bit_or, eq-eqb}
use Rattle.tables.proofs.OneByOne.{fixed_folded}
use Rattle.tables.proofs.accept.fixed_fine.Goals as goal

pub returns-then-fixed-count : goal.returns-then-fixed-count
returns-then-fixed-count c =
    let joined : c.fold.result ≡ fold bit_or 0 c.args.fixed.now = search rules in
    simp (eq-eqb _ _ c.if-fixed-count.true, joined) (fixed_folded 0 c.args.fixed.now)
