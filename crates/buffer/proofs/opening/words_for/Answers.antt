use Rattle.std.proofs.Common.{arith}
use Rattle.tables.proofs.Sizes.{chips_small}
use Rattle.buffer.proofs.opening.words_for.Goals as goal

pub overflow_mul-result : goal.overflow_mul-result
overflow_mul-result c = omega (arith, c.chips.ensures, chips_small c.args.width c.args.height c.requires)

pub overflow_add-result : goal.overflow_add-result
overflow_add-result c = omega (arith, c.chips.ensures, chips_small c.args.width c.args.height c.requires)

pub returns : goal.returns
returns c = simp c.chips.ensures
