-- `holding::registers_fine` meets its contract: empty registers by the law of their zeros, others number by number.
use Rattle.std.proofs.Common.{sym, ◌∙◌, ne_eqb}
use mathlib.Core.Bool.{and-true}
use Rattle.mesh.proofs.SoundRegisters.{zeros_decide}
use Rattle.buffer.proofs.holding.registers_fine.Goals as goal

pub returns-then-r-eq0 : goal.returns-then-r-eq0
returns-then-r-eq0 c = c.all_zeros.ensures ∙ sym (zeros_decide c.args.r c.if-r-eq0.true)

pub returns : goal.returns
returns c = let r = c.args.r in
    simp (c.more_of.ensures, ne_eqb r.units 0 c.if-r-eq0.false, and-true)
