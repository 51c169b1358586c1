use Rattle.std.proofs.Common.{eqb, ap, ◌∙◌, eqb-true}
use mathlib.Core.Bool.{and-eq-true_iff}
use Rattle.packet.proofs.Folded.{ones_zero}
use Rattle.kept.specs.declared.Registers.{Registers}
use Rattle.kept.specs.Keeping.{kept_of}
use Rattle.lists.proofs.Six.{nine}
use Rattle.buffer.specs.Layout.{register_words}
use Rattle.buffer.proofs.chip.keep.Goals as goal

pub returns-then-o : goal.returns-then-o
returns-then-o c = let o = c.args.o in
    let none = (and-eq-true_iff (eqb o.dropped 0) (eqb o.leg_dropped 0)).0 c.if-o.true in
    nine c.args.words.now c.requires.0 ∙ simp (eqb-true o.dropped 0 none.0, eqb-true o.leg_dropped 0 none.1, ones_zero)

pub returns : goal.returns
returns c = let o = c.args.o in
    c.put_registers.ensures ∙ ap register_words (c.kept_of-k.ensures ∙ ap (λ (r : Registers). kept_of r o) c.registers_at.ensures)
