use mathlib.Core.Path.{sym, ◌∙◌}
use native.Mathlib.Omega.{arith}
use Rattle.packet.specs.Packing.{packed_of}
use Rattle.packet.proofs.Packing.{packs_as}
use Rattle.packet.proofs.reading.nn_packed.Goals as goal

pub returns-then-not-nn_in_range : goal.returns-then-not-nn_in_range
unfolding packed_of
returns-then-not-nn_in_range c = c.not_packed.ensures ∙ simp (c.requires.0, c.requires.1, sym c.nn_in_range.ensures ∙ c.if-not-nn_in_range.true)

pub returns : goal.returns
returns c = c.bytes_of.ensures
    ∙ rw c.packet_with.ensures (packs_as c.args.f (simp (c.requires.0, c.requires.1, sym c.nn_in_range.ensures ∙ c.if-not-nn_in_range.false)) _ _ (simp c.requires.0 (omega arith)) (simp c.requires.0))
