use mathlib.Core.Bool.{and-false}
use mathlib.Core.Path.{sym, ◌∙◌}
use native.Mathlib.Omega.{arith}
use Rattle.packet.specs.Packing.{packed_of}
use Rattle.packet.proofs.Packing.{packs_as}
use Rattle.packet.proofs.Ranges.{marked_kind}
use Rattle.packet.proofs.reading.marked_packed.Goals as goal

pub returns-then-not-marked_in_range : goal.returns-then-not-marked_in_range
unfolding packed_of
returns-then-not-marked_in_range c = let kind = marked_kind c.args.f.kind c.requires.0 in
    c.not_packed.ensures ∙ simp (kind.other, kind.another, and-false, sym c.marked_in_range.ensures ∙ c.if-not-marked_in_range.true)

pub returns : goal.returns
returns c = let kind = marked_kind c.args.f.kind c.requires.0 in
    c.bytes_of.ensures
    ∙ rw c.packet_with.ensures (packs_as c.args.f (simp (kind.other, kind.another, kind.used, c.requires.1, sym c.marked_in_range.ensures ∙ c.if-not-marked_in_range.false)) _ _ (simp (kind.other, kind.another) (omega arith)) (simp kind.other))
