use borrow.Author.Tests.{le-ltb}
use mathlib.Core.Bool.{and-false}
use mathlib.Core.Path.{sym, ◌∙◌}
use Prim.Native.Nat.{◌<◌}
use native.Mathlib.Omega.{arith}
use Rattle.packet.specs.Packing.{packed_of}
use Rattle.packet.proofs.reading.pack.Goals as goal

pub returns-then-not-end_in_range : goal.returns-then-not-end_in_range
unfolding packed_of
returns-then-not-end_in_range c = c.not_packed.ensures ∙ simp (sym c.end_in_range.ensures ∙ c.if-not-end_in_range.true, and-false)

pub returns-in-Err : goal.returns-in-Err
unfolding packed_of
returns-in-Err c = let at : _ × (3 < c.args.f.kind) = c.in-Err.ensures in
    c.not_packed-in-Err.ensures ∙ simp (c.from.ensures, at.0, le-ltb c.args.f.kind 4 (omega (arith, at.1)))
