-- `steps::detour::plain_drop_set` meets its contract, which is computed at every pair of sets.
use mathlib.Core.Path.{refl}
use mathlib.Core.Bool.{Bool}
use Prim.Native.Nat.{ℕ}
use lib.Bits.{bit_and, bit_xor}
use lib.Dec.{eqb}
use borrow.Author.Tests.{eqb-true}
use Rattle.packet.proofs.Small.{every, every₂, at₂}
use Rattle.steps.specs.Detour.{plain_drop_set}
use Rattle.steps.proofs.detour.plain_drop_set.Goals as goal

right : ℕ → ℕ → Bool
right w r = eqb (bit_xor w (bit_and w r)) (plain_drop_set w r)

pub returns : goal.returns
unfolding every every₂ right
returns c = eqb-true _ _ (at₂ 64 64 right refl c.args.wanted c.args.ready c.requires.0 c.requires.1)
