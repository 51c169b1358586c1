use mathlib.Core.Path.{refl}
use native.Mathlib.Omega.{arith}
use Rattle.tables.proofs.Starts.{starts_joined, starts_last}
use Rattle.tables.proofs.accept.starts_fine.Goals as goal

pub loop-i-preserved : goal.loop-i-preserved
loop-i-preserved c = let s = c.args.starts.now in
    starts_joined s c.loop-i.i _ c.loop-i.fine _ _ refl refl (omega arith) c.loop-i.invariant

pub returns : goal.returns
returns c = let s = c.args.starts.now in
    starts_last s _ _ c.loop-i.i _ c.loop-i.fine (omega arith) (omega arith) refl c.loop-i.invariant
