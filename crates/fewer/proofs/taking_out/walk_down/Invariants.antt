-- `taking_out::walk_down` meets its contract. The loop's invariant: the walk has gone on from where it began. The measure is what is left of the rows.
use Prim.Native.Nat.{◌-◌}
use Rattle.fewer.specs.Hand.{Begins, Walking, WentOn}
use Rattle.fewer.proofs.taking_out.walk_down.Given as goal

abbrev pub invariant-loop-walk : goal.invariant-loop-walk
invariant-loop-walk g l =
    ((b : Begins (goal.F-post g l.stays) l.initial.held l.initial.gone l.initial.walk) → Walking b.lo b.hi l.held l.gone l.walk)
    × (WentOn l.initial.held l.initial.gone l.initial.walk l.held l.gone l.walk)

abbrev pub decreases-loop-walk : goal.decreases-loop-walk
decreases-loop-walk g l = l.initial.walk.count - l.walk.next
