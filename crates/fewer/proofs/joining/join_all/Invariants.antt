-- `joining::join_all` meets its contract. The loop's invariant: none of the rows goes, no two neighbours above the place make a pair, and the process has come no other way. The measure
-- is twice the rows less the place.
use Prim.Native.Nat.{◌-◌, ◌*◌}
use lib.ListN.{take}
use Rattle.fewer.specs.Hand.{held_of, Onward, AtPairs}
use Rattle.fewer.proofs.joining.join_all.Given as goal

abbrev pub invariant-loop-pairs : goal.invariant-loop-pairs
invariant-loop-pairs l = (AtPairs l.held l.gone l.pairs) × (Onward l.initial.held l.initial.gone (take l.count (held_of l.initial.held)) l.held l.gone (take l.pairs.rows (held_of l.held)))

abbrev pub decreases-loop-pairs : goal.decreases-loop-pairs
decreases-loop-pairs l = 2 * l.pairs.rows - l.pairs.at
