use native.Mathlib.Omega.{arith}
use lib.ListN.{take}
use Rattle.fewer.specs.Hand.{held_of}
use Rattle.fewer.proofs.Onwards.{onward_none, onward_on}
use Rattle.fewer.proofs.PairWords.{all_joined}
use Rattle.fewer.proofs.joining.join_all.Goals as goal

pub loop-pairs-init : goal.loop-pairs-init
loop-pairs-init c = (c.requires, onward_none c.args.held.now c.args.gone.now (take c.args.count (held_of c.args.held.now)))

pub overflow_add-pairs : goal.overflow_add-pairs
overflow_add-pairs c = omega (arith, c.loop-pairs.invariant.0.within, c.loop-pairs.invariant.0.listed)

pub past_one-pairs-requires : goal.past_one-pairs-requires
past_one-pairs-requires c = (c.loop-pairs.invariant.0, c.loop-pairs-test.true)

pub loop-pairs-smaller : goal.loop-pairs-smaller
loop-pairs-smaller c = c.past_one-pairs.ensures.1.nearer

pub loop-pairs-preserved : goal.loop-pairs-preserved
loop-pairs-preserved c = (c.past_one-pairs.ensures.0, onward_on c.loop-pairs.invariant.1 c.past_one-pairs.ensures.1.onward)

pub shape_of-held : goal.shape_of-held
shape_of-held c = c.loop-pairs.invariant.1.words

pub shape_of-gone : goal.shape_of-gone
shape_of-gone c = c.loop-pairs.invariant.1.room

pub returns : goal.returns
returns c = let at = c.loop-pairs in
    all_joined _ _ _ at.held at.gone at.pairs at.invariant.0 c.loop-pairs-test.false at.invariant.1
