-- `targets::named_again` meets its contract. The loop's invariant: whether a chip is named again is whether one of those that are left has its mark by then.
use Rattle.std.proofs.Common.{◌≡◌, [], true, length}
use Rattle.std.specs.Slice.Iter.{chunks_rest, chunks_size}
use Rattle.tree.specs.Growing.{targets_of}
use Rattle.tree.specs.Call.{all_there, named_again}
use Rattle.tree.proofs.TargetByTarget.{marked_again}
use Rattle.tree.proofs.targets.named_again.Given as goal

abbrev pub invariant-loop-target : goal.invariant-loop-target
invariant-loop-target l = record {
  long : length l.named ≡ 144;
  pairs : chunks_size l.target-iterator ≡ 2;
  low : all_there 144 (targets_of (chunks_rest l.target-iterator)) ≡ true;
  same : named_again [] (targets_of l.targets) ≡ marked_again l.named (targets_of (chunks_rest l.target-iterator));
}
