-- `growing::Grown::grow` meets its contract. The loop's invariant: the tree with all targets is this one with those that are left, which are fine.
use Rattle.std.proofs.Common.{◌≡◌, ◌*◌, true}
use Rattle.std.specs.Slice.Iter.{chunks_rest, chunks_size}
use Rattle.tree.specs.Growing.{targets_of, grown_by}
use Rattle.tree.specs.Call.{all_there, sets_fine}
use Rattle.tree.proofs.growing.Grown.grow.Given as goal

abbrev pub invariant-loop-target : goal.invariant-loop-target
invariant-loop-target l = record {
  pairs : chunks_size l.target-iterator ≡ 2;
  low : all_there (l.size.height * l.size.width) (targets_of (chunks_rest l.target-iterator)) ≡ true;
  fine : sets_fine (targets_of (chunks_rest l.target-iterator)) ≡ true;
  same : grown_by l.size.width l.size.height l.source l.initial.self (targets_of l.targets) ≡ grown_by l.size.width l.size.height l.source l.self (targets_of (chunks_rest l.target-iterator));
}
