-- `targets::sets_fine` meets its contract. The loop's invariant: what is asked of all targets is so if it is so of those that are left.
use Rattle.std.proofs.Common.{◌≡◌}
use Rattle.std.specs.Slice.Iter.{chunks_rest, chunks_size}
use Rattle.tree.specs.Growing.{targets_of}
use Rattle.tree.specs.Call.{sets_fine}
use Rattle.tree.proofs.targets.sets_fine.Given as goal

abbrev pub invariant-loop-target : goal.invariant-loop-target
invariant-loop-target l = record {
  pairs : chunks_size l.target-iterator ≡ 2;
  same : sets_fine (targets_of l.targets) ≡ sets_fine (targets_of (chunks_rest l.target-iterator));
}
