-- `grouping::keys_by` meets its contract. The loop's invariant: the words of the first i packets stand behind those that were there.
use Rattle.std.proofs.Common.{◌≡◌, ◌+◌, ◌*◌, [], ◌∷◌, ◌++◌, get_or, take}
use Rattle.lists.specs.Lists.{up_to}
use Rattle.buffer.proofs.grouping.keys_by.Given as goal

abbrev pub invariant-loop-i : goal.invariant-loop-i
invariant-loop-i l = take (l.count + l.i) l.keys ≡ take l.count l.initial.keys ++ up_to (λ k. get_or l.mesh (l.at + 2 + k * 3) 0 ∷ []) l.i
