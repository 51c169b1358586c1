use Rattle.std.proofs.Common.{◌≡◌, ◌*◌, ◌++◌, take, drop}
use Rattle.fewer.specs.Call.{words_of}
use Rattle.fewer.specs.Hand.{held_of}
use Rattle.fewer.proofs.hand.give_back.Given as goal

-- the rows before i are written, and what follows is as it was
abbrev pub invariant-loop-i : goal.invariant-loop-i
invariant-loop-i l = l.left ≡ words_of (take l.i (held_of l.held)) ++ drop (l.i * 3) l.initial.left
