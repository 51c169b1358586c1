use Rattle.std.proofs.Common.{◌≡◌, ◌++◌, take, drop}
use Rattle.groups.proofs.building.begin.Given as goal

-- the words before the g-th are the marks
abbrev pub invariant-loop-g : goal.invariant-loop-g
invariant-loop-g l = l.room ≡ take l.g l.marks ++ drop l.g l.initial.room
