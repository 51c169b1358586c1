use Rattle.std.proofs.Common.{◌≡◌}
use Rattle.groups.specs.Room.{longest}
use Rattle.groups.proofs.lending.longest.Given as goal

-- the most rows of the chips before c are known
abbrev pub invariant-loop-c : goal.invariant-loop-c
invariant-loop-c l = l.most ≡ longest l.starts l.c
