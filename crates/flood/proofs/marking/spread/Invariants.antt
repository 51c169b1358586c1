use Rattle.std.proofs.Common.{◌≡◌, length}
use Rattle.flood.proofs.Spreads.{SoFar}
use Rattle.flood.proofs.marking.spread.Given as goal

abbrev pub invariant-loop-chip : goal.invariant-loop-chip
invariant-loop-chip l = record { long : length l.marks ≡ 144; far : SoFar l.around l.initial.marks l.level l.chip l.marks l.more }
