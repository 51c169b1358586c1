use Rattle.std.proofs.Common.{ℕ, ◌≡◌, ◌<◌, ◌+◌, ◌*◌, false}
use lib.ListN.{get_or}
use Rattle.flood.specs.Marks.{is_below}
use Rattle.flood.proofs.marking.first_on.Given as goal

abbrev pub invariant-loop-i : goal.invariant-loop-i
invariant-loop-i l = (k : ℕ) → k < l.i → is_below l.marks l.level (get_or l.around (l.chip * 6 + k) 0) ≡ false
