-- The rows that are moved stand behind one another: no more than 1,024 of each chip.
use Rattle.std.proofs.Common.{◌*◌, ◌≤◌}
use Rattle.sheet.proofs.storing.Sheet.move_together.Given as goal

abbrev pub invariant-loop-chip : goal.invariant-loop-chip
invariant-loop-chip l = l.all ≤ 1024 * l.chip
