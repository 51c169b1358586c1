use Rattle.std.proofs.Common.{◌≡◌, take}
use Rattle.tables.specs.Rows.{rows_of}
use Rattle.fewer.specs.Process.{numbered}
use Rattle.fewer.specs.Hand.{held_of}
use Rattle.fewer.proofs.hand.take_in.Given as goal

-- the rows before i are in hand
abbrev pub invariant-loop-i : goal.invariant-loop-i
invariant-loop-i l = take l.i (held_of l.held) ≡ take l.i (numbered 0 (rows_of l.rows))
