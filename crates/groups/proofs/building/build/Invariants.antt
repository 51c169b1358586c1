use Rattle.std.proofs.Common.{length}
use Rattle.tables.specs.Rows.{rows_of}
use Rattle.groups.specs.Building.{sofar, Placed, Kept}
use Rattle.groups.proofs.building.build.Given as goal

-- the numbers of the rows before i stand in their places, and all else is as it was begun
abbrev pub invariant-loop-i : goal.invariant-loop-i
invariant-loop-i l =
    record {
      placed : Placed l.tops (rows_of l.rows) (sofar (rows_of l.rows) l.i) l.room;
      kept : Kept l.tops (length (rows_of l.rows)) (sofar (rows_of l.rows) l.i) l.initial.room l.room;
    }
