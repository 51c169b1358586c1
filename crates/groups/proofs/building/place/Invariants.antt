use Rattle.std.proofs.Common.{length}
use Rattle.tables.specs.Rows.{rows_of}
use Rattle.groups.specs.Building.{Placed, Kept}
use Rattle.groups.proofs.RowByRow.{partly}
use Rattle.groups.proofs.building.place.Given as goal

-- the row's number stands in each of the groups that are listed so far
abbrev pub invariant-loop-top : goal.invariant-loop-top
invariant-loop-top l =
    record {
      placed : Placed l.tops (rows_of l.rows) (partly l.tops (rows_of l.rows) l.i l.top-index) l.room;
      kept : Kept l.tops (length (rows_of l.rows)) (partly l.tops (rows_of l.rows) l.i l.top-index) l.initial.room l.room;
    }
