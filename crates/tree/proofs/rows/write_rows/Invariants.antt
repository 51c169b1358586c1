-- `rows::write_rows` meets its contract. The loop's invariant: the rows and starts of the chips before this one are written, and what follows is as it was.
use Rattle.std.proofs.Common.{◌≡◌, ◌++◌, length, drop}
use Rattle.tree.specs.Rows.{start_of, rows_below, starts_below}
use Rattle.tree.proofs.rows.write_rows.Given as goal

abbrev pub invariant-loop-chip : goal.invariant-loop-chip
invariant-loop-chip l = record {
  count : l.count ≡ start_of l.tree l.chip;
  rows : l.rows ≡ rows_below l.tree l.key l.mask l.chip ++ drop (length (rows_below l.tree l.key l.mask l.chip)) l.initial.rows;
  starts : l.starts ≡ starts_below l.tree l.chip ++ drop l.chip l.initial.starts;
}
