use Rattle.std.proofs.Common.{◌≡◌}
use Rattle.tables.specs.Rows.{rows_of}
use Rattle.groups.specs.Pays.{taken_of}
use Rattle.groups.proofs.paying.sampled.Given as goal

-- those before the k-th are counted
abbrev pub invariant-loop-k : goal.invariant-loop-k
invariant-loop-k l = l.many ≡ taken_of l.marks (rows_of l.rows) l.k
