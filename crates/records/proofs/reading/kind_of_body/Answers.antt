use Rattle.records.proofs.NoKind.{misfit}
use Rattle.records.proofs.reading.kind_of_body.Goals as goal

pub returns-in_err-kind : goal.returns-in_err-kind
returns-in_err-kind c = misfit c.args.trace.now c.from_residual.result c.in_err-kind.field-0.0 c.from_residual.ensures.1 (rw c.from.ensures at c.in_err-kind.ensures)
