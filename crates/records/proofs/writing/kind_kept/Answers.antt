use Rattle.records.proofs.NoKind.{unkept}
use Rattle.records.proofs.writing.kind_kept.Goals as goal

pub returns-in_err-kind : goal.returns-in_err-kind
returns-in_err-kind c = unkept c.args.call c.from_residual.result c.in_err-kind.field-0.0 c.from_residual.ensures.1 c.in_err-kind.ensures
