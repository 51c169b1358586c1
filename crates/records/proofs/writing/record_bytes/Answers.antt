use Rattle.std.proofs.Common.{arith}
use Rattle.records.proofs.Keepables.{kept, chip_small}
use Rattle.records.proofs.writing.record_bytes.Goals as goal

pub overflow_cast-high : goal.overflow_cast-high
overflow_cast-high c = omega (arith, chip_small (kept c.args.call c.requires.0))
