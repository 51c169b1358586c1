use Rattle.std.proofs.Common.{refl}
use Rattle.sheet.proofs.storing.Sheet.empty.Goals as goal

pub returns-clause-rows : goal.returns-clause-rows
returns-clause-rows c = (refl, refl)
