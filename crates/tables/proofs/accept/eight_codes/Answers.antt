use mathlib.Core.Path.{refl}
use lib.Dec.{lit≤}
use Rattle.tables.proofs.EightCodes.{beside}
use Rattle.tables.proofs.accept.eight_codes.Goals as goal

pub returns : goal.returns
returns c = let a = c.args in beside 4 4 32 refl refl (lit≤ tt) refl a.codes.now a.i _ _ c.four_codes.ensures c.four_codes-2.ensures
