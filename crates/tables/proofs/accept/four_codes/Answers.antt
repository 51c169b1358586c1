use mathlib.Core.Path.{refl}
use lib.Dec.{lit≤}
use Rattle.tables.proofs.EightCodes.{beside}
use Rattle.tables.proofs.accept.four_codes.Goals as goal

pub returns : goal.returns
returns c = let a = c.args in beside 2 2 48 refl refl (lit≤ tt) refl a.codes.now a.i _ _ c.two_codes.ensures c.two_codes-2.ensures
