use mathlib.Core.Path.{refl}
use lib.Dec.{lit≤}
use Rattle.tables.proofs.EightCodes.{beside}
use Rattle.tables.proofs.accept.two_codes.Goals as goal

pub returns : goal.returns
returns c = let a = c.args in beside 1 1 56 refl refl (lit≤ tt) refl a.codes.now a.i _ _ c.code_at.ensures c.code_at-2.ensures
