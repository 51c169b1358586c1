-- `accept::codes_fine` meets its contract. The loop's invariant: the test of all codes is that of what is joined so far, with that of the codes from
-- eight times i on.
use mathlib.Core.Path.{◌≡◌}
use mathlib.Core.Bool.{◌&&◌}
use Prim.Native.Nat.{◌*◌}
use lib.ListN.{drop}
use Rattle.tables.specs.Accept.{all_codes}
use Rattle.tables.proofs.EightCodes.{clear}
use Rattle.tables.proofs.accept.codes_fine.Given as goal

abbrev pub invariant-loop-i : goal.invariant-loop-i
invariant-loop-i l = all_codes l.codes ≡ (clear l.joined && all_codes (drop (l.i * 8) l.codes))
