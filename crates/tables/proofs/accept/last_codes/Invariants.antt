-- `accept::last_codes` meets its contract. The loop's invariant: what is joined and the codes from i on are fine where what was joined and the codes
-- past the last whole eight are.
use mathlib.Core.Path.{◌≡◌}
use mathlib.Core.Bool.{◌&&◌}
use Prim.Native.Nat.{◌*◌, ◌/◌}
use lib.ListN.{length, drop}
use Rattle.tables.specs.Accept.{all_codes}
use Rattle.tables.proofs.EightCodes.{clear}
use Rattle.tables.proofs.accept.last_codes.Given as goal

abbrev pub invariant-loop-i : goal.invariant-loop-i
invariant-loop-i l = (clear l.so_far && all_codes (drop (length l.codes / 8 * 8) l.codes)) ≡ (clear l.joined && all_codes (drop l.i l.codes))
