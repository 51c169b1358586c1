use native.Mathlib.Nat.{mod-eq_of_lt, lt_of_le_of_lt, le-add_right}
use lib.Bits.{or_shifted}
use Rattle.packet.proofs.control.beside.Goals as goal

pub returns : goal.returns
returns c = rw (mod-eq_of_lt (lt_of_le_of_lt (le-add_right _ c.args.field) c.requires.1.1)) (or_shifted c.args.above c.args.width c.args.field c.requires.1.0)
