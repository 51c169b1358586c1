-- "Parity is odd: all bits of the packet together hold an odd number of ones. A packet whose mark or stamp is rewritten gets its parity bit set
-- right again."
use Rattle.std.specs.Prelude.{ℕ, ◌+◌, ◌%◌, Bool, eqb}
use Rattle.std.specs.Int.Count.{ones}
use Rattle.packet.specs.declared.Packet.{Packet}
use Rattle.packet.specs.Control.{mark_in, stamp_in, parity_in}

-- How many bits of the packet are ones; a payload that is not there is 0 and has none.
abbrev pub ones_of : Packet → ℕ
ones_of p = ones p.control + ones p.word + ones p.payload

abbrev pub is_odd : Packet → Bool
is_odd p = eqb (ones_of p % 2) 1

abbrev pub with_control : Packet → ℕ → Packet
with_control p c = record { control = c; nine = p.nine; word = p.word; payload = p.payload }

-- The parity bit is one more than the ones of all other bits, modulo 2.
abbrev pub set_right : Packet → Packet
set_right p = with_control p (parity_in p.control (ones_of (with_control p (parity_in p.control 0)) + 1))

abbrev pub with_mark : Packet → ℕ → Packet
with_mark p m = set_right (with_control p (mark_in p.control m))

abbrev pub with_stamp : Packet → ℕ → Packet
with_stamp p s = set_right (with_control p (stamp_in p.control s))
