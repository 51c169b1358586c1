-- Steps 1 and 2: the errors of a packet, all found at once, and the stamping of a local one.
use Rattle.std.specs.Prelude.{ℕ, ◌+◌, ◌-◌, Bool, cond, ◌&&◌, not, eqb, ltb}
use Rattle.packet.specs.declared.Packet.{Packet}
use Rattle.packet.specs.Control.{mark_of, stamp_of, carries_of}
use Rattle.packet.specs.Types.{is_marked, is_stamped}
use Rattle.packet.specs.Parity.{is_odd, with_stamp}

-- "Too old (source below 6, MC or P2P)", or fixed-route; "a stamp is too old when it equals the phase with both bits flipped."
abbrev pub too_old : ℕ → ℕ → ℕ → Bool
too_old control source phase = ltb source 6 && is_stamped control && eqb (stamp_of control) (3 - phase)

-- "Length disagreeing with bit 1".
abbrev pub wrong_length : Packet → Bool
wrong_length p = not (eqb (carries_of p.control) p.nine)

-- "Bad local (source 7, MC, mark not 00)", or fixed-route.
abbrev pub bad_local : ℕ → ℕ → Bool
bad_local control source = eqb source 7 && is_marked control && not (eqb (mark_of control) 0)

abbrev pub flag : Bool → ℕ → ℕ
flag b n = cond b n 0

-- "Error flags (1 parity, 2 age, 4 length, 8 bad local, added)".
abbrev pub errors_of : Packet → ℕ → ℕ → ℕ
errors_of p source phase =
    flag (not (is_odd p)) 1 + flag (too_old p.control source phase) 2 + flag (wrong_length p) 4 + flag (bad_local p.control source) 8

-- "A local MC or P2P packet without error is stamped with the phase", and so is a fixed-route one. "A packet in error goes, as it came".
abbrev pub stamped_of : Packet → ℕ → ℕ → ℕ → Packet
stamped_of p source errors phase = cond (eqb errors 0 && eqb source 7 && is_stamped p.control) (with_stamp p phase) p
