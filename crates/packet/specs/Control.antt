-- The control byte: where each field stands in it, and a new mark or stamp put in its place.
-- "Bits, 7 highest": MC is type 7:6, mark 5:4, time stamp 3:2, payload 1, parity 0; P2P has its sequence in 5:4; NN has T in 5 and its route in 4:2;
-- fixed-route is as MC.
use Rattle.std.specs.Prelude.{ℕ, ◌+◌, ◌*◌, ◌/◌, ◌%◌, Bool, ◌&&◌, eqb}

-- "The top two bits of the control byte choose the type": 0 MC, 1 P2P, 2 NN, 3 fixed-route.
abbrev pub kind_of : ℕ → ℕ
kind_of c = c / 64

abbrev pub mark_of : ℕ → ℕ
mark_of c = c / 16 % 4

abbrev pub sequence_of : ℕ → ℕ
sequence_of c = c / 16 % 4

abbrev pub stamp_of : ℕ → ℕ
stamp_of c = c / 4 % 4

abbrev pub direct_of : ℕ → ℕ
direct_of c = c / 32 % 2

abbrev pub route_of : ℕ → ℕ
route_of c = c / 4 % 8

abbrev pub carries_of : ℕ → ℕ
carries_of c = c / 2 % 2

abbrev pub parity_of : ℕ → ℕ
parity_of c = c % 2

-- Bits 5:4 anew, all others as they were.
abbrev pub mark_in : ℕ → ℕ → ℕ
mark_in c m = c / 64 * 64 + m % 4 * 16 + c % 16

-- Bits 3:2 anew, all others as they were.
abbrev pub stamp_in : ℕ → ℕ → ℕ
stamp_in c s = c / 16 * 16 + s % 4 * 4 + c % 4

-- Bit 0 anew, all others as they were.
abbrev pub parity_in : ℕ → ℕ → ℕ
parity_in c b = c / 2 * 2 + b % 2

-- "NN with T = 1".
abbrev pub is_direct : ℕ → Bool
is_direct control = eqb (kind_of control) 2 && eqb (direct_of control) 1
