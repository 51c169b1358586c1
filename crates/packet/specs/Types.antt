-- What a packet has by its type, asked of its control byte.
use Rattle.std.specs.Prelude.{ℕ, Bool, ◌||◌, not, eqb}
use Rattle.packet.specs.Control.{kind_of}

-- "The top two bits of the control byte choose the type": 00 is MC, 11 is fixed-route.
abbrev pub is_mc : ℕ → Bool
is_mc c = eqb (kind_of c) 0

abbrev pub is_fixed : ℕ → Bool
is_fixed c = eqb (kind_of c) 3

-- Which types have a mark in bits 5:4, and with it detours, a second leg, bad local and the weight two: MC and fixed-route, whose "control byte, mark, stamp, age check,
-- detours, second leg and bad local are as MC's".
unfoldable pub is_marked : ℕ → Bool
is_marked c = is_mc c || is_fixed c

-- Which types have a time stamp in bits 3:2, are stamped with the phase where they are local and grow old: MC, P2P and fixed-route, all but NN.
unfoldable pub is_stamped : ℕ → Bool
is_stamped c = not (eqb (kind_of c) 2)
