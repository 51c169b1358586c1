-- How much room is enough: refusal 29.
use Rattle.std.specs.Prelude.{ℕ, zero, suc, ◌+◌, ◌-◌, Bool, ◌&&◌, not, cond, List, eqb, ltb, get_or}
use Rattle.groups.specs.Groups.{room_for}

abbrev pub larger : ℕ → ℕ → ℕ
larger a b = cond (ltb a b) b a

-- The rows of "the longest table that is lent (of one chip)", of the first chips.
unfoldable pub longest : List ℕ → ℕ → ℕ
longest starts zero = 0
longest starts (suc c) = larger (longest starts c) (get_or starts (c + 1) 0 - get_or starts c 0)

-- "Room under 257 numbers plus 256 for each row"; no room at all "is the plain search".
abbrev pub room_short : ℕ → ℕ → Bool
room_short room rows = not (eqb room 0) && ltb room (room_for rows)
