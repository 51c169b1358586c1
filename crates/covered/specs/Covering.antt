-- Which rows of a table never decide a route, though they match keys: one earlier row matches every key that they match.
use Rattle.std.specs.Prelude.{ℕ, Bool, ◌&&◌, eqb}
use Rattle.std.specs.Int.Bits.{bit_and}
use Rattle.tables.specs.Rows.{matches, used}

-- The later row matches keys; the earlier one looks at no bit that the later one leaves open, and matches the later one's key.
abbrev pub covers : ℕ → ℕ → ℕ → ℕ → Bool
covers key mask laterKey laterMask = used laterKey laterMask && eqb (bit_and mask laterMask) mask && matches laterKey key mask
