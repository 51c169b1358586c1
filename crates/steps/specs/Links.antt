-- Links 0 to 5 and sets of them, as numbers with a bit for each; processors stand above them in a route.
use Rattle.std.specs.Prelude.{ℕ, ◌+◌, ◌/◌, ◌%◌, ◌^◌, Bool, cond, eqb}

abbrev pub has : ℕ → ℕ → Bool
has set i = eqb (set / 2 ^ i % 2) 1

-- The set of the links that pass a test.
abbrev pub set_of : (ℕ → Bool) → ℕ
set_of f = cond (f 0) 1 0 + cond (f 1) 2 0 + cond (f 2) 4 0 + cond (f 3) 8 0 + cond (f 4) 16 0 + cond (f 5) 32 0

-- "Route bits 0 to 5 are links, 6 to 25 are processors 0 to 19."
abbrev pub links_of : ℕ → ℕ
links_of route = route % 64

abbrev pub processors_of : ℕ → ℕ
processors_of route = route / 64

abbrev pub monitor_bit : ℕ → ℕ
monitor_bit monitor = 2 ^ (6 + monitor)

-- Links go round: link 6 is link 0 again.
abbrev pub link : ℕ → ℕ
link i = i % 6
