-- Where a link leads.
use Rattle.std.specs.Prelude.{ℕ, ◌+◌, ◌-◌, ◌*◌, ◌/◌, ◌%◌, cond, eqb, leb}

-- "Links 0 to 5 lead east (+1,0), north-east (+1,+1), north (0,+1), west, south-west, south. The mesh is W by H and wraps."
abbrev pub step_east : ℕ → ℕ → ℕ
step_east width i = cond (leb i 1) 1 (cond (eqb i 3) (width - 1) (cond (eqb i 4) (width - 1) 0))

abbrev pub step_north : ℕ → ℕ → ℕ
step_north height i = cond (eqb i 1) 1 (cond (eqb i 2) 1 (cond (eqb i 4) (height - 1) (cond (eqb i 5) (height - 1) 0)))

-- The chip at the other end of link i: chips by number y * W + x.
abbrev pub across : ℕ → ℕ → ℕ → ℕ → ℕ
across width height chip i = (chip / width + step_north height i) % height * width + (chip % width + step_east width i) % width

-- "A packet sent by link i arrives by link (i+3) mod 6."
abbrev pub opposite : ℕ → ℕ
opposite i = (i + 3) % 6
