-- The phase.
use Rattle.std.specs.Prelude.{ℕ, cond, eqb}

-- "The phase code runs 00, 01, 11, 10 and round again."
abbrev pub next_phase : ℕ → ℕ
next_phase phase = cond (eqb phase 0) 1 (cond (eqb phase 1) 3 (cond (eqb phase 3) 2 0))
