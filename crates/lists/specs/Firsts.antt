-- The first number that passes a test: the place where something first holds.
use Rattle.std.specs.Prelude.{ℕ, zero, suc, ◌<◌, ◌≡◌, Bool, true, false, cond}

-- The first of the n numbers from i on that passes; i + n where none does.
unfoldable pub first_from : (ℕ → Bool) → ℕ → ℕ → ℕ
first_from f i zero = i
first_from f i (suc n) = cond (f i) i (first_from f (suc i) n)

-- The first below n; n where none passes.
abbrev pub first_below : (ℕ → Bool) → ℕ → ℕ
first_below f n = first_from f 0 n

-- A test of the n numbers below n, and whether all is fine. Exact both ways: where it is not, the first number that passes is below n, it passes there and nowhere before; where it
-- is, none passes.
pub record Exact (f : ℕ → Bool) (n : ℕ) (fine : Bool) : Type 0 where
  pub below : fine ≡ false → first_below f n < n
  pub there : fine ≡ false → f (first_below f n) ≡ true
  pub before : fine ≡ false → (j : ℕ) → j < first_below f n → f j ≡ false
  pub none : fine ≡ true → (j : ℕ) → j < n → f j ≡ false
