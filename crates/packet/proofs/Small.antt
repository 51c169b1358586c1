-- A fact about every number below a small bound, proved by computing it at each of them.
use mathlib.Core.Path.{◌≡◌, subst}
use mathlib.Core.Bool.{Bool, true, ◌&&◌, and-eq-true_iff}
use Prim.Native.Nat.{ℕ, zero, suc, ◌<◌}
use native.Mathlib.Nat.{not-suc-le-zero}
use native.Mathlib.Omega.{arith}
use native.Mathlib.Decide.{dec_lt}

-- the test passes at every number below n
unfoldable pub every : ℕ → (ℕ → Bool) → Bool
every zero f = true
every (suc n) f = f n && every n f

last : (n k : ℕ) (f : ℕ → Bool) → k < suc n → f n ≡ true → (k < n → f k ≡ true) → Dec (k < n) → f k ≡ true
last n k f h here below (yes l) = below l
last n k f h here below (no l) = let e : n ≡ k = omega arith in subst (λ (m : ℕ). f m ≡ true) e here

pub at : (n : ℕ) (f : ℕ → Bool) → every n f ≡ true → (k : ℕ) → k < n → f k ≡ true
unfolding every
at zero f t k h = absurd (not-suc-le-zero h)
at (suc n) f t k h = last n k f h ((and-eq-true_iff (f n) (every n f)).0 t).0 (λ l. at n f ((and-eq-true_iff (f n) (every n f)).0 t).1 k l) (dec_lt k n)

-- the same over pairs of numbers
unfoldable pub every₂ : ℕ → ℕ → (ℕ → ℕ → Bool) → Bool
unfolding every
every₂ n m f = every n (λ a. every m (f a))

pub at₂ : (n m : ℕ) (f : ℕ → ℕ → Bool) → every₂ n m f ≡ true → (a b : ℕ) → a < n → b < m → f a b ≡ true
unfolding every₂
at₂ n m f t a b ha hb = at m (f a) (at n (λ x. every m (f x)) t a ha) b hb
