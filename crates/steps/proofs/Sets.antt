-- A set made of six tests has just the links that pass them; the empty set has none; two sets joined have those of both.
use mathlib.Core.Path.{◌≡◌, refl, ap, ◌∙◌}
use mathlib.Core.Bool.{Bool, true, false, cond, ◌||◌}
use Prim.Native.Nat.{ℕ, zero, suc, ◌+◌, ◌*◌, ◌/◌, ◌%◌, ◌^◌, ◌≤◌, ◌<◌}
use native.Mathlib.Nat.{zero-div, zero-mod, mod-lt}
use native.Mathlib.Omega.{arith}
use lib.Bits.{bit_or, or_shr, or_mod}
use lib.Dec.{eqb, lit<}
use Rattle.steps.specs.Links.{has, set_of}

bit : Bool → ℕ
bit b = cond b 1 0

bit_le : (b : Bool) → bit b ≤ 1
unfolding bit
bit_le true = omega arith
bit_le false = omega arith

-- a bit at a place
placed : (b : Bool) (n : ℕ) → cond b n 0 ≡ n * bit b
unfolding bit
placed true n = omega arith
placed false n = omega arith

shown : (b : Bool) → eqb (bit b) 1 ≡ b
unfolding bit
shown true = refl
shown false = refl

pub has_none : (i : ℕ) → has 0 i ≡ false
has_none i = ap (λ (n : ℕ). eqb n 1) (ap (λ (n : ℕ). n % 2) (zero-div (2 ^ i)) ∙ zero-mod 2)

-- ---- what is in one of two sets or in both

one_of : (x y : ℕ) → x < 2 → y < 2 → eqb (bit_or x y) 1 ≡ (eqb x 1 || eqb y 1)
one_of zero zero hx hy = refl
one_of zero (suc zero) hx hy = refl
one_of (suc zero) zero hx hy = refl
one_of (suc zero) (suc zero) hx hy = refl
one_of zero (suc (suc y)) hx hy = absurd (omega arith)
one_of (suc zero) (suc (suc y)) hx hy = absurd (omega arith)
one_of (suc (suc x)) y hx hy = absurd (omega arith)

pub has_or : (a b j : ℕ) → has (bit_or a b) j ≡ (has a j || has b j)
has_or a b j =
    ap (λ (x : ℕ). eqb (x % 2) 1) (or_shr a b j) ∙ ap (λ (x : ℕ). eqb x 1) (or_mod (a / 2 ^ j) (b / 2 ^ j) 1)
    ∙ one_of (a / 2 ^ j % 2) (b / 2 ^ j % 2) (mod-lt (a / 2 ^ j) (lit< tt)) (mod-lt (b / 2 ^ j) (lit< tt))

-- ---- six bits, and one of them taken out

digits : (a b c d e f : ℕ) → ℕ
digits a b c d e f = a + 2 * b + 4 * c + 8 * d + 16 * e + 32 * f

module _ (f : ℕ → Bool) where
  whole : set_of f ≡ digits (bit (f 0)) (bit (f 1)) (bit (f 2)) (bit (f 3)) (bit (f 4)) (bit (f 5))
  unfolding digits
  whole = omega (arith, placed (f 0) 1, placed (f 1) 2, placed (f 2) 4, placed (f 3) 8, placed (f 4) 16, placed (f 5) 32)

  small : (i : ℕ) → bit (f i) ≤ 1
  small i = bit_le (f i)

  -- the lowest bit, and the bits above it
  out : (k n m : ℕ) → n ≡ m → m / 2 ^ k % 2 ≡ bit (f k) → has n k ≡ f k
  out k n m e g = ap (λ (x : ℕ). eqb (x / 2 ^ k % 2) 1) e ∙ ap (λ (x : ℕ). eqb x 1) g ∙ shown (f k)

  pub has_set : (i : ℕ) → i < 6 → has (set_of f) i ≡ f i
  unfolding digits
  has_set zero h = out 0 _ _ whole (omega (arith, small 0))
  has_set (suc zero) h = out 1 _ _ whole (omega (arith, small 0, small 1))
  has_set (suc (suc zero)) h = out 2 _ _ whole (omega (arith, small 0, small 1, small 2))
  has_set (suc (suc (suc zero))) h = out 3 _ _ whole (omega (arith, small 0, small 1, small 2, small 3))
  has_set (suc (suc (suc (suc zero)))) h = out 4 _ _ whole (omega (arith, small 0, small 1, small 2, small 3, small 4))
  has_set (suc (suc (suc (suc (suc zero))))) h = out 5 _ _ whole (omega (arith, small 0, small 1, small 2, small 3, small 4, small 5))
  has_set (suc (suc (suc (suc (suc (suc i)))))) h = absurd (omega arith)
