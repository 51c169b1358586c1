-- Numbers bit by bit: two numbers with the same bits are the same, so that a law of masks is a law of two truth values.
use Prim.Native.Nat.{ℕ, zero, suc, ◌/◌, ◌%◌, ◌<◌}
use mathlib.Core.Path.{◌≡◌, refl, sym, ap, ◌∙◌}
use mathlib.Core.Bool.{Bool, true, false, not, ◌&&◌, true≢false, false≢true}
use native.Mathlib.Omega.{arith}
use native.Mathlib.Nat.{mod-lt, zero-lt-suc}
use lib.Arith.{bin_ind}
use lib.Bits.{bit_and, bit_xor, and_shr, xor_shr, and_mod, xor_mod}
use lib.Count.{ones, ones_step}
use lib.Dec.{eqb}

unfoldable pub bit : ℕ → ℕ → Bool
bit n zero = eqb (n % 2) 1
bit n (suc i) = bit (n / 2) i

abbrev pub differs : Bool → Bool → Bool
differs true b = not b
differs false b = b

digit : (n : ℕ) → n % 2 < 2
digit n = mod-lt n (zero-lt-suc 1)

by_digits : (P : ℕ → ℕ → Type 0) → P 0 0 → P 0 1 → P 1 0 → P 1 1 → (x y : ℕ) → x < 2 → y < 2 → P x y
by_digits P a b c d zero zero h k = a
by_digits P a b c d zero (suc zero) h k = b
by_digits P a b c d (suc zero) zero h k = c
by_digits P a b c d (suc zero) (suc zero) h k = d
by_digits P a b c d zero (suc (suc y)) h k = absurd (omega arith)
by_digits P a b c d (suc zero) (suc (suc y)) h k = absurd (omega arith)
by_digits P a b c d (suc (suc x)) y h k = absurd (omega arith)

pub and_bit : (i a b : ℕ) → bit (bit_and a b) i ≡ (bit a i && bit b i)
unfolding bit
and_bit zero a b =
    ap (λ (x : ℕ). eqb x 1) (and_mod a b 1)
    ∙ by_digits (λ (x y : ℕ). eqb (bit_and x y) 1 ≡ (eqb x 1 && eqb y 1)) refl refl refl refl (a % 2) (b % 2) (digit a) (digit b)
and_bit (suc i) a b = ap (λ (x : ℕ). bit x i) (and_shr a b 1) ∙ and_bit i (a / 2) (b / 2)

pub xor_bit : (i a b : ℕ) → bit (bit_xor a b) i ≡ differs (bit a i) (bit b i)
unfolding bit
xor_bit zero a b =
    ap (λ (x : ℕ). eqb x 1) (xor_mod a b 1)
    ∙ by_digits (λ (x y : ℕ). eqb (bit_xor x y) 1 ≡ differs (eqb x 1) (eqb y 1)) refl refl refl refl (a % 2) (b % 2) (digit a) (digit b)
xor_bit (suc i) a b = ap (λ (x : ℕ). bit x i) (xor_shr a b 1) ∙ xor_bit i (a / 2) (b / 2)

same_last : (x y : ℕ) → x < 2 → y < 2 → eqb x 1 ≡ eqb y 1 → x ≡ y
same_last = by_digits (λ (x y : ℕ). eqb x 1 ≡ eqb y 1 → x ≡ y) (λ e. refl) (λ e. absurd (false≢true e)) (λ e. absurd (true≢false e)) (λ e. refl)

no_bits : (i : ℕ) → bit 0 i ≡ false
unfolding bit
no_bits zero = refl
no_bits (suc i) = no_bits i

zero_of : (n : ℕ) → ((i : ℕ) → bit n i ≡ false) → n ≡ 0
unfolding bit
zero_of = bin_ind (λ (n : ℕ). ((i : ℕ) → bit n i ≡ false) → n ≡ 0) (λ h. refl) (λ n ih h. omega (arith, ih (λ i. h (suc i)), same_last (n % 2) 0 (digit n) (omega arith) (h 0)))

pub same_bits : (a b : ℕ) → ((i : ℕ) → bit a i ≡ bit b i) → a ≡ b
unfolding bit
same_bits =
    bin_ind (λ (a : ℕ). (b : ℕ) → ((i : ℕ) → bit a i ≡ bit b i) → a ≡ b) (λ b h. sym (zero_of b (λ i. sym (h i) ∙ no_bits i)))
    (λ a ih b h. omega (arith, ih (b / 2) (λ i. h (suc i)), same_last (a % 2) (b % 2) (digit a) (digit b) (h 0)))

-- ---- a number with a single bit

ones_none : (n : ℕ) → ones n ≡ 0 → n ≡ 0
ones_none = bin_ind (λ (n : ℕ). ones n ≡ 0 → n ≡ 0) (λ e. refl) (λ n ih e. omega (arith, ones_step n, ih (omega (arith, ones_step n))))

abbrev pub OneBit : ℕ → Type 0
OneBit n = (t : ℕ) × ((i : ℕ) → (i ≡ t → ⊥) → bit n i ≡ false)

pub single_bit : (n : ℕ) → ones n ≡ 1 → OneBit n
unfolding bit
single_bit = bin_ind (λ (n : ℕ). ones n ≡ 1 → OneBit n) (λ e. (0, λ i h. no_bits i)) further
  where
    further : (n : ℕ) → (ones (n / 2) ≡ 1 → OneBit (n / 2)) → ones n ≡ 1 → OneBit n
    further n ih e = go (n % 2) refl
      where
        at_last : n / 2 ≡ 0 → (i : ℕ) → (i ≡ 0 → ⊥) → bit n i ≡ false
        at_last z zero h = absurd (h refl)
        at_last z (suc i) h = ap (λ (x : ℕ). bit x i) z ∙ no_bits i

        above : n % 2 ≡ 0 → (o : OneBit (n / 2)) → (i : ℕ) → (i ≡ suc o.0 → ⊥) → bit n i ≡ false
        above z o zero h = ap (λ (x : ℕ). eqb x 1) z
        above z o (suc i) h = o.1 i (λ k. h (ap suc k))

        go : (d : ℕ) → n % 2 ≡ d → OneBit n
        go zero z = let o = ih (omega (arith, ones_step n)) in (suc o.0, above z o)
        go (suc d) z = (0, at_last (ones_none (n / 2) (omega (arith, ones_step n))))
