-- Words laid over each other by exclusive or, and the halves of a word, keep the parity of their ones.
use mathlib.Core.Path.{◌≡◌, refl, sym, ap, ◌∙◌}
use Prim.Native.Nat.{ℕ, zero, suc, ◌+◌, ◌*◌, ◌/◌, ◌%◌, ◌^◌, ◌<◌}
use native.Mathlib.Nat.{mod-lt, add-mod, mod-eq_of_lt, div-eq_of_lt}
use native.Mathlib.Omega.{arith}
use lib.Arith.{bin_ind, digits_mod, digits_div}
use lib.Bits.{bit_and, bit_xor, differ, xor_step, xor_zero_l, xor_mod, and_mask}
use lib.Count.{ones, ones_in, ones_step, ones_cat}
use lib.Dec.{lit<}
use lib.Pow.{pow_pos, mod-pow-add}

differ_parity : (x y : ℕ) → x < 2 → y < 2 → differ x y % 2 ≡ (x + y) % 2
differ_parity zero zero hx hy = refl
differ_parity zero (suc zero) hx hy = refl
differ_parity (suc zero) zero hx hy = refl
differ_parity (suc zero) (suc zero) hx hy = refl
differ_parity (suc (suc x)) y hx hy = absurd (omega arith)
differ_parity zero (suc (suc y)) hx hy = absurd (omega arith)
differ_parity (suc zero) (suc (suc y)) hx hy = absurd (omega arith)

differ_small : (x y : ℕ) → x < 2 → y < 2 → differ x y < 2
differ_small zero y hx hy = hy
differ_small (suc x) zero hx hy = hx
differ_small (suc x) (suc y) hx hy = differ_small x y (omega arith) (omega arith)

-- two sums of the same parity, term by term
joined : (d x a b c e : ℕ) → d % 2 ≡ (a + b) % 2 → x % 2 ≡ (c + e) % 2 → (d + x) % 2 ≡ ((a + c) + (b + e)) % 2
joined d x a b c e p q =
    let same : (a + b) + (c + e) ≡ (a + c) + (b + e) = omega arith in
    add-mod d x 2 ∙ (λ i. (p i + q i) % 2) ∙ sym (add-mod (a + b) (c + e) 2) ∙ ap (λ (n : ℕ). n % 2) same

pub ones_zero : ones 0 ≡ 0
unfolding ones ones_in
ones_zero = refl

pub ones_xor : (a b : ℕ) → ones (bit_xor a b) % 2 ≡ (ones a + ones b) % 2
ones_xor = bin_ind (λ (a : ℕ). (b : ℕ) → ones (bit_xor a b) % 2 ≡ (ones a + ones b) % 2) base step
  where
    base : (b : ℕ) → ones (bit_xor 0 b) % 2 ≡ (ones 0 + ones b) % 2
    base b = ap (λ (n : ℕ). ones n % 2) (xor_zero_l b) ∙ omega (arith, ones_zero)

    step : (a : ℕ) → ((b : ℕ) → ones (bit_xor (a / 2) b) % 2 ≡ (ones (a / 2) + ones b) % 2) → (b : ℕ) → ones (bit_xor a b) % 2 ≡ (ones a + ones b) % 2
    step a ih b =
        let d : ℕ = differ (a % 2) (b % 2) in
        let x : ℕ = bit_xor (a / 2) (b / 2) in
        let small : d < 2 = differ_small (a % 2) (b % 2) (mod-lt a (lit< tt)) (mod-lt b (lit< tt)) in
        let even : d % 2 ≡ (a % 2 + b % 2) % 2 = differ_parity (a % 2) (b % 2) (mod-lt a (lit< tt)) (mod-lt b (lit< tt)) in
        let low : (x * 2 + d) % 2 ≡ d = digits_mod x small in
        let high : (x * 2 + d) / 2 ≡ x = digits_div x small in
        let whole : ones (bit_xor a b) ≡ d + ones x = ap ones (xor_step a b) ∙ ones_step (x * 2 + d) ∙ (λ i. low i + ones (high i)) in
        ap (λ (n : ℕ). n % 2) whole ∙ joined d (ones x) (a % 2) (b % 2) (ones (a / 2)) (ones (b / 2)) even (ih (b / 2))
        ∙ (λ i. (sym (ones_step a) i + sym (ones_step b) i) % 2)

-- the upper bits of a number laid over its lower n
abbrev folded : ℕ → ℕ → ℕ
folded n a = bit_xor a (a / 2 ^ n)

-- of 2n bits: the lower n of what comes out have ones of the same parity
ones_folded : (n a : ℕ) → ones (folded n a % 2 ^ n) % 2 ≡ ones (a % 2 ^ (n + n)) % 2
ones_folded n a =
    let low : ℕ = a % 2 ^ n in
    let high : ℕ = a / 2 ^ n % 2 ^ n in
    let whole : ones (a % 2 ^ (n + n)) ≡ ones high + ones low = ap ones (mod-pow-add a n n) ∙ ones_cat n high low (mod-lt a (pow_pos n)) in
    ap (λ (x : ℕ). ones x % 2) (xor_mod a (a / 2 ^ n) n) ∙ ones_xor low high ∙ omega (arith, whole)

ones_bit : (a : ℕ) → ones (a % 2 ^ 1) % 2 ≡ a % 2 ^ 1
ones_bit a =
    let small : a % 2 < 2 = mod-lt a (lit< tt) in
    omega (arith, ones_step (a % 2), ap ones (div-eq_of_lt small), ones_zero)

-- a number of 32 bits folded down to one
pub ones_of_last : (a : ℕ) → a < 2 ^ 32 → bit_and (folded 1 (folded 2 (folded 4 (folded 8 (folded 16 a))))) 1 ≡ ones a % 2
ones_of_last a h =
    let b : ℕ = folded 16 a in
    let c : ℕ = folded 8 b in
    let d : ℕ = folded 4 c in
    let e : ℕ = folded 2 d in
    and_mask (folded 1 e) 1 ∙ sym (ones_bit (folded 1 e)) ∙ ones_folded 1 e ∙ ones_folded 2 d ∙ ones_folded 4 c ∙ ones_folded 8 b ∙ ones_folded 16 a
    ∙ ap (λ (x : ℕ). ones x % 2) (mod-eq_of_lt h)
