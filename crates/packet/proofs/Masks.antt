-- Two bits of a number put in anew by shifts and masks: the parts above, in and below the two bits stand apart.
use mathlib.Core.Path.{◌≡◌, sym, ap, ◌∙◌, subst}
use Prim.Native.Nat.{ℕ, ◌+◌, ◌*◌, ◌/◌, ◌%◌, ◌^◌, ◌-◌, ◌<◌, ◌≤◌}
use native.Mathlib.Nat.{mod-lt, mod-eq_of_lt, div-mul-le_self, lt_of_lt_of_le, lt_of_le_of_lt, mul_assoc, add-mul, mul-lt-mul_of_pos_right}
use lib.Dec.{lit<}
use lib.Pow.{pow-add, pow_pos}
use lib.Bits.{bit_and, bit_or, and_mask, or_shifted}

-- three parts that stand apart: `|` adds them
joined : (j k h f l : ℕ) → f < 2 ^ j → l < 2 ^ k → bit_or (bit_or (h * 2 ^ (j + k)) (f * 2 ^ k)) l ≡ h * 2 ^ (j + k) + f * 2 ^ k + l
joined j k h f l hf hl =
    let below : f * 2 ^ k < 2 ^ (j + k) = subst (λ (n : ℕ). f * 2 ^ k < n) (sym (pow-add 2 j k)) (mul-lt-mul_of_pos_right hf (pow_pos k)) in
    let whole : h * 2 ^ (j + k) + f * 2 ^ k ≡ (h * 2 ^ j + f) * 2 ^ k =
    ap (λ (n : ℕ). h * n + f * 2 ^ k) (pow-add 2 j k) ∙ ap (λ (n : ℕ). n + f * 2 ^ k) (sym (mul_assoc h (2 ^ j) (2 ^ k))) ∙ sym (add-mul (h * 2 ^ j) f (2 ^ k)) in
    ap (λ (n : ℕ). bit_or n l) (or_shifted h (j + k) (f * 2 ^ k) below ∙ whole)
    ∙ or_shifted (h * 2 ^ j + f) k l hl
    ∙ ap (λ (n : ℕ). n + l) (sym whole)

-- the two bits above the lowest k, anew: what the shifts and masks of a 32-bit number c give
pub field_in : (k c v : ℕ) → c < 2 ^ 32 → 2 ^ (2 + k) ≤ 2 ^ 32
    → bit_or (bit_or ((c / 2 ^ (2 + k) * 2 ^ (2 + k)) % 2 ^ 32) ((bit_and v 3 * 2 ^ k) % 2 ^ 32)) (bit_and c (2 ^ k - 1))
    ≡ c / 2 ^ (2 + k) * 2 ^ (2 + k) + v % 4 * 2 ^ k + c % 2 ^ k
field_in k c v hc hk =
    let e : bit_and v 3 ≡ v % 4 = and_mask v 2 in
    let small : v % 4 < 4 = mod-lt v (lit< tt) in
    let under : v % 4 * 2 ^ k < 2 ^ 32 =
    lt_of_lt_of_le (subst (λ (n : ℕ). v % 4 * 2 ^ k < n) (sym (pow-add 2 2 k)) (mul-lt-mul_of_pos_right small (pow_pos k))) hk in
    let high : (c / 2 ^ (2 + k) * 2 ^ (2 + k)) % 2 ^ 32 ≡ c / 2 ^ (2 + k) * 2 ^ (2 + k) = mod-eq_of_lt (lt_of_le_of_lt (div-mul-le_self c (2 ^ (2 + k))) hc) in
    rw (high, e, mod-eq_of_lt under, and_mask c k)
    (joined 2 k (c / 2 ^ (2 + k)) (v % 4) (c % 2 ^ k) small (mod-lt c (pow_pos k)))
