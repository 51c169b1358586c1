-- Codes side by side in one number: the bits above the lowest three of each byte tell of all of them at once.
use mathlib.Core.Path.{◌≡◌, refl, sym, ap, ap₂, ◌∙◌, subst}
use mathlib.Core.Bool.{Bool, true, false, ◌&&◌, and_assoc, and-true, and-false}
use mathlib.Core.List.{List}
use Prim.Native.Nat.{ℕ, zero, suc, ◌+◌, ◌*◌, ◌/◌, ◌%◌, ◌^◌, ◌<◌, ◌≤◌, min, max}
use native.Mathlib.Nat.{mod-lt, mod-eq_of_lt, lt_of_le_of_lt, lt_of_lt_of_le, suc-mul, mul-le-mul_right, mul-lt-mul_of_pos_right}
use native.Mathlib.Omega.{arith}
use borrow.Author.Tests.{eq-eqb, ne_eqb, le-ltb, ltb-true, ltb-false}
use lib.Arith.{bin_ind}
use lib.Bits.{bit_and, bit_or, and_step, or_step, and_shr, or_shr, and_mod, or_mod, and_block, and_high, and_le_l, or_shifted_r}
use lib.Dec.{eqb, ltb, eqb-suc-zero, lit<}
use lib.ListN.{drop}
use lib.Pow.{split, pow_pos}
use Rattle.tables.specs.Accept.{all_codes, above_seven, SideBySide}
use Rattle.tables.proofs.OneByOne.{or_below}

-- ---- `&` and `|` of three numbers

digit : (x y z : ℕ) → x < 2 → y < 2 → z < 2 → min (bit_or x y) z ≡ max (bit_and x z) (bit_and y z)
digit zero zero zero hx hy hz = refl
digit zero zero (suc zero) hx hy hz = refl
digit zero (suc zero) zero hx hy hz = refl
digit zero (suc zero) (suc zero) hx hy hz = refl
digit (suc zero) zero zero hx hy hz = refl
digit (suc zero) zero (suc zero) hx hy hz = refl
digit (suc zero) (suc zero) zero hx hy hz = refl
digit (suc zero) (suc zero) (suc zero) hx hy hz = refl
digit (suc (suc x)) y z hx hy hz = absurd (omega arith)
digit zero (suc (suc y)) z hx hy hz = absurd (omega arith)
digit (suc zero) (suc (suc y)) z hx hy hz = absurd (omega arith)
digit zero zero (suc (suc z)) hx hy hz = absurd (omega arith)
digit zero (suc zero) (suc (suc z)) hx hy hz = absurd (omega arith)
digit (suc zero) zero (suc (suc z)) hx hy hz = absurd (omega arith)
digit (suc zero) (suc zero) (suc (suc z)) hx hy hz = absurd (omega arith)

-- a mask goes into both of two joined numbers
and_or : (a b m : ℕ) → bit_and (bit_or a b) m ≡ bit_or (bit_and a m) (bit_and b m)
and_or = bin_ind (λ (a : ℕ). (b m : ℕ) → bit_and (bit_or a b) m ≡ bit_or (bit_and a m) (bit_and b m)) (λ b m. refl) step
  where
    two : (n : ℕ) → n % 2 < 2
    two n = mod-lt n (lit< tt)

    step : (a : ℕ) → ((b m : ℕ) → bit_and (bit_or (a / 2) b) m ≡ bit_or (bit_and (a / 2) m) (bit_and b m)) → (b m : ℕ) → bit_and (bit_or a b) m ≡ bit_or (bit_and a m) (bit_and b m)
    step a ih b m =
        and_step (bit_or a b) m
        ∙ ap₂ (λ (x y : ℕ). bit_and x (m / 2) * 2 + min y (m % 2)) (or_shr a b 1) (or_mod a b 1)
        ∙ ap₂ (λ (x y : ℕ). x * 2 + y) (ih (b / 2) (m / 2)) (digit (a % 2) (b % 2) (m % 2) (two a) (two b) (two m))
        ∙ ap₂ (λ (x y : ℕ). bit_or x y * 2 + max (bit_and (a % 2) (m % 2)) (bit_and (b % 2) (m % 2))) (sym (and_shr a m 1)) (sym (and_shr b m 1))
        ∙ ap₂ (λ (x y : ℕ). bit_or (bit_and a m / 2) (bit_and b m / 2) * 2 + max x y) (sym (and_mod a m 1)) (sym (and_mod b m 1))
        ∙ sym (or_step (bit_and a m) (bit_and b m))

-- ---- codes in bytes

-- none of the bits that tell of a code above 7
abbrev pub clear : ℕ → Bool
clear r = eqb (bit_and r above_seven) 0

zero_below : (a : ℕ) → eqb a 0 ≡ ltb a 1
zero_below zero = refl
zero_below (suc a) = eqb-suc-zero a ∙ sym (le-ltb (suc a) 1 (omega arith))

-- numbers joined have none of them where neither has one
pub clear_or : (a b : ℕ) (all rest : Bool) → all ≡ (clear a && (clear b && rest)) → all ≡ (clear (bit_or a b) && rest)
clear_or a b all rest e = e ∙ sym (and_assoc (clear a) (clear b) rest) ∙ ap (λ (f : Bool). f && rest) (sym both)
  where
    both : clear (bit_or a b) ≡ (clear a && clear b)
    both =
        ap (λ (n : ℕ). eqb n 0) (and_or a b above_seven) ∙ zero_below (bit_or (bit_and a above_seven) (bit_and b above_seven))
        ∙ or_below 0 (bit_and a above_seven) (bit_and b above_seven)
        ∙ (λ i. sym (zero_below (bit_and a above_seven)) i && sym (zero_below (bit_and b above_seven)) i)

-- a number meets only the low bits of a mask
low_mask : (k a m : ℕ) → a < 2 ^ k → bit_and a (m % 2 ^ k) ≡ bit_and a m
low_mask k a m h = ap (λ (x : ℕ). bit_and x (m % 2 ^ k)) (sym (mod-eq_of_lt h)) ∙ sym (and_mod a m k) ∙ mod-eq_of_lt (lt_of_le_of_lt (and_le_l a m) h)

pub one_code : (c : ℕ) → c < 256 → eqb (bit_and c above_seven) 0 ≡ ltb c 8
one_code c h = ap (λ (n : ℕ). eqb n 0) (sym (low_mask 8 c above_seven h) ∙ and_high c 5 3) ∙ go (ltb c 8) refl
  where
    go : (p : Bool) → ltb c 8 ≡ p → eqb (c / 8 % 32 * 8) 0 ≡ p
    go true e = let l : c < 8 = ltb-true _ _ e in eq-eqb (c / 8 % 32 * 8) 0 (omega arith)
    go false e =
        let l : 8 ≤ c = ltb-false _ _ e in
        let d : c / 8 < 32 = omega arith in
        let s : c / 8 % 32 ≡ c / 8 = mod-eq_of_lt d in
        ne_eqb _ _ (λ (z : c / 8 % 32 * 8 ≡ 0). omega (arith, s))

-- one number shifted past another
apart_zero : (p a b : ℕ) → 0 < p → eqb (b * p + a) 0 ≡ (eqb a 0 && eqb b 0)
apart_zero p a zero h = let e : 0 * p + a ≡ a = omega arith in ap (λ (n : ℕ). eqb n 0) e ∙ sym (and-true (eqb a 0))
apart_zero p a (suc b) h = ne_eqb _ _ (λ (z : suc b * p + a ≡ 0). omega (arith, suc-mul b p)) ∙ sym (ap (λ (f : Bool). eqb a 0 && f) (eqb-suc-zero b) ∙ and-false (eqb a 0))

module _ (k j : ℕ) (same : above_seven / 2 ^ k ≡ above_seven % 2 ^ j) (a b : ℕ) (ha : a < 2 ^ k) (hb : b < 2 ^ j) where
  clear_apart : clear (b * 2 ^ k + a) ≡ (clear a && clear b)
  clear_apart =
      ap (λ (n : ℕ). eqb n 0)
      (
      ap (bit_and (b * 2 ^ k + a)) (sym (split above_seven k)) ∙ and_block k b (above_seven / 2 ^ k) a (above_seven % 2 ^ k) ha (mod-lt above_seven (pow_pos k))
      ∙ ap₂ (λ (x y : ℕ). x * 2 ^ k + y) (ap (bit_and b) same ∙ low_mask j b above_seven hb) (low_mask k a above_seven ha)
      )
      ∙ apart_zero (2 ^ k) (bit_and a above_seven) (bit_and b above_seven) (pow_pos k)

-- n codes, and m more beside them
pub beside : (n m j : ℕ) → above_seven / 2 ^ (8 * n) ≡ above_seven % 2 ^ j → 2 ^ j * 2 ^ (8 * n) ≡ 2 ^ 64 → 2 ^ (8 * m) ≤ 2 ^ j → 2 ^ (8 * m) * 2 ^ (8 * n) ≡ 2 ^ (8 * (n + m))
    → (s : List ℕ) (i a b : ℕ) → SideBySide n s i a → SideBySide m s (i + n) b → SideBySide (n + m) s i (bit_or a (b * 2 ^ (8 * n) % 2 ^ 64))
beside n m j same whole within width s i a b low high =
    let p : ℕ = 2 ^ (8 * n) in
    let small : b < 2 ^ j = lt_of_lt_of_le high.0 within in
    let fits : b * p < 2 ^ 64 = subst (λ (x : ℕ). b * p < x) whole (mul-lt-mul_of_pos_right small (pow_pos (8 * n))) in
    let sum : bit_or a (b * p % 2 ^ 64) ≡ b * p + a = ap (bit_or a) (mod-eq_of_lt fits) ∙ or_shifted_r b (8 * n) a low.0 in
    let room : suc b * p ≤ 2 ^ (8 * (n + m)) = subst (λ (x : ℕ). suc b * p ≤ x) width (mul-le-mul_right p high.0) in
    let end : i + n + m ≡ i + (n + m) = omega arith in
    let below : b * p + a < 2 ^ (8 * (n + m)) = omega (arith, suc-mul b p, low.0) in (
      rw sum below,
      low.1 ∙ ap (λ (r : Bool). clear a && r) high.1 ∙ sym (and_assoc (clear a) (clear b) _)
          ∙ ap₂ (λ (c : Bool) (at : ℕ). c && all_codes (drop at s)) (sym (ap clear sum ∙ clear_apart (8 * n) j same a b low.0 small)) end,
    )
