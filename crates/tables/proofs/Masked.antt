-- Numbers under masks, and rows: a row that matches some key has no key bit outside its mask.
use mathlib.Core.Path.{◌≡◌, refl, sym, ap, ap₂, ◌∙◌}
use mathlib.Core.Bool.{true}
use Prim.Native.Nat.{ℕ, zero, suc, ◌+◌, ◌*◌, ◌/◌, ◌%◌, ◌<◌, min}
use native.Mathlib.Nat.{min-zero, zero-min, suc-min-suc, min-le_left, mod-lt, lt_of_le_of_lt, zero-lt-suc}
use lib.Arith.{bin_ind, digits_div, digits_mod}
use lib.Bits.{bit_and, and_step, and_comm, and_self}
use borrow.Author.Tests.{eqb-true, eq-eqb}
use Rattle.tables.specs.Rows.{matches, used}

min_assoc : (a b c : ℕ) → min (min a b) c ≡ min a (min b c)
min_assoc zero b c = ap (λ (x : ℕ). min x c) (zero-min b) ∙ zero-min c ∙ sym (zero-min (min b c))
min_assoc (suc a) zero c = ap (λ (x : ℕ). min x c) (min-zero (suc a)) ∙ zero-min c ∙ sym (ap (min (suc a)) (zero-min c) ∙ min-zero (suc a))
min_assoc (suc a) (suc b) zero = min-zero (min (suc a) (suc b)) ∙ sym (ap (min (suc a)) (min-zero (suc b)) ∙ min-zero (suc a))
min_assoc (suc a) (suc b) (suc c) =
    ap (λ (x : ℕ). min x (suc c)) (suc-min-suc a b) ∙ suc-min-suc (min a b) c ∙ ap suc (min_assoc a b c)
    ∙ sym (ap (min (suc a)) (suc-min-suc b c) ∙ suc-min-suc a (min b c))

digit_lt : (a b : ℕ) → min (a % 2) (b % 2) < 2
digit_lt a b = lt_of_le_of_lt (min-le_left (a % 2) (b % 2)) (mod-lt a (zero-lt-suc 1))

and_half : (a b : ℕ) → bit_and a b / 2 ≡ bit_and (a / 2) (b / 2)
and_half a b = ap (λ (x : ℕ). x / 2) (and_step a b) ∙ digits_div (bit_and (a / 2) (b / 2)) (digit_lt a b)

and_digit : (a b : ℕ) → bit_and a b % 2 ≡ min (a % 2) (b % 2)
and_digit a b = ap (λ (x : ℕ). x % 2) (and_step a b) ∙ digits_mod (bit_and (a / 2) (b / 2)) (digit_lt a b)

pub and_assoc : (a b c : ℕ) → bit_and (bit_and a b) c ≡ bit_and a (bit_and b c)
and_assoc =
    bin_ind (λ (n : ℕ). (b c : ℕ) → bit_and (bit_and n b) c ≡ bit_and n (bit_and b c)) (λ b c. refl)
    (λ n ih b c. and_step (bit_and n b) c
    ∙ ap₂ (λ (x y : ℕ). bit_and x (c / 2) * 2 + min y (c % 2)) (and_half n b) (and_digit n b)
    ∙ ap₂ (λ (x y : ℕ). x * 2 + y) (ih (b / 2) (c / 2)) (min_assoc (n % 2) (b % 2) (c % 2))
    ∙ sym (ap₂ (λ (x y : ℕ). bit_and (n / 2) x * 2 + min (n % 2) y) (and_half b c) (and_digit b c))
    ∙ sym (and_step n (bit_and b c)))

-- bits that a mask has among those of another can be taken after that other's
pub through : (key mask later : ℕ) → bit_and mask later ≡ mask → bit_and key mask ≡ bit_and (bit_and key later) mask
through key mask later h = ap (bit_and key) (sym h ∙ and_comm mask later) ∙ sym (and_assoc key later mask)

pub used_of_match : (key row mask : ℕ) → matches key row mask ≡ true → used row mask ≡ true
used_of_match key row mask m =
    let under : bit_and key mask ≡ row = eqb-true (bit_and key mask) row m in
    eq-eqb (bit_and row mask) row (ap (λ (x : ℕ). bit_and x mask) (sym under) ∙ and_assoc key mask mask ∙ ap (bit_and key) (and_self mask) ∙ under)
