-- A word as a number of 32 bits: decimal digits, or 0x and hexadecimal ones.
use Rattle.std.specs.Prelude.{ℕ, ◌+◌, ◌-◌, ◌*◌, Bool, true, false, cond, ◌&&◌, ◌||◌, Option, Some, None, List, [], ◌∷◌, length, drop, ◌==◌, nat_lt, slice_index}

-- What a digit stands for, 0 to 9, A to F, a to f: nothing for a byte that is none.
abbrev pub digit_of : ℕ → Option ℕ
digit_of b =
    cond (nat_lt b 48) None
    (cond (nat_lt b 58) (Some (b - 48))
    (cond (nat_lt b 65) None
    (cond (nat_lt b 71) (Some (b - 55))
    (cond (nat_lt b 97) None
    (cond (nat_lt b 103) (Some (b - 87)) None)))))

abbrev pub base : Bool → ℕ
base true = 16
base false = 10

-- A number that fits 32 bits, if it is one.
abbrev pub fitting_of : ℕ → Bool → Option ℕ
fitting_of n good = cond (nat_lt n 4294967296) (cond good (Some n) None) None

-- A number with one digit more: none where that is no digit of the base.
abbrev pub with_digit : Bool → Option ℕ → Option ℕ → Option ℕ
with_digit hex (Some n) (Some digit) = fitting_of (n * base hex + digit) (nat_lt digit (base hex))
with_digit hex _ _ = None

-- A number with the digits of these bytes, first to last.
unfoldable pub with_digits : Bool → Option ℕ → List ℕ → Option ℕ
with_digits hex n [] = n
with_digits hex n (b ∷ s) = with_digits hex (with_digit hex n (digit_of b)) s

-- The digits from a place on, to the word's end: at least one.
abbrev pub digits_from : ℕ → Bool → List ℕ → Option ℕ
digits_from from hex w = with_digits hex (cond (nat_lt from (length w)) (Some 0) None) (drop from w)

-- Whether a word begins with 0x or 0X.
abbrev pub is_hex : List ℕ → Bool
is_hex w = slice_index w 0 == 48 && (slice_index w 1 == 120 || slice_index w 1 == 88)

abbrev pub number_of : List ℕ → Option ℕ
number_of w = cond (is_hex w) (digits_from 2 true w) (digits_from 0 false w)
