-- Digits one by one: the first of those that are left is taken, and where one is none the word is no number.
use Rattle.std.proofs.Common.{◌≡◌, ℕ, ◌+◌, ◌-◌, ◌<◌, ◌≤◌, Bool, Some, None, List, [], ◌∷◌, length, get_or, take, drop, refl, add-one, lt-ltb, le-ltb, drop_of_length-le, drop-cons}
use Rattle.std.proofs.lemmas.List.{take_rest}
use Rattle.script.specs.Numbers.{digit_of, digits_from, with_digit, with_digits}

pub none_stays : (hex : Bool) (s : List ℕ) → with_digits hex None s ≡ None
unfolding with_digits
none_stays hex [] = refl
none_stays hex (b ∷ s) = none_stays hex s

pub no_digits : (from : ℕ) (hex : Bool) (w : List ℕ) → length w ≤ from → digits_from from hex w ≡ None
no_digits from hex w h = simp (le-ltb from (length w) h) (none_stays hex (drop from w))

pub some_digits : (from : ℕ) (hex : Bool) (w : List ℕ) → from < length w → digits_from from hex w ≡ with_digits hex (Some 0) (take (length w - from) (drop from w))
some_digits from hex w h = simp (lt-ltb from (length w) h, take_rest w from)

pub one_taken :
    (hex : Bool) (n : ℕ) (s : List ℕ) (i : ℕ) → i < length s →
    with_digits hex (Some n) (drop i s) ≡ with_digits hex (with_digit hex (Some n) (digit_of (get_or s i 0))) (drop (i + 1) s)
unfolding with_digits
one_taken hex n s i h = rw (add-one, drop-cons s i 0)

pub none_left : (hex : Bool) (n : ℕ) (s : List ℕ) (i : ℕ) → length s ≤ i → with_digits hex (Some n) (drop i s) ≡ Some n
unfolding with_digits
none_left hex n s i h = rw (drop_of_length-le s h)
