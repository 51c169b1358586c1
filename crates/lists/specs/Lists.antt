-- Lists, which know nothing of the model: what holds of every element, a sum over all of them, lists one after the other, a part taken out and put back.
use Rattle.std.specs.Prelude.{ℕ, zero, suc, ◌+◌, List, [], ◌∷◌, ◌++◌, take, drop}

unfoldable pub All : {X : Type 0} → (X → Type 0) → List X → Type 0
All P [] = Unit {0}
All P (x ∷ xs) = P x × All P xs

unfoldable pub total : {X : Type 0} → (X → ℕ) → List X → ℕ
total w [] = 0
total w (x ∷ xs) = w x + total w xs

-- What stands at the numbers below k, one after the other.
unfoldable pub up_to : {X : Type 0} → (ℕ → List X) → ℕ → List X
up_to f zero = []
up_to f (suc k) = up_to f k ++ f k

-- The n numbers from place a on.
abbrev pub part : ℕ → ℕ → List ℕ → List ℕ
part a n l = take n (drop a l)

-- The list with ys in the place of the n from a on.
abbrev pub put_back : ℕ → ℕ → List ℕ → List ℕ → List ℕ
put_back a n ys l = take a l ++ (ys ++ drop n (drop a l))
