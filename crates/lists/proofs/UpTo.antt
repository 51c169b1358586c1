-- Lists up to a number, one behind the other.
use mathlib.Core.Path.{◌≡◌, refl, sym, ap, ◌∙◌}
use mathlib.Core.List.{List, [], ◌∷◌, ◌++◌, append-nil, append_assoc}
use Prim.Native.Nat.{ℕ, zero, suc, ◌+◌, ◌-◌, ◌≤◌, ◌<◌}
use native.Mathlib.Omega.{arith}
use native.Mathlib.Nat.{add-zero, add-suc}
use lib.ListN.{length, get_or, take}
use lib.Seq.{take-suc, take_all}
use Rattle.lists.specs.Lists.{up_to}

module _ {X : Type 0} where
  pub upto_same : (f g : ℕ → List X) (n : ℕ) → ((k : ℕ) → k < n → f k ≡ g k) → up_to f n ≡ up_to g n
  unfolding up_to
  upto_same f g zero e = refl
  upto_same f g (suc n) e = λ i. upto_same f g n (λ k h. e k (omega arith)) i ++ e n (omega arith) i

  -- a list is its elements, one after the other
  taken : (d : X) (xs : List X) (n : ℕ) → n ≤ length xs → take n xs ≡ up_to (λ k. get_or xs k d ∷ []) n
  unfolding up_to
  taken d xs zero h = refl
  taken d xs (suc n) h = take-suc xs n d (omega arith) ∙ ap (λ (l : List X). l ++ get_or xs n d ∷ []) (taken d xs n (omega arith))

  pub one_by_one : (d : X) (xs : List X) → xs ≡ up_to (λ k. get_or xs k d ∷ []) (length xs)
  one_by_one d xs = sym (take_all (length xs) xs (omega arith)) ∙ taken d xs (length xs) (omega arith)

  -- what comes behind the part below k
  pub rest : (f : ℕ → List X) (k m : ℕ) → List X
  rest f k zero = []
  rest f k (suc m) = rest f k m ++ f (k + m)

  split_sum : (f : ℕ → List X) (k m : ℕ) → up_to f (k + m) ≡ up_to f k ++ rest f k m
  unfolding up_to rest
  split_sum f k zero = ap (up_to f) (add-zero k) ∙ sym (append-nil (up_to f k))
  split_sum f k (suc m) = ap (up_to f) (add-suc k m) ∙ ap (λ (l : List X). l ++ f (k + m)) (split_sum f k m) ∙ append_assoc (up_to f k) (rest f k m) (f (k + m))

  pub upto_split : (f : ℕ → List X) (k m : ℕ) → k < m → up_to f m ≡ up_to f k ++ (f k ++ rest f (suc k) (m - suc k))
  unfolding up_to
  upto_split f k m h =
      let e : m ≡ suc k + (m - suc k) = omega arith in
      ap (up_to f) e ∙ split_sum f (suc k) (m - suc k) ∙ append_assoc (up_to f k) (f k) (rest f (suc k) (m - suc k))
