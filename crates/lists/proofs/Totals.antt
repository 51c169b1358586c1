-- What `total` says of lists joined, mapped, counted, and changed at one place, and of two functions.
use mathlib.Core.Path.{◌≡◌, refl, ap}
use mathlib.Core.List.{List, [], ◌∷◌, ◌++◌, map}
use Prim.Native.Nat.{ℕ, zero, suc, ◌+◌, ◌*◌, ◌≤◌, ◌<◌}
use native.Mathlib.Nat.{suc-mul}
use native.Mathlib.Omega.{arith}
use lib.ListN.{length, get_or, set}
use Rattle.lists.specs.Lists.{All, total}

pub total_append : {X : Type 0} (w : X → ℕ) (s t : List X) → total w (s ++ t) ≡ total w s + total w t
unfolding total
total_append w [] t = omega arith
total_append w (x ∷ s) t = omega (arith, total_append w s t)

-- six lists joined
pub total_six : {X : Type 0} (w : X → ℕ) (a b c d e f : List X)
    → total w (a ++ b ++ c ++ d ++ e ++ f) ≡ total w a + (total w b + (total w c + (total w d + (total w e + total w f))))
total_six w a b c d e f = simp total_append (omega arith)

pub total_map : {X Y : Type 0} (w : Y → ℕ) (f : X → Y) (l : List X) → total w (map f l) ≡ total (λ (x : X). w (f x)) l
unfolding total
total_map w f [] = refl
total_map w f (x ∷ l) = ap (λ (n : ℕ). w (f x) + n) (total_map w f l)

-- by two functions that agree on every element
pub total_same : {X : Type 0} (f g : X → ℕ) (P : X → Type 0) → ((x : X) → P x → f x ≡ g x) → (l : List X) → All P l → total f l ≡ total g l
unfolding total All
total_same f g P e [] h = refl
total_same f g P e (x ∷ l) h = omega (arith, e x h.0, total_same f g P e l h.1)

pub total_none : {X : Type 0} (f : X → ℕ) → ((x : X) → f x ≡ 0) → (l : List X) → total f l ≡ 0
unfolding total
total_none f e [] = refl
total_none f e (x ∷ l) = omega (arith, e x, total_none f e l)

-- each element counted once
pub total_ones : {X : Type 0} (l : List X) → total (λ (x : X). 1) l ≡ length l
unfolding total
total_ones [] = refl
total_ones (x ∷ l) = omega (arith, total_ones l)

-- one element changed: what it weighed is taken away, what it weighs is added
pub total_set : {X : Type 0} (w : X → ℕ) (l : List X) (i : ℕ) (x d : X) → i < length l → total w (set l i x) + w (get_or l i d) ≡ total w l + w x
unfolding total
total_set w [] i x d h = absurd (omega arith)
total_set w (y ∷ l) zero x d h = omega arith
total_set w (y ∷ l) (suc i) x d h = omega (arith, total_set w l i x d (omega arith))

-- where each weighs at most k, all together weigh at most k each
pub total_most : {X : Type 0} (w : X → ℕ) (k : ℕ) (l : List X) → All (λ (x : X). w x ≤ k) l → total w l ≤ length l * k
unfolding total All
total_most w k [] a = omega arith
total_most w k (x ∷ l) a = simp suc-mul (omega (arith, a.0, total_most w k l a.1))
