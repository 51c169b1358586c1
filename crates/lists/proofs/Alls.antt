-- What holds of every element of a list: of two lists put together, of a list's images, of one element, of a list with one element changed.
use mathlib.Core.List.{List, [], ◌∷◌, ◌++◌, map}
use Prim.Native.Nat.{ℕ, zero, suc, ◌<◌}
use native.Mathlib.Omega.{arith}
use lib.ListN.{length, get_or, set, replicate}
use Rattle.lists.specs.Lists.{All}

module _ {X : Type 0} (P : X → Type 0) where
  pub all_nil : All P []
  unfolding All
  all_nil = tt

  -- of every element, where it holds of anything
  pub all_any : ((x : X) → P x) → (xs : List X) → All P xs
  unfolding All
  all_any h [] = tt
  all_any h (x ∷ xs) = (h x, all_any h xs)

  pub all_append : (xs ys : List X) → All P xs → All P ys → All P (xs ++ ys)
  unfolding All
  all_append [] ys a b = b
  all_append (x ∷ xs) ys a b = (a.0, all_append xs ys a.1 b)

  pub all_left : (xs ys : List X) → All P (xs ++ ys) → All P xs
  unfolding All
  all_left [] ys a = tt
  all_left (x ∷ xs) ys a = (a.0, all_left xs ys a.1)

  pub all_right : (xs ys : List X) → All P (xs ++ ys) → All P ys
  unfolding All
  all_right [] ys a = a
  all_right (x ∷ xs) ys a = all_right xs ys a.1

  pub all_get_d : (xs : List X) (i : ℕ) (d : X) → All P xs → i < length xs → P (get_or xs i d)
  unfolding All
  all_get_d [] i d a h = absurd (omega arith)
  all_get_d (x ∷ xs) zero d a h = a.0
  all_get_d (x ∷ xs) (suc i) d a h = all_get_d xs i d a.1 (omega arith)

  -- of an element, or of what stands for one that is not there
  pub all_or : (xs : List X) (i : ℕ) (d : X) → All P xs → P d → P (get_or xs i d)
  unfolding All
  all_or [] i d a h = h
  all_or (x ∷ xs) zero d a h = a.0
  all_or (x ∷ xs) (suc i) d a h = all_or xs i d a.1 h

  pub all_set : (xs : List X) (i : ℕ) (x : X) → All P xs → P x → All P (set xs i x)
  unfolding All
  all_set [] i x a p = a
  all_set (y ∷ xs) zero x a p = (p, a.1)
  all_set (y ∷ xs) (suc i) x a p = (a.0, all_set xs i x a.1 p)

  pub all_replicate : (n : ℕ) (x : X) → P x → All P (replicate n x)
  unfolding All
  all_replicate zero x p = tt
  all_replicate (suc n) x p = (p, all_replicate n x p)

-- of every image, where it holds of the image of every element
pub all_map : {X Y : Type 0} (P : Y → Type 0) (f : X → Y) (xs : List X) → All (λ x. P (f x)) xs → All P (map f xs)
unfolding All
all_map P f [] a = tt
all_map P f (x ∷ xs) a = (a.0, all_map P f xs a.1)

pub all_weaken : {X : Type 0} (P Q : X → Type 0) → ((x : X) → P x → Q x) → (xs : List X) → All P xs → All Q xs
unfolding All
all_weaken P Q f [] a = tt
all_weaken P Q f (x ∷ xs) a = (f x a.0, all_weaken P Q f xs a.1)
