-- A list with one element changed: its images, and what the change keeps.
use mathlib.Core.Path.{◌≡◌, refl, ap}
use mathlib.Core.List.{List, [], ◌∷◌, map}
use Prim.Native.Nat.{ℕ, zero, suc}
use lib.ListN.{get_or, set}

module _ {X Y : Type 0} (f : X → Y) where
  -- an element changed, and then every element's image
  pub map_set : (l : List X) (i : ℕ) (x : X) → map f (set l i x) ≡ set (map f l) i (f x)
  map_set [] i x = refl
  map_set (y ∷ l) zero x = refl
  map_set (y ∷ l) (suc i) x = ap (λ (k : List Y). f y ∷ k) (map_set l i x)

  -- what the new element has as the old one had it, every element has as before
  pub set_keeps : (l : List X) (i j : ℕ) (x d : X) → f x ≡ f (get_or l i d) → f (get_or (set l i x) j d) ≡ f (get_or l j d)
  set_keeps [] i j x d e = refl
  set_keeps (y ∷ l) zero zero x d e = e
  set_keeps (y ∷ l) zero (suc j) x d e = refl
  set_keeps (y ∷ l) (suc i) zero x d e = refl
  set_keeps (y ∷ l) (suc i) (suc j) x d e = set_keeps l i j x d e
