-- A choice by kind, kind by kind.
use mathlib.Core.Path.{◌≡◌, refl, ap}
use mathlib.Core.Bool.{Bool, true, false, cond}
use Prim.Native.Nat.{ℕ}
use lib.Dec.{eqb}
use borrow.Author.Tests.{ne_eqb}
use Rattle.records.specs.Records.{by_kind}

module _ {X : Type 0} (a b c d : X) where
  pub by_1 : (k : ℕ) → k ≡ 1 → by_kind k a b c d ≡ a
  by_1 k e = ap (λ (n : ℕ). by_kind n a b c d) e

  pub by_2 : (k : ℕ) → k ≡ 2 → by_kind k a b c d ≡ b
  by_2 k e = ap (λ (n : ℕ). by_kind n a b c d) e

  pub by_3 : (k : ℕ) → k ≡ 3 → by_kind k a b c d ≡ c
  by_3 k e = ap (λ (n : ℕ). by_kind n a b c d) e

  pub by_else : (k : ℕ) → (k ≡ 1 → ⊥) → (k ≡ 2 → ⊥) → (k ≡ 3 → ⊥) → by_kind k a b c d ≡ d
  by_else k x y z = simp (ne_eqb k 1 x, ne_eqb k 2 y, ne_eqb k 3 z)

-- What is made of a choice is the choice of what is made.
pub by_made : {X Y : Type 0} (f : X → Y) (k : ℕ) (a b c d : X) → f (by_kind k a b c d) ≡ by_kind k (f a) (f b) (f c) (f d)
by_made {X} {Y} f k a b c d = go (eqb k 1) (eqb k 2) (eqb k 3)
  where
    go : (x y z : Bool) → f (cond x a (cond y b (cond z c d))) ≡ cond x (f a) (cond y (f b) (cond z (f c) (f d)))
    go true y z = refl
    go false true z = refl
    go false false true = refl
    go false false false = refl
