-- What the types with a mark and those with a stamp have to do with each other, and that both go by the type alone.
use mathlib.Core.Path.{◌≡◌, refl, ap}
use mathlib.Core.Bool.{Bool, true, false, ◌||◌, not, or-true}
use mathlib.Core.Logic.{◌⊎◌, inl, inr, ⊎_elim}
use Prim.Native.Nat.{ℕ}
use native.Mathlib.Omega.{arith}
use lib.Dec.{eqb}
use borrow.Author.Tests.{eqb-true, ne_eqb, not-true}
use Rattle.packet.specs.Control.{kind_of}
use Rattle.packet.specs.Types.{is_mc, is_fixed, is_marked, is_stamped}

module _ (c d : ℕ) (same : kind_of c ≡ kind_of d) where
  pub same_marked : is_marked c ≡ is_marked d
  unfolding is_marked
  same_marked = ap (λ (k : ℕ). eqb k 0 || eqb k 3) same

  pub same_stamped : is_stamped c ≡ is_stamped d
  unfolding is_stamped
  same_stamped = ap (λ (k : ℕ). not (eqb k 2)) same

module _ (c : ℕ) where
  pub mc_marked : is_mc c ≡ true → is_marked c ≡ true
  unfolding is_marked
  mc_marked mc = simp mc

  pub fixed_marked : is_fixed c ≡ true → is_marked c ≡ true
  unfolding is_marked
  fixed_marked fixed = simp (fixed, or-true)

  -- MC and fixed-route are the types with a mark
  pub marked_either : is_marked c ≡ true → (is_mc c ≡ true) ⊎ (is_fixed c ≡ true)
  unfolding is_marked
  marked_either marked = go (is_mc c) refl
    where
      go : (b : Bool) → is_mc c ≡ b → (is_mc c ≡ true) ⊎ (is_fixed c ≡ true)
      go true e = inl e
      go false e = inr (simp e at marked)

  pub marked_stamped : is_marked c ≡ true → is_stamped c ≡ true
  unfolding is_stamped
  marked_stamped marked =
      let other : kind_of c ≡ 2 → ⊥ = λ e. ⊎_elim (λ m. omega (arith, eqb-true (kind_of c) 0 m)) (λ f. omega (arith, eqb-true (kind_of c) 3 f)) (marked_either marked) in
      simp (ne_eqb (kind_of c) 2 other)

  -- NN has no stamp
  pub stamped_not_nn : is_stamped c ≡ true → eqb (kind_of c) 2 ≡ false
  unfolding is_stamped
  stamped_not_nn stamped = not-true _ stamped
