-- Small signed numbers as 32 bits hold them: what is read back is the number.
use Prim.Native.Nat.{ℕ, zero, suc, ◌+◌, ◌-◌, ◌≤◌, min}
use mathlib.Core.Path.{◌≡◌, refl, sym, ap, subst, ◌∙◌}
use mathlib.Core.Bool.{true, false, not, true≢false}
use native.Mathlib.Omega.{arith}
use borrow.Author.Tests.{le-ltb}
use lib.Dec.{T}
use lib.IntN.{ℤ, pos, negsuc, neg_ℤ, nat_abs, ◌-ℤ◌, +ℤ_idl}
use lib.Signed.{non_neg, lt_z}
use mir.Syntax.{w32, w64}
use mir.Val.{Fits, SFits, to_z, of_z}
use mir.ValLaws.{to_z-of_z, to_z_pos}
use Rattle.tree.specs.declared.Way.{Way}
use Rattle.tree.specs.declared.Legs.{Legs}
use Rattle.tree.specs.Walking.{Small, legs_of}

-- ---- the bits

small_fits : (z : ℤ) → nat_abs z ≤ 11 → SFits w32 z
small_fits (pos n) h = record { sfits = omega arith }
small_fits (negsuc n) h = record { sfits = omega arith }

pub read_small : (z : ℤ) → nat_abs z ≤ 11 → to_z w32 (of_z w32 z) ≡ z
read_small z h = to_z-of_z w32 z (small_fits z h)

pub neg_size : (z : ℤ) → nat_abs (neg_ℤ z) ≡ nat_abs z
neg_size (pos zero) = refl
neg_size (pos (suc n)) = refl
neg_size (negsuc n) = refl

-- a negation as the machine takes it, from 0
module _ (z v : ℤ) (small : nat_abs z ≤ 11) (read : v ≡ z) where
  from_zero : pos 0 -ℤ v ≡ neg_ℤ z
  from_zero = ap (λ (x : ℤ). pos 0 -ℤ x) read ∙ +ℤ_idl (neg_ℤ z)

  pub negation_fits : SFits w32 (pos 0 -ℤ v)
  negation_fits = subst (SFits w32) (sym from_zero) (small_fits (neg_ℤ z) (subst (λ (n : ℕ). n ≤ 11) (sym (neg_size z)) small))

  pub negation_read : to_z w32 (of_z w32 (pos 0 -ℤ v)) ≡ neg_ℤ z
  negation_read = to_z-of_z w32 (pos 0 -ℤ v) negation_fits ∙ from_zero

pub read_count : (n : ℕ) → n ≤ 11 → to_z w32 n ≡ pos n
read_count n h = to_z_pos w32 n (omega arith)

pub neg_few : (n : ℕ) → n ≤ 11 → nat_abs (neg_ℤ (pos n)) ≤ 11
neg_few n h = rw neg_size h

-- a number that is another one, and small
pub record Few (z count : ℤ) : Type 0 where
  pub is : z ≡ count
  pub few : nat_abs count ≤ 11

-- a way made of two numbers that were read back
module _ {e n e' n' : ℤ} (east : Few e e') (north : Few n n') where
  pub way_made : ◌≡◌ {A = Way} (record { east = to_z w32 (of_z w32 e); north = to_z w32 (of_z w32 n) }) (record { east = e'; north = n' })
  way_made =
      let a = ap (λ (z : ℤ). to_z w32 (of_z w32 z)) east.is ∙ read_small e' east.few in
      let b = ap (λ (z : ℤ). to_z w32 (of_z w32 z)) north.is ∙ read_small n' north.few in
      λ i. record { east = a i; north = b i }

  pub small_way : Small (record { east = to_z w32 (of_z w32 e); north = to_z w32 (of_z w32 n) })
  small_way = subst Small (sym way_made) (record { east_small = east.few; north_small = north.few })

-- ---- the sign

pub below_zero : (z : ℤ) → lt_z z (pos 0) ≡ not (non_neg z)
below_zero (pos n) = le-ltb n 0 (omega arith)
below_zero (negsuc n) = refl

pub negated_up : (z : ℤ) → not (non_neg z) ≡ true → T (non_neg (neg_ℤ z))
negated_up (pos n) e = absurd (true≢false (sym e))
negated_up (negsuc n) e = tt

pub not_below : (z : ℤ) → not (non_neg z) ≡ false → T (non_neg z)
not_below (pos n) e = tt
not_below (negsuc n) e = absurd (true≢false e)

pub size_fits : (z : ℤ) → nat_abs z ≤ 11 → Fits w64 (nat_abs z)
size_fits z h = record { fits = omega arith }

-- ---- a way's links by the signs

pub both_back : (e n : ℤ) (a b m : ℕ) → a ≡ nat_abs e → b ≡ nat_abs n → m ≡ min a b → not (non_neg e) ≡ true → not (non_neg n) ≡ true
    → ◌≡◌ {A = Legs} (record { shared = m; turn = a; end = a + b - m; diagonal = 4; sideways = 3; upright = 5 }) (legs_of (record { east = e; north = n }))
both_back (pos x) n a b m pa pb pm se sn = absurd (true≢false (sym se))
both_back (negsuc x) (pos y) a b m pa pb pm se sn = absurd (true≢false (sym sn))
both_back (negsuc x) (negsuc y) a b m pa pb pm se sn = cc

pub both_on : (e n : ℤ) (a b m : ℕ) → a ≡ nat_abs e → b ≡ nat_abs n → m ≡ min a b → not (non_neg e) ≡ false → not (non_neg n) ≡ false
    → ◌≡◌ {A = Legs} (record { shared = m; turn = a; end = a + b - m; diagonal = 1; sideways = 0; upright = 2 }) (legs_of (record { east = e; north = n }))
both_on (negsuc x) n a b m pa pb pm se sn = absurd (true≢false se)
both_on (pos x) (negsuc y) a b m pa pb pm se sn = absurd (true≢false sn)
both_on (pos x) (pos y) a b m pa pb pm se sn = cc

pub back_on : (e n : ℤ) (a b : ℕ) → a ≡ nat_abs e → b ≡ nat_abs n → not (non_neg e) ≡ true → not (non_neg n) ≡ false
    → ◌≡◌ {A = Legs} (record { shared = 0; turn = a; end = a + b; diagonal = 4; sideways = 3; upright = 2 }) (legs_of (record { east = e; north = n }))
back_on (pos x) n a b pa pb se sn = absurd (true≢false (sym se))
back_on (negsuc x) (negsuc y) a b pa pb se sn = absurd (true≢false sn)
back_on (negsuc x) (pos y) a b pa pb se sn = let whole : a + b ≡ suc x + y - 0 = omega arith in cc

pub on_back : (e n : ℤ) (a b : ℕ) → a ≡ nat_abs e → b ≡ nat_abs n → not (non_neg e) ≡ false → not (non_neg n) ≡ true
    → ◌≡◌ {A = Legs} (record { shared = 0; turn = a; end = a + b; diagonal = 1; sideways = 0; upright = 5 }) (legs_of (record { east = e; north = n }))
on_back (negsuc x) n a b pa pb se sn = absurd (true≢false se)
on_back (pos x) (pos y) a b pa pb se sn = absurd (true≢false (sym sn))
on_back (pos x) (negsuc y) a b pa pb se sn = let whole : a + b ≡ x + suc y - 0 = omega arith in cc
