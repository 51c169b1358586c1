-- How many links each of the four ways has that `ways::way_to` compares: what it counts from the unsigned numbers is what the signed ones say.
use Prim.Native.Nat.{ℕ, zero, suc, ◌+◌, ◌-◌, ◌%◌, ◌≤◌, max}
use mathlib.Core.Path.{◌≡◌, refl, sym, ap, ◌∙◌}
use native.Mathlib.Omega.{arith}
use native.Mathlib.Nat.{mod-le}
use lib.IntN.{ℤ, pos, neg_ℤ}
use mir.Syntax.{w32}
use mir.Val.{to_z, of_z}
use Rattle.tree.specs.Way.{links_in}
use Rattle.tree.specs.Walking.{CountedRight, forwards}
use Rattle.tree.proofs.Signs.{Few, way_made, small_way}

-- a way made of two numbers that were read back, with its links counted
pub counted : {e n e' n' : ℤ} {links : ℕ} → Few e e' → Few n n' → links ≡ links_in (record { east = e'; north = n' })
    → CountedRight (record { way = record { east = to_z w32 (of_z w32 e); north = to_z w32 (of_z w32 n) }; links = links })
counted east north many = record { small = small_way east north; many = many ∙ ap links_in (sym (way_made east north)) }

-- ---- the four ways

-- whole turns taken out of the steps beyond a number leave it whole
kept : (far count size : ℕ) → count ≤ far → count ≤ far - (far - count) % size
kept far count size h = omega (arith, mod-le (far - count) size)

largest : {e n a b far : ℕ} → far ≡ max e n → e ≤ a → n ≤ b → a ≤ far → b ≤ far → far ≡ links_in (record { east = pos a; north = pos b })
largest is east north low high = omega arith

pub forwards_count : (width height east north : ℕ) {far : ℕ} → far ≡ max east north → far ≡ links_in (forwards width height east north)
forwards_count width height east north is =
    let far = max east north in
    is ∙ largest refl (kept far east width (omega arith)) (kept far north height (omega arith)) (omega arith) (omega arith)

pub east_south_count : (e s : ℕ) {down : ℕ} → down ≡ s → e + down ≡ links_in (record { east = pos e; north = neg_ℤ (pos s) })
east_south_count e zero is = omega arith
east_south_count e (suc s) is = omega arith

pub west_north_count : (w n : ℕ) {back : ℕ} → back ≡ w → back + n ≡ links_in (record { east = neg_ℤ (pos w); north = pos n })
west_north_count zero n is = omega arith
west_north_count (suc w) n is = omega arith

pub backwards_count : (w s : ℕ) {back down far : ℕ} → back ≡ w → down ≡ s → far ≡ max back down → far ≡ links_in (record { east = neg_ℤ (pos w); north = neg_ℤ (pos s) })
backwards_count zero zero west south is = omega arith
backwards_count zero (suc s) west south is = omega arith
backwards_count (suc w) zero west south is = omega arith
backwards_count (suc w) (suc s) west south is = omega arith
