-- Where a walk stands: how far east and north, on which chip, and where a link leads to from there.
use Prim.Native.Nat.{ℕ, ◌+◌, ◌*◌, ◌/◌, ◌%◌, ◌<◌}
use mathlib.Core.Path.{◌≡◌, ap, ◌∙◌}
use mathlib.Core.Bool.{true}
use native.Mathlib.Nat.{mod-lt, div-lt_iff_lt-mul}
use lib.Arith.{digits_lt, digits_div, digits_mod}
use Rattle.tables.specs.Sizes.{size_fine}
use Rattle.tables.proofs.Sizes.{size}
use Rattle.links.specs.Across.{step_east, step_north, across}
use Rattle.tree.specs.Walking.{Stands}

pub chip_there : {width height chip x y : ℕ} → chip ≡ y * width + x → Stands width height x y → chip < height * width
chip_there e at = rw e (digits_lt at.north_low at.east_low)

module _ {width height : ℕ} (fine : size_fine width height ≡ true) where
  pub stands : {chip : ℕ} → chip < height * width → Stands width height (chip % width) (chip / width)
  stands there = let some = (size width height fine).width_low in record { east_low = mod-lt _ some; north_low = (div-lt_iff_lt-mul some).1 there }

  -- one link on
  module _ {x y eastward northward : ℕ} (i : ℕ) (at : Stands width height x y) (east : eastward ≡ (x + step_east width i) % width) (north : northward ≡ (y + step_north height i) % height) where
    pub stands_next : Stands width height eastward northward
    stands_next =
        let s = size width height fine in
        record { east_low = rw east (mod-lt _ s.width_low); north_low = rw north (mod-lt _ s.height_low) }

    pub leads_across : {chip next : ℕ} → chip ≡ y * width + x → next ≡ northward * width + eastward → next ≡ across width height chip i
    leads_across {chip} here there =
        let x_of : chip % width ≡ x = ap (λ (c : ℕ). c % width) here ∙ digits_mod y at.east_low in
        let y_of : chip / width ≡ y = ap (λ (c : ℕ). c / width) here ∙ digits_div y at.east_low in
        simp (there, east, north, x_of, y_of)
