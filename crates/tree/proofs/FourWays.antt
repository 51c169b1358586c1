-- The four ways that `ways::way_to` compares: each of their eight numbers is the one of the rules, and small.
use Prim.Native.Nat.{ℕ, ◌-◌, ◌%◌, ◌≤◌, ◌<◌, max}
use mathlib.Core.Path.{◌≡◌}
use mathlib.Core.Bool.{true}
use native.Mathlib.Omega.{arith}
use native.Mathlib.Nat.{mod-lt}
use lib.IntN.{ℤ, pos, neg_ℤ}
use Rattle.tables.specs.Sizes.{size_fine}
use Rattle.tables.proofs.Sizes.{size}
use Rattle.tree.specs.declared.Way.{Way}
use Rattle.tree.specs.Walking.{forwards}
use Rattle.tree.proofs.Signs.{Few, neg_few}

-- the numbers that the ways are made of: the steps forwards, the larger of them, and those back
pub record Steps (width height east north far back down : ℕ) : Type 0 where
  pub fine : size_fine width height ≡ true
  pub east_there : east < width
  pub north_there : north < height
  pub furthest : far ≡ max east north
  pub westward : back ≡ (width - east) % width
  pub southward : down ≡ (height - north) % height

pub steps : {width height east north far back down : ℕ} → size_fine width height ≡ true → (east < width) × (north < height) → far ≡ max east north → back ≡ (width - east) % width
    → down ≡ (height - north) % height → Steps width height east north far back down
steps fine there furthest westward southward = record {
  fine = fine;
  east_there = there.0;
  north_there = there.1;
  furthest = furthest;
  westward = westward;
  southward = southward;
}

module _ {width height east north far back down : ℕ} (s : Steps width height east north far back down) where
  record Low : Type 0 where
    east_low : east ≤ 11
    north_low : north ≤ 11
    far_low : far ≤ 11
    back_low : back ≤ 11
    down_low : down ≤ 11

  low : Low
  low =
      let z = size width height s.fine in
      record {
        east_low = omega (arith, z, s);
        north_low = omega (arith, z, s);
        far_low = omega (arith, z, s);
        back_low = omega (arith, s.westward, mod-lt (width - east) z.width_low, z);
        down_low = omega (arith, s.southward, mod-lt (height - north) z.height_low, z);
      }

  -- the way forwards, and the steps west and south, as the rules say them
  abbrev onwards : Way
  onwards = forwards width height east north

  pub most_east : {ring : ℕ} {z : ℤ} → ring ≡ (far - east) % width → z ≡ pos (far - ring) → Few z onwards.east
  most_east rest e = record { is = simp (e, rest, s.furthest); few = omega (arith, low, s.furthest) }

  pub most_north : {ring : ℕ} {z : ℤ} → ring ≡ (far - north) % height → z ≡ pos (far - ring) → Few z onwards.north
  most_north rest e = record { is = simp (e, rest, s.furthest); few = omega (arith, low, s.furthest) }

  pub least_east : {z : ℤ} → z ≡ pos east → Few z (pos east)
  least_east e = record { is = e; few = low.east_low }

  pub least_north : {z : ℤ} → z ≡ pos north → Few z (pos north)
  least_north e = record { is = e; few = low.north_low }

  pub west : {z : ℤ} → z ≡ neg_ℤ (pos back) → Few z (neg_ℤ (pos ((width - east) % width)))
  west e = record { is = simp (e, s.westward); few = neg_few _ (rw s.westward at low.back_low) }

  pub south : {z : ℤ} → z ≡ neg_ℤ (pos down) → Few z (neg_ℤ (pos ((height - north) % height)))
  south e = record { is = simp (e, s.southward); few = neg_few _ (rw s.southward at low.down_low) }
