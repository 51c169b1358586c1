-- Chips by number, y * W + x: below H * W, which is at most 144.
use Prim.Native.Nat.{ℕ, ◌+◌, ◌*◌, ◌<◌, ◌≤◌}
use native.Mathlib.Nat.{lt_of_lt_of_le, mul-le-mul}
use lib.Arith.{digits_lt}

pub record Below (width height n : ℕ) : Type 0 where
  pub chips : n < height * width
  pub small : n < 144

pub chip_below : (width height x y : ℕ) → width ≤ 12 → height ≤ 12 → x < width → y < height → Below width height (y * width + x)
chip_below width height x y w h hx hy =
    let b : y * width + x < height * width = digits_lt hy hx in
    record { chips = b; small = lt_of_lt_of_le b (mul-le-mul h w) }
