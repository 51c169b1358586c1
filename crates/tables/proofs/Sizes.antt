-- What is known of a size that is in range.
use mathlib.Core.Path.{◌≡◌}
use mathlib.Core.Bool.{true, and-eq-true_iff}
use Prim.Native.Nat.{ℕ, ◌*◌, ◌≤◌}
use native.Mathlib.Nat.{mul-le-mul}
use native.Mathlib.Omega.{arith}
use borrow.Author.Tests.{leb-true}
use Rattle.tables.specs.Sizes.{size_fine}

pub record Size (width height : ℕ) : Type 0 where
  pub width_low : 1 ≤ width
  pub width_high : width ≤ 12
  pub height_low : 1 ≤ height
  pub height_high : height ≤ 12

pub size : (width height : ℕ) → size_fine width height ≡ true → Size width height
size width height e = omega (arith, leb-true, simp and-eq-true_iff at e)

-- a mesh has at least one chip
pub chips_some : (width height : ℕ) → size_fine width height ≡ true → 1 ≤ height * width
chips_some width height e = let s : Size width height = size width height e in mul-le-mul s.height_low s.width_low

-- and at most 144
pub chips_small : (width height : ℕ) → size_fine width height ≡ true → height * width ≤ 144
chips_small width height e = let s : Size width height = size width height e in mul-le-mul s.height_high s.width_high
