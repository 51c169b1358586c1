-- Where a packet comes from.
use mathlib.Core.Path.{◌≡◌}
use mathlib.Core.Logic.{◌⊎◌, inl, inr}
use Prim.Native.Nat.{ℕ, ◌<◌}
use native.Mathlib.Omega.{arith}

pub source_near : (source : ℕ) → (source < 6) ⊎ (source ≡ 7) → source < 8
source_near source (inl h) = omega arith
source_near source (inr h) = omega arith
