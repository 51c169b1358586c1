-- A link leads to a chip that is there, and arrives by a link that is there.
use Prim.Native.Nat.{ℕ, ◌+◌, ◌*◌, ◌/◌, ◌%◌, ◌≤◌, ◌<◌}
use native.Mathlib.Omega.{arith}
use native.Mathlib.Nat.{mod-lt, mul-le-mul_right}
use lib.Dec.{lit<}
use Rattle.links.specs.Across.{step_east, step_north, across, opposite}

pub across_there : (w h chip i : ℕ) → 1 ≤ w → 1 ≤ h → across w h chip i < h * w
across_there w h chip i hw hh =
    let y : (chip / w + step_north h i) % h < h = mod-lt _ hh in
    let x : (chip % w + step_east w i) % w < w = mod-lt _ hw in
    omega (arith, mul-le-mul_right w y)

pub opposite_there : (i : ℕ) → opposite i < 6
opposite_there i = mod-lt (i + 3) (lit< tt)
