-- A chip's number is below the number of chips.
use Rattle.std.proofs.Common.{ℕ, ◌+◌, ◌*◌, ◌<◌, ◌≤◌, suc, arith}
use Rattle.std.proofs.Math.Nat.{suc-mul, mul-le-mul_right, mul_comm}

pub chip_below : (x y w h : ℕ) → x < w → y < h → y * w + x < w * h
chip_below x y w h p q =
    let e : suc y * w ≤ h * w = mul-le-mul_right w (omega arith) in
    omega (arith, suc-mul y w, mul_comm w h)
