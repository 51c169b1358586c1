use Prim.Native.Nat.{ℕ}
use native.Mathlib.Omega.{arith}
use lib.Bits.{bit_xor, xor_lt}
use Rattle.packet.proofs.Folded.{ones_xor, ones_of_last}
use Rattle.packet.proofs.parity.folded_ones.Goals as goal

pub returns : goal.returns
returns c = let p = c.args.p in
    let two : ℕ = bit_xor p.control p.word in
    let small : _ = xor_lt 32 two p.payload (xor_lt 32 p.control p.word (omega arith) (omega arith)) (omega arith) in
    omega (arith, ones_of_last (bit_xor two p.payload) small, ones_xor two p.payload, ones_xor p.control p.word)
