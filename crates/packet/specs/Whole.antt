-- A packet as it comes from five or nine bytes: the numbers that its struct then holds.
use Rattle.std.specs.Prelude.{◌<◌, ◌^◌, ◌≡◌}
use Rattle.packet.specs.declared.Packet.{Packet}

pub record Whole (p : Packet) : Type 0 where
  pub control : p.control < 256
  pub nine : p.nine < 2
  pub word : p.word < 2 ^ 32
  pub payload : p.payload < 2 ^ 32
  pub absent : p.nine ≡ 0 → p.payload ≡ 0
