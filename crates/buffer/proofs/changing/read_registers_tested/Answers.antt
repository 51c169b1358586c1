use Rattle.std.proofs.Common.{◌+◌, ◌*◌, refl}
use native.Mathlib.Nat.{add-sub_cancel_left}
use Rattle.packet.proofs.Numbers.{number_some}
use Rattle.buffer.proofs.RegistersCall.{registers_refused, registers_leave}
use Rattle.links.specs.Offsets.{header_long, registers_long, chip_long}
use Rattle.buffer.proofs.changing.read_registers_tested.Goals as goal

pub returns-in-Err : goal.returns-in-Err
returns-in-Err c =
    let h = registers_refused c.args.mesh.now c.args.chip _ c.in-Err.ensures (number_some c.in-Err.refused) _ c.empty_registers.ensures in
    record { value = rw c.from.ensures h.0; leaves = h.1 }

pub returns : goal.returns
returns c = let a = c.args in
    let at = header_long + a.chip * chip_long in
    let h = registers_leave a.mesh.now a.chip _ c.in_default.ensures refl _ (rw (add-sub_cancel_left at registers_long) at c.registers_at-registers.ensures) in
    record { value = h.0; leaves = rw (add-sub_cancel_left at chip_long, rw (add-sub_cancel_left at chip_long) at c.empty_chip.ensures) h.1 }
