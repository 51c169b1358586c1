use Rattle.std.proofs.Common.{ℕ, ◌+◌, ◌-◌, ◌<◌, length, get_or, sym, ap, ◌∙◌, subst, lt_of_lt_of_le, add-one}
use Rattle.mesh.specs.Refusals.{Lent}
use Rattle.mesh.specs.Lending.{with_room}
use Rattle.mesh.specs.Room.{keys_of}
use Rattle.buffer.specs.PassesInTurn.{aside_from}
use Rattle.buffer.specs.Grouping.{RoomFits}
use Rattle.buffer.proofs.GroupsBuilt.{fits_each, room_none, room_next}
use Rattle.buffer.proofs.Arrivals as arrivals
use Rattle.buffer.proofs.round_passes.pass_chips.Goals as goal

pub loop-chip-init : goal.loop-chip-init
loop-chip-init c = let a = c.args in
    (arrivals.passed_begin _ _ _ _ _, room_none (with_room a.tables.now (length a.room.now)) (λ chip. keys_of (aside_from a.mesh.now chip)) a.room.now)

pub pass_chip-n-requires : goal.pass_chip-n-requires
pass_chip-n-requires c = let at = c.loop-chip in
    let a = c.args in
    let hi : at.chip < a.count = c.loop-chip-test.true in
    let pre = c.requires in (
      (subst (λ (k : ℕ). at.chip < k) (sym (arrivals.chips_same _ _ _ _ _ _ _ _ at.invariant.0)) (lt_of_lt_of_le hi pre.0), (arrivals.chips_due _ _ _ _ _ _ _ at.chip a.count hi pre.1.0.0 at.invariant.0, subst (Lent a.tables.now) (sym (arrivals.chips_same _ _ _ _ _ _ _ _ at.invariant.0)) pre.1.0.1)),
      subst (λ (k : ℕ). RoomFits k (get_or a.tables.now.starts (at.chip + 1) 0 - get_or a.tables.now.starts at.chip 0)) (sym at.auto.room) (fits_each a.tables.now.starts a.count at.chip (length a.room.now) hi pre.1.1),
    )

pub loop-chip-preserved : goal.loop-chip-preserved
loop-chip-preserved c = let at = c.loop-chip in
    let a = c.args in
    let hi : at.chip < a.count = c.loop-chip-test.true in
    let pre = c.requires in
    let passed = c.pass_chip-n in
    let alike = ap keys_of (arrivals.at_same _ _ _ _ _ _ _ at.chip a.count hi pre.1.0.0 at.invariant.0) in (
      rw add-one (arrivals.chips_step _ _ _ _ _ _ _ at.chip a.count hi pre.1.0.0 at.invariant.0 _ _ _ passed.ensures.passed),
      rw add-one (passed.ensures.room_after ∙ room_next a.tables.now (length a.room.now) (λ chip. keys_of (aside_from a.mesh.now chip)) at.chip _ a.room.now at.room alike at.invariant.1),
    )
