-- `grouping::group_chip` meets its contract.
use Rattle.std.proofs.Common.{sym, refl, ◌∙◌, arith, length-take-le, eq-eqb}
use lib.Seq.{take-length}
use Rattle.tables.proofs.RowsByNumber.{rows_many}
use Rattle.buffer.specs.PassesInTurn.{aside_from}
use Rattle.buffer.proofs.GroupsBuilt.{lent_left, not_worth_left, groups_there}
use Rattle.buffer.proofs.grouping.group_chip.Goals as goal

pub returns-then-room-eq0 : goal.returns-then-room-eq0
returns-then-room-eq0 c = record { room_after = simp (eq-eqb _ _ c.if-room-eq0.true); groups_for = ((λ some. absurd (some refl)), omega arith) }

pub returns-then-not-worth : goal.returns-then-not-worth
returns-then-not-worth c = let aside = aside_from c.args.mesh.now c.args.chip in
    let less = sym c.worth.ensures ∙ c.if-not-worth.true in record {
      room_after = lent_left c.args.rows.now c.args.room.now aside _ _ c.if-room-eq0.false refl
          (not_worth_left c.args.rows.now c.args.room.now aside c.count_aside.result c.count_aside.ensures.0 less);
      groups_for = ((λ some. absurd (some refl)), omega arith);
    }

pub slice_bounds-group-end : goal.slice_bounds-group-end
slice_bounds-group-end c = sym (length-take-le _ _ (omega (arith, c.keys_aside-count.ensures.1, c.keys_aside-count.auto.keys)))

pub group-requires : goal.group-requires
group-requires c = let keys = c.keys_aside-count in
    (omega (arith, length-take-le keys.result keys.new.keys (omega (arith, keys.ensures.1, keys.auto.keys)), keys.ensures.1), c.requires.1 c.if-room-eq0.false)

pub returns-then-group : goal.returns-then-group
returns-then-group c = let g = c.group in
    let keys = c.keys_aside-count.ensures.0 in record {
      room_after = lent_left c.args.rows.now c.args.room.now (aside_from c.args.mesh.now c.args.chip) _ _ c.if-room-eq0.false keys g.ensures.room_after;
      groups_for = (
        (λ some. groups_there c.args.rows.now c.args.room.now _ _ keys (rw rows_many (c.requires.1 c.if-room-eq0.false)) (sym g.ensures.value ∙ c.if-group.true) _ (take-length _ ∙ g.ensures.room_after)),
        omega arith,
      );
    }

pub returns : goal.returns
returns c = let g = c.group in
    record {
      room_after = lent_left c.args.rows.now c.args.room.now (aside_from c.args.mesh.now c.args.chip) _ _ c.if-room-eq0.false c.keys_aside-count.ensures.0 g.ensures.room_after;
      groups_for = ((λ some. absurd (some refl)), omega arith);
    }
