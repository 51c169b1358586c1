use Rattle.std.proofs.Common.{◌∙◌, sym, ap, length}
use Rattle.tables.specs.Rows.{rows_of}
use Rattle.tables.proofs.RowsByNumber.{rows_many}
use Rattle.groups.specs.Pays.{worth}
use Rattle.groups.proofs.GroupsLeft.{not_worth, worth_it}
use Rattle.groups.proofs.grouping.group.Goals as goal

pub returns-then-worth : goal.returns-then-worth
returns-then-worth c = let keys = c.args.keys.now in
    let words = c.args.rows.now in
    let it = sym c.worth.ensures ∙ c.if-worth.true in
    let left = worth_it keys (rows_of words) c.args.room.now (ap (worth (length keys)) (rows_many words) ∙ it) in
    record { value = c.group_asked.ensures.value ∙ left.0; room_after = c.group_asked.ensures.room_after ∙ left.1 }

pub returns-else-worth : goal.returns-else-worth
returns-else-worth c = let keys = c.args.keys.now in
    let words = c.args.rows.now in
    let left = not_worth keys (rows_of words) c.args.room.now (ap (worth (length keys)) (rows_many words) ∙ sym c.worth.ensures ∙ c.if-worth.false) in
    record { value = c.if-worth.false ∙ left.0; room_after = left.1 }
