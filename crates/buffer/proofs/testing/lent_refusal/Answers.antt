use Rattle.std.proofs.Common.{◌/◌, length, sym, ◌∙◌, arith}
use Rattle.tables.proofs.WrongPlaces.{right_told, wrong_told, right_long, few_told, many_told}
use Rattle.buffer.proofs.testing.lent_refusal.Goals as goal

pub returns-then-starts_place-chips : goal.returns-then-starts_place-chips
returns-then-starts_place-chips c = let rows = length c.args.tables.now.rows / 3 in
    simp (wrong_told c.args.tables.now.starts c.args.chips rows c.requires c.starts_place.result (rw (c.rows-rows.ensures, c.starts-starts.ensures) at c.starts_place.ensures) c.if-starts_place-chips.true)

pub crowd_place-requires : goal.crowd_place-requires
crowd_place-requires c = let rows = length c.args.tables.now.rows / 3 in
    rw c.starts-starts.ensures (right_long c.args.tables.now.starts c.args.chips rows c.requires (right_told c.args.tables.now.starts c.args.chips rows c.requires c.starts_place.result (rw (c.rows-rows.ensures, c.starts-starts.ensures) at c.starts_place.ensures) (omega arith)))

pub returns-then-crowd_place-chips : goal.returns-then-crowd_place-chips
returns-then-crowd_place-chips c = let rows = length c.args.tables.now.rows / 3 in
    let right = right_told c.args.tables.now.starts c.args.chips rows c.requires c.starts_place.result (rw (c.rows-rows.ensures, c.starts-starts.ensures) at c.starts_place.ensures) (omega arith) in
    simp (right, many_told c.args.tables.now.starts c.args.chips (right_long c.args.tables.now.starts c.args.chips rows c.requires right) c.crowd_place.result (rw c.starts-starts.ensures at c.crowd_place.ensures) c.if-crowd_place-chips.true)

pub returns-then-not-routes_fine : goal.returns-then-not-routes_fine
returns-then-not-routes_fine c = let rows = length c.args.tables.now.rows / 3 in
    let right = right_told c.args.tables.now.starts c.args.chips rows c.requires c.starts_place.result (rw (c.rows-rows.ensures, c.starts-starts.ensures) at c.starts_place.ensures) (omega arith) in
    let few = few_told c.args.tables.now.starts c.args.chips (right_long c.args.tables.now.starts c.args.chips rows c.requires right) c.crowd_place.result (rw c.starts-starts.ensures at c.crowd_place.ensures) (omega arith) in
    simp (right, few, sym (rw c.rows-rows.ensures at c.routes_fine.ensures) ∙ c.if-not-routes_fine.true)

pub returns : goal.returns
returns c = let rows = length c.args.tables.now.rows / 3 in
    let right = right_told c.args.tables.now.starts c.args.chips rows c.requires c.starts_place.result (rw (c.rows-rows.ensures, c.starts-starts.ensures) at c.starts_place.ensures) (omega arith) in
    let few = few_told c.args.tables.now.starts c.args.chips (right_long c.args.tables.now.starts c.args.chips rows c.requires right) c.crowd_place.result (rw c.starts-starts.ensures at c.crowd_place.ensures) (omega arith) in
    simp (right, few, sym (rw c.rows-rows.ensures at c.routes_fine.ensures) ∙ c.if-not-routes_fine.false)
