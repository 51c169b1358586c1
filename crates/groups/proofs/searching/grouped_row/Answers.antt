use Rattle.std.proofs.Common.{◌∙◌, sym, arith}
use Rattle.tables.specs.Rows.{rows_of}
use Rattle.groups.proofs.GroupWords.{numbers, block_within, numbers_many, number_row, search_begins, found_here, search_on, search_ends}
use Rattle.groups.proofs.searching.grouped_row.Goals as goal

pub slice_bounds-row-items-end : goal.slice_bounds-row-items-end
slice_bounds-row-items-end c =
    let g = c.top_of-g in
    let holds = c.requires.1 (omega (arith, g.ensures)) in
    let words = c.args.rows.now in
    let room = c.args.room.now in
    omega (arith, block_within words room c.args.key g.result g.ensures.0 g.ensures.1 holds, numbers_many words room c.args.key g.result g.ensures.0 g.ensures.1 holds)

pub loop-row-init : goal.loop-row-init
loop-row-init c =
    let g = c.top_of-g in
    let holds = c.requires.1 (omega (arith, g.ensures)) in
    search_begins c.args.rows.now c.args.room.now c.args.key g.result g.ensures.0 g.ensures.1 holds (omega (arith, c.ranges.key))

pub matches_at-requires : goal.matches_at-requires
matches_at-requires c =
    let g = c.top_of-g in
    let holds = c.requires.1 (omega (arith, g.ensures)) in
    number_row c.args.rows.now c.args.room.now c.args.key g.result g.ensures.0 g.ensures.1 holds c.loop-row.row-index (omega (arith, c.loop-row-test.true))

pub returns-then-matches_at : goal.returns-then-matches_at
returns-then-matches_at c =
    let words = c.args.rows.now in
    let g = c.top_of-g in
    let holds = c.requires.1 (omega (arith, g.ensures)) in
    let i = c.loop-row.row-index in
    let row = number_row words c.args.room.now c.args.key g.result g.ensures.0 g.ensures.1 holds i (omega (arith, c.loop-row-test.true)) in
    sym (found_here words c.args.key (numbers words c.args.room.now g.result) i (omega (arith, c.loop-row-test.true)) row (sym c.if-matches_at.true ∙ c.matches_at.ensures))
    ∙ c.loop-row.invariant

pub loop-row-preserved : goal.loop-row-preserved
loop-row-preserved c =
    let words = c.args.rows.now in
    let g = c.top_of-g in
    let holds = c.requires.1 (omega (arith, g.ensures)) in
    let i = c.loop-row.row-index in
    let row = number_row words c.args.room.now c.args.key g.result g.ensures.0 g.ensures.1 holds i (omega (arith, c.loop-row-test.true)) in
    sym (search_on words c.args.key (numbers words c.args.room.now g.result) i (omega (arith, c.loop-row-test.true)) row (sym c.if-matches_at.false ∙ c.matches_at.ensures))
    ∙ c.loop-row.invariant

pub returns : goal.returns
returns c =
    sym (search_ends (rows_of c.args.rows.now) c.args.key (numbers c.args.rows.now c.args.room.now c.top_of-g.result) c.loop-row.row-index (omega (arith, c.loop-row-test.false)))
    ∙ c.loop-row.invariant
