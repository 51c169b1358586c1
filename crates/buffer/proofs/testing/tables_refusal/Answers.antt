use Rattle.std.proofs.Common.{◌/◌, length, sym, ◌∙◌, mul-le-mul, arith}
use Rattle.tables.specs.Accept.{starts_right, rows_few, routes_fine, fixed_fine}
use Rattle.buffer.proofs.Refusals.{lent_number, lent_none, lent_starts}
use Rattle.tables.proofs.Starts.{starts_one_more}
use Rattle.buffer.proofs.testing.tables_refusal.Goals as goal

pub returns-then-not-rows_lent : goal.returns-then-not-rows_lent
returns-then-not-rows_lent c = let a = c.args in
    c.lent_refusal.ensures ∙ lent_number (starts_right a.tables.now.starts a.chips (length a.tables.now.rows / 3)) (rows_few a.tables.now.starts) (routes_fine a.tables.now.rows) (fixed_fine a.tables.now.fixed a.chips) _ (sym c.rows_lent.ensures ∙ c.if-not-rows_lent.true)

pub overflow_mul-chips : goal.overflow_mul-chips
overflow_mul-chips c = omega (arith, mul-le-mul c.requires.1 c.requires.1)

pub returns-then-not-codes_fine : goal.returns-then-not-codes_fine
returns-then-not-codes_fine c = let a = c.args in
    simp (sym (rw c.codes.ensures at c.codes_fine.ensures) ∙ c.if-not-codes_fine.true) (lent_none (starts_right a.tables.now.starts a.chips (length a.tables.now.rows / 3)) (rows_few a.tables.now.starts) (routes_fine a.tables.now.rows) (fixed_fine a.tables.now.fixed a.chips) 11 (sym c.rows_lent.ensures ∙ c.if-not-rows_lent.false))

pub room_short-requires : goal.room_short-requires
room_short-requires c = let a = c.args in
    let fine = lent_starts (starts_right a.tables.now.starts a.chips (length a.tables.now.rows / 3)) (rows_few a.tables.now.starts) (routes_fine a.tables.now.rows) (fixed_fine a.tables.now.fixed a.chips) (sym c.rows_lent.ensures ∙ c.if-not-rows_lent.false) in
    rw c.starts.ensures (omega (arith, starts_one_more a.tables.now.starts a.chips (length a.tables.now.rows / 3) 0 fine))

pub returns-then-room_short : goal.returns-then-room_short
returns-then-room_short c = let a = c.args in
    let codes = sym (rw c.codes.ensures at c.codes_fine.ensures) ∙ c.if-not-codes_fine.false in
    simp (codes, sym (rw c.starts.ensures at c.room_short.ensures) ∙ c.if-room_short.true) (lent_none (starts_right a.tables.now.starts a.chips (length a.tables.now.rows / 3)) (rows_few a.tables.now.starts) (routes_fine a.tables.now.rows) (fixed_fine a.tables.now.fixed a.chips) 29 (sym c.rows_lent.ensures ∙ c.if-not-rows_lent.false))

pub returns : goal.returns
returns c = let a = c.args in
    let codes = sym (rw c.codes.ensures at c.codes_fine.ensures) ∙ c.if-not-codes_fine.false in
    simp (codes, sym (rw c.starts.ensures at c.room_short.ensures) ∙ c.if-room_short.false) (lent_none (starts_right a.tables.now.starts a.chips (length a.tables.now.rows / 3)) (rows_few a.tables.now.starts) (routes_fine a.tables.now.rows) (fixed_fine a.tables.now.fixed a.chips) 0 (sym c.rows_lent.ensures ∙ c.if-not-rows_lent.false))
