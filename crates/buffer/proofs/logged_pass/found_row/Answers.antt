use Rattle.std.proofs.Common.{◌*◌, ◌∙◌, sym, arith}
use native.Mathlib.Nat.{add-sub_cancel_left}
use Rattle.buffer.proofs.LoggedPasses.{found_within, row_found_lem, none_found}
use Rattle.buffer.proofs.logged_pass.found_row.Goals as goal

pub overflow_mul-result : goal.overflow_mul-result
overflow_mul-result c = omega (arith, found_within c.args.rows.now c.args.key c.in-Some.row (sym c.grouped_row.ensures ∙ c.in-Some.is))

pub overflow_mul-result-in-Some : goal.overflow_mul-result-in-Some
overflow_mul-result-in-Some c = omega (arith, found_within c.args.rows.now c.args.key c.in-Some.row (sym c.grouped_row.ensures ∙ c.in-Some.is))

pub overflow_add-result : goal.overflow_add-result
overflow_add-result c = omega (arith, found_within c.args.rows.now c.args.key c.in-Some.row (sym c.grouped_row.ensures ∙ c.in-Some.is))

pub offset_bounds-rows-row : goal.offset_bounds-rows-row
offset_bounds-rows-row c = omega (arith, found_within c.args.rows.now c.args.key c.in-Some.row (sym c.grouped_row.ensures ∙ c.in-Some.is))

pub slice_bounds-result-end : goal.slice_bounds-result-end
slice_bounds-result-end c = omega (arith, found_within c.args.rows.now c.args.key c.in-Some.row (sym c.grouped_row.ensures ∙ c.in-Some.is))

pub returns-in-Some : goal.returns-in-Some
returns-in-Some c = row_found_lem c.args.rows.now c.args.key c.in-Some.row (sym c.grouped_row.ensures ∙ c.in-Some.is) _ (add-sub_cancel_left (c.in-Some.row * 3) 3)

pub returns-in-None : goal.returns-in-None
returns-in-None c = none_found c.args.rows.now c.args.key (sym c.grouped_row.ensures ∙ c.in-None.is)
