use Rattle.std.proofs.Common.{ℕ, ◌+◌, ◌*◌, ◌-◌, ◌/◌, sym, ap, ◌∙◌, arith, length}
use lib.Dec.{ltb}
use Rattle.tables.proofs.RowsByNumber.{rows_many}
use Rattle.groups.proofs.Sampling.{taken_few}
use Rattle.groups.proofs.paying.pays.Goals as goal

pub overflow_mul-many : goal.overflow_mul-many
overflow_mul-many c = omega (arith, c.sampled-many.ensures, taken_few c.args.marks.now c.args.rows.now c.requires.1.0)

pub overflow_add-many : goal.overflow_add-many
overflow_add-many c = omega (arith, c.sampled-many.ensures, taken_few c.args.marks.now c.args.rows.now c.requires.1.0)

pub overflow_mul-result-2 : goal.overflow_mul-result-2
overflow_mul-result-2 c = omega (arith, c.sampled-many.ensures, taken_few c.args.marks.now c.args.rows.now c.requires.1.0)

pub overflow_add-result : goal.overflow_add-result
overflow_add-result c = omega (arith, c.sampled-many.ensures, taken_few c.args.marks.now c.args.rows.now c.requires.1.0)

pub overflow_add-result-2 : goal.overflow_add-result-2
overflow_add-result-2 c = omega (arith, c.sampled-many.ensures, taken_few c.args.marks.now c.args.rows.now c.requires.1.0)

pub returns : goal.returns
returns c =
    let many = sym (rows_many c.args.rows.now) in
    let all = c.sampled-many.ensures in
    ap (λ (n : ℕ). ltb (length c.args.rows.now / 3 * 6 + c.sampled-many.result * 104 + 1600) (c.args.packets * n)) c.saturating_sub.ensures
    ∙ (λ i. ltb (many i * 6 + all i * 104 + 1600) (c.args.packets * (many i - (all i * 40 + 40))))
