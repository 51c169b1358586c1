use Rattle.std.proofs.Common.{◌≡◌, ◌+◌, ◌/◌, ◌∙◌, sym, ap, cond, add-zero, arith, length}
use Rattle.tables.specs.Rows.{rows_of}
use Rattle.tables.proofs.RowsByNumber.{rows_many}
use Rattle.groups.specs.Pays.{taken_of}
use Rattle.groups.proofs.Sampling.{taken_none, taken_next, taken_most}
use Rattle.groups.proofs.paying.sampled.Goals as goal
use Rattle.groups.proofs.paying.sampled.Goals.{then-is_taken, else-is_taken}

pub loop-k-init : goal.loop-k-init
loop-k-init c = sym (taken_none c.args.marks.now (rows_of c.args.rows.now))

pub overflow_add-many : goal.overflow_add-many
overflow_add-many c = omega (arith, c.loop-k.invariant, taken_most c.args.marks.now (rows_of c.args.rows.now) c.loop-k.k)

pub loop-k-preserved : goal.loop-k-preserved
loop-k-preserved c =
    let next = taken_next c.args.marks.now (rows_of c.args.rows.now) c.loop-k.k in
    let test = sym c.is_taken.ensures in
    elim c.if-is_taken.branch [
      | then-is_taken w ↦ w.many-is ∙ (λ i. c.loop-k.invariant i + cond (sym (test ∙ w.if-is_taken.true) i) 1 0) ∙ sym next
      | else-is_taken w ↦ w.many-is ∙ sym (add-zero _) ∙ (λ i. c.loop-k.invariant i + cond (sym (test ∙ w.if-is_taken.false) i) 1 0) ∙ sym next
    ]

pub returns : goal.returns
returns c = let words = c.args.rows.now in
    let all : c.loop-k.k ≡ length (rows_of words) / 13 = omega (arith, rows_many words) in
    c.loop-k.invariant ∙ ap (taken_of c.args.marks.now (rows_of words)) all
