use Rattle.std.proofs.Common.{◌≡◌, ℕ, ◌+◌, cond, List, ◌++◌, length, drop, set, refl, sym, ap, ◌∙◌, arith}
use Rattle.lists.specs.Lists.{up_to}
use Rattle.tree.specs.Rows.{entered_at, route_at, has_row, start_of, rows_below, starts_below}
use Rattle.tree.specs.Walking.{with_row}
use Rattle.tree.proofs.RowByRow.{few_rows_lem, start_more, rows_more, starts_more, starts_whole}
use Rattle.tree.proofs.rows.write_rows.Goals as goal

pub loop-chip-init : goal.loop-chip-init
unfolding up_to start_of
loop-chip-init c = record { count = refl; rows = refl; starts = refl }

pub overflow_cast-starts : goal.overflow_cast-starts
overflow_cast-starts c = let at = c.loop-chip in
    omega (arith, at.invariant.count, few_rows_lem c.args.tree.now at.chip, c.requires)

pub write_row-count-requires : goal.write_row-count-requires
write_row-count-requires c = let at = c.loop-chip in
    (omega (arith, c.requires), omega (arith, at.invariant.count, few_rows_lem c.args.tree.now at.chip, c.requires))

pub loop-chip-preserved : goal.loop-chip-preserved
loop-chip-preserved c = let at = c.loop-chip in
    let a = c.args in
    let t = a.tree.now in
    let row = c.write_row-count in
    record {
      count = row.ensures.value ∙ ap (λ (n : ℕ). n + cond (has_row t at.chip) 1 0) at.invariant.count ∙ sym (start_more t at.chip);
      rows = row.ensures.rows_after ∙ (λ i. with_row a.key a.mask (entered_at t at.chip) (route_at t at.chip) (at.invariant.count i) (at.invariant.rows i)) ∙ rows_more t a.key a.mask at.chip a.rows.now;
      starts = ap (λ (l : List ℕ). set l at.chip at.count) at.invariant.starts ∙ starts_more t at.chip a.starts.now at.count (omega (arith, c.requires.1.1, c.loop-chip-test.true)) at.invariant.count;
    }

pub overflow_cast-starts-2 : goal.overflow_cast-starts-2
overflow_cast-starts-2 c = let at = c.loop-chip in
    omega (arith, at.invariant.count, few_rows_lem c.args.tree.now at.chip, c.requires)

pub returns : goal.returns
returns c = let at = c.loop-chip in
    let a = c.args in
    let t = a.tree.now in
    let all : at.chip ≡ a.all = omega arith in
    let count = at.invariant.count ∙ ap (start_of t) all in
    record {
      value = count;
      rows_after = at.invariant.rows ∙ ap (λ (n : ℕ). rows_below t a.key a.mask n ++ drop (length (rows_below t a.key a.mask n)) a.rows.now) all;
      starts_after = ap (λ (l : List ℕ). set l a.all at.count) (at.invariant.starts ∙ ap (λ (n : ℕ). starts_below t n ++ drop n a.starts.now) all) ∙ starts_more t a.all a.starts.now at.count (omega (arith, c.requires.1.1)) count ∙ starts_whole t (a.all + 1) a.starts.now c.requires.1.1;
    }
