use mathlib.Core.Path.{refl, sym, ◌∙◌}
use Prim.Native.Nat.{◌+◌, ◌*◌}
use native.Mathlib.Omega.{arith}
use Rattle.tables.proofs.RowByRow.{from_here, from_next, from_end}
use Rattle.tables.proofs.search.first_match.Goals as goal

pub returns-then-matches_at : goal.returns-then-matches_at
returns-then-matches_at c = let i = c.loop-j.j * 4 in
    from_here c.args.rows.now i c.args.key (omega arith) (sym c.matches_at.ensures ∙ c.if-matches_at.true) ∙ sym c.loop-j.invariant

pub returns-then-matches_at-2 : goal.returns-then-matches_at-2
returns-then-matches_at-2 c = let rows = c.args.rows.now in
    let i = c.loop-j.j * 4 in
    from_here rows (i + 1) _ (omega arith) (sym c.matches_at-in-loop-j.ensures ∙ c.if-matches_at-2.true)
    ∙ sym (from_next rows i _ (i + 1) refl (omega arith) (sym c.matches_at.ensures ∙ c.if-matches_at.false)) ∙ sym c.loop-j.invariant

pub returns-then-matches_at-3 : goal.returns-then-matches_at-3
returns-then-matches_at-3 c = let rows = c.args.rows.now in
    let i = c.loop-j.j * 4 in
    from_here rows (i + 2) _ (omega arith) (sym c.matches_at-in-loop-j-2.ensures ∙ c.if-matches_at-3.true)
    ∙ sym (from_next rows (i + 1) _ (i + 2) (omega arith) (omega arith) (sym c.matches_at-in-loop-j.ensures ∙ c.if-matches_at-2.false))
    ∙ sym (from_next rows i _ (i + 1) refl (omega arith) (sym c.matches_at.ensures ∙ c.if-matches_at.false)) ∙ sym c.loop-j.invariant

pub returns-then-matches_at-4 : goal.returns-then-matches_at-4
returns-then-matches_at-4 c = let rows = c.args.rows.now in
    let i = c.loop-j.j * 4 in
    from_here rows (i + 3) _ (omega arith) (sym c.matches_at-in-loop-j-3.ensures ∙ c.if-matches_at-4.true)
    ∙ sym (from_next rows (i + 2) _ (i + 3) (omega arith) (omega arith) (sym c.matches_at-in-loop-j-2.ensures ∙ c.if-matches_at-3.false))
    ∙ sym (from_next rows (i + 1) _ (i + 2) (omega arith) (omega arith) (sym c.matches_at-in-loop-j.ensures ∙ c.if-matches_at-2.false))
    ∙ sym (from_next rows i _ (i + 1) refl (omega arith) (sym c.matches_at.ensures ∙ c.if-matches_at.false)) ∙ sym c.loop-j.invariant

pub loop-j-preserved : goal.loop-j-preserved
loop-j-preserved c = let rows = c.args.rows.now in
    let i = c.loop-j.j * 4 in
    c.loop-j.invariant
    ∙ from_next rows i _ (i + 1) refl (omega arith) (sym c.matches_at.ensures ∙ c.if-matches_at.false)
    ∙ from_next rows (i + 1) _ (i + 2) (omega arith) (omega arith) (sym c.matches_at-in-loop-j.ensures ∙ c.if-matches_at-2.false)
    ∙ from_next rows (i + 2) _ (i + 3) (omega arith) (omega arith) (sym c.matches_at-in-loop-j-2.ensures ∙ c.if-matches_at-3.false)
    ∙ from_next rows (i + 3) _ ((c.loop-j.j + 1) * 4) (omega arith) (omega arith) (sym c.matches_at-in-loop-j-3.ensures ∙ c.if-matches_at-4.false)

pub returns-then-matches_at-5 : goal.returns-then-matches_at-5
returns-then-matches_at-5 c = from_here c.args.rows.now c.loop-i.i c.args.key (omega arith) (sym c.matches_at-in-loop-i.ensures ∙ c.if-matches_at-5.true) ∙ sym c.loop-i.invariant

pub loop-i-preserved : goal.loop-i-preserved
loop-i-preserved c = let i = c.loop-i.i in
    c.loop-i.invariant ∙ from_next c.args.rows.now i _ (i + 1) refl (omega arith) (sym c.matches_at-in-loop-i.ensures ∙ c.if-matches_at-5.false)

pub returns : goal.returns
returns c = from_end c.args.rows.now c.loop-i.i c.args.key (omega arith) ∙ sym c.loop-i.invariant
