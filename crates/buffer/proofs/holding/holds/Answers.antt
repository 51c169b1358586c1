use Rattle.std.proofs.Common.{ℕ, sym, ap, ◌∙◌, le-leb}
use borrow.Author.Tests.{lt-leb}
use Rattle.buffer.proofs.FineSteps.{head_size}
use Rattle.buffer.specs.Holding.{chips_fine}
use Rattle.buffer.proofs.holding.holds.Goals as goal

pub returns-then-mesh-lt-HEADER : goal.returns-then-mesh-lt-HEADER
returns-then-mesh-lt-HEADER c = simp (lt-leb _ _ c.if-mesh-lt-HEADER.true)

pub returns-then-not-head_fine : goal.returns-then-not-head_fine
returns-then-not-head_fine c = simp (le-leb _ _ c.if-mesh-lt-HEADER.false, sym c.head_fine.ensures ∙ c.if-not-head_fine.true)

pub words_for-requires : goal.words_for-requires
words_for-requires c = head_size c.args.mesh.now (sym c.head_fine.ensures ∙ c.if-not-head_fine.false)

pub returns-then-mesh-words_for : goal.returns-then-mesh-words_for
returns-then-mesh-words_for c = simp (le-leb _ _ c.if-mesh-lt-HEADER.false, sym c.head_fine.ensures ∙ c.if-not-head_fine.false, lt-leb _ _ (rw c.words_for.ensures at c.if-mesh-words_for.true))

pub chips-requires : goal.chips-requires
chips-requires c = head_size c.args.mesh.now (sym c.head_fine.ensures ∙ c.if-not-head_fine.false)

pub returns : goal.returns
returns c = c.chips_fine.ensures ∙ ap (λ (n : ℕ). chips_fine 0 n c.args.mesh.now) c.chips.ensures
    ∙ sym (simp (le-leb _ _ c.if-mesh-lt-HEADER.false, sym c.head_fine.ensures ∙ c.if-not-head_fine.false, le-leb _ _ (rw c.words_for.ensures at c.if-mesh-words_for.false)))
