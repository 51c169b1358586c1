use Rattle.std.proofs.Common.{◌∙◌, le-leb}
use borrow.Author.Tests.{lt-leb}
use Rattle.buffer.proofs.holding.link_fine.Goals as goal

pub returns-then-words-gt1 : goal.returns-then-words-gt1
returns-then-words-gt1 c = simp (lt-leb _ _ c.if-words-gt1.true)

pub returns-then-words-gt8 : goal.returns-then-words-gt8
returns-then-words-gt8 c = simp (le-leb _ _ c.if-words-gt1.false, lt-leb _ _ c.if-words-gt8.true)

pub returns : goal.returns
returns c = c.places_fine.ensures ∙ simp (le-leb _ _ c.if-words-gt1.false, le-leb _ _ c.if-words-gt8.false)
