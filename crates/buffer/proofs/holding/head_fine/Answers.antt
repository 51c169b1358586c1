use Rattle.buffer.proofs.holding.head_fine.Goals as goal

pub returns : goal.returns
returns c = simp (c.size_fine.ensures, c.rounds_fine.ensures)
