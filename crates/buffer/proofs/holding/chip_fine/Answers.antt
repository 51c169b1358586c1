use Rattle.buffer.proofs.holding.chip_fine.Goals as goal

pub returns : goal.returns
returns c = simp (c.registers_fine.ensures, c.registers_at.ensures, c.link_fine.ensures, c.link_fine-2.ensures, c.link_fine-3.ensures, c.link_fine-4.ensures, c.link_fine-5.ensures, c.link_fine-6.ensures)
