use Rattle.buffer.proofs.holding.packet_fine.Goals as goal

pub returns : goal.returns
returns c = simp (c.is_direct.ensures, c.is_odd.ensures)
