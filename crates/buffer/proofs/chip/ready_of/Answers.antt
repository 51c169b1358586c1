use Rattle.buffer.proofs.chip.ready_of.Goals as goal

pub returns : goal.returns
returns c = simp (c.flag_of.ensures.0, c.is_ready.ensures, c.flag_of-2.ensures.0, c.is_ready-2.ensures, c.flag_of-3.ensures.0, c.is_ready-3.ensures, c.flag_of-4.ensures.0, c.is_ready-4.ensures, c.flag_of-5.ensures.0, c.is_ready-5.ensures, c.flag_of-6.ensures.0, c.is_ready-6.ensures)
