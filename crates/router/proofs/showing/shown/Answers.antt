use Rattle.router.proofs.showing.shown.Goals as goal

pub returns : goal.returns
returns c = simp (c.packets_of-packets.ensures, c.on_leg-leg.ensures, c.to_processors-delivered.ensures, c.counts_shown-counters.ensures, c.empty_registers.ensures, c.kept_of-registers.ensures)
