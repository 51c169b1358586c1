use Rattle.router.proofs.Shown.{counts_picked}
use Rattle.router.proofs.showing.counts_shown.Goals as goal

pub returns : goal.returns
returns c = let a = c.args in
    rw (c.flag_of-passes.ensures.0, c.flag_of-swallowed.ensures.0, c.counted_of-c.ensures, c.no_counts.ensures)
    (counts_picked a.refusal a.o c.requires.0)
