use Rattle.lists.specs.Lists.{All}
use Rattle.buffer.proofs.round_passes.pass_next.Goals as goal

pub pass_found-requires : goal.pass_found-requires
unfolding All
pass_found-requires c = let g = c.requires.1 c.if-room-eq0.false in (c.requires.0, (g.0, g.1.0))
