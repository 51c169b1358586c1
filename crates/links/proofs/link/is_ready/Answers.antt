use Rattle.links.proofs.Places.{length_places}
use Rattle.links.proofs.link.is_ready.Goals as goal

pub returns : goal.returns
returns c = simp (c.held.ensures, length_places)
