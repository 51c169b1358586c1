use mathlib.Core.Path.{ap}
use Rattle.known_passes.specs.TwoChips.{flight}
use Rattle.mesh.specs.declared.MeshRead.{MeshRead}
use Rattle.known_passes.proofs.two_chips.in_flight.Goals as goal

pub returns : goal.returns
unfolding flight
returns c = ap (λ (r : MeshRead). r.in_flight) c.look_mesh.ensures
