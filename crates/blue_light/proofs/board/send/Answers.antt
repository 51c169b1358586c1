use Rattle.std.proofs.Common.{ap}
use Rattle.mesh.specs.declared.Added.{Added}
use Rattle.blue_light.proofs.board.send.Goals as goal

pub returns : goal.returns
returns c = ap (λ (r : Added). r.added) (rw c.new-tables.ensures at c.inject.ensures).answered
