use Rattle.std.proofs.Common.{sym, ◌∙◌}
use Rattle.buffer.proofs.Looks.{mesh_found}
use Rattle.buffer.proofs.looking.look_mesh.Goals as goal

pub returns : goal.returns
returns c = mesh_found c.args.mesh.now (sym c.holds.ensures ∙ c.if-not-holds.false) c.in_flight.result c.in_flight.ensures
