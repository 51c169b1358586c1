use Rattle.std.proofs.Common.{refl}
use Rattle.packet.proofs.Numbers.{number_some}
use Rattle.buffer.proofs.Looks.{count_refused, count_found}
use Rattle.buffer.proofs.looking.read_counter.Goals as goal

pub returns-in-Err : goal.returns-in-Err
returns-in-Err c = rw c.from.ensures (count_refused c.args.mesh.now c.args.chip c.args.counter _ c.in-Err.ensures (number_some c.in-Err.refused))

pub returns : goal.returns
returns c = count_found c.args.mesh.now c.args.chip c.args.counter _ c.in_default.ensures refl
