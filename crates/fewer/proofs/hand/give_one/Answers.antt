use Rattle.std.proofs.Common.{◌*◌}
use Rattle.fewer.proofs.HeldRows.{words_put}
use Rattle.fewer.proofs.hand.give_one.Goals as goal

pub returns : goal.returns
returns c = let row = c.args.row in words_put c.args.left.now (c.args.i * 3) row.key row.mask row.route c.requires
