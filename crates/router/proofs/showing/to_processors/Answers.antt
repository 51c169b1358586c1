use Rattle.router.proofs.Shown.{at_processors}
use mathlib.Core.Path.{◌∙◌}
use Rattle.router.proofs.showing.to_processors.Goals as goal

pub returns : goal.returns
returns c = c.only.ensures ∙ at_processors c.args.o
