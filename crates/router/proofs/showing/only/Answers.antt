use Rattle.router.proofs.Shown.{kept_only}
use Rattle.router.proofs.showing.only.Goals as goal

pub returns : goal.returns
returns c = simp (c.flag_of.ensures.0, c.flag_of-2.ensures.0, c.flag_of-3.ensures.0, c.flag_of-4.ensures.0) (kept_only c.args.kept c.args.p)
