use Rattle.std.proofs.Common.{◌∙◌, sym}
use Rattle.groups.proofs.Longest.{longest_none, longest_more}
use Rattle.groups.proofs.lending.longest.Goals as goal

pub loop-c-init : goal.loop-c-init
loop-c-init c = sym (longest_none _)

pub loop-c-preserved : goal.loop-c-preserved
loop-c-preserved c = c.max-most.ensures ∙ longest_more c.args.starts.now c.loop-c.c _ _ c.loop-c.invariant c.saturating_sub.ensures
