use Rattle.std.proofs.Common.{ℕ, List, ap, ◌∙◌}
use Rattle.lists.specs.Lists.{put_back}
use Rattle.buffer.specs.Layout.{register_words}
use Rattle.links.specs.Offsets.{registers_long}
use Rattle.buffer.proofs.changing.empty_chip.Goals as goal

pub returns : goal.returns
returns c = ap (λ (ys : List ℕ). put_back 0 registers_long ys c.args.chip.now) (c.put_registers.ensures ∙ ap register_words c.empty_registers.ensures)
