use Rattle.std.proofs.Common.{ℕ, ◌+◌, ◌*◌, List, ap}
use native.Mathlib.Nat.{add-sub_cancel_left}
use Rattle.lists.specs.Lists.{put_back}
use Rattle.links.specs.Offsets.{link_long, links_at}
use Rattle.buffer.proofs.changing.link_on_chip.Goals as goal

pub returns : goal.returns
returns c = let a = c.args in
    rw (add-sub_cancel_left (links_at + a.link * link_long) link_long) (ap (λ (ys : List ℕ). put_back (links_at + a.link * link_long) link_long ys a.chip.now) (rw (add-sub_cancel_left (links_at + a.link * link_long) link_long) at c.set_state.ensures))
