use Rattle.std.proofs.Common.{ℕ, ◌+◌, ◌*◌, List, drop, ap, arith, length-drop, length-take-le}
use native.Mathlib.Nat.{add-sub_cancel_left}
use Rattle.lists.specs.Lists.{put_back}
use Rattle.links.specs.Offsets.{link_long, links_at}
use Rattle.buffer.proofs.chip.push_on.Goals as goal

pub push-requires : goal.push-requires
push-requires c = let i = c.args.i in
    let l = c.args.chip.now in
    rw (add-sub_cancel_left (links_at + i * link_long) link_long)
    (length-take-le link_long (drop (links_at + i * link_long) l) (simp length-drop (omega arith)), c.requires.1.1)

pub returns : goal.returns
returns c = let i = c.args.i in
    rw (add-sub_cancel_left (links_at + i * link_long) link_long) (ap (λ (ys : List ℕ). put_back (links_at + i * link_long) link_long ys c.args.chip.now) (rw (add-sub_cancel_left (links_at + i * link_long) link_long) at c.push.ensures))
