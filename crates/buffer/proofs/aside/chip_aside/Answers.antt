use Rattle.std.proofs.Common.{◌≡◌, ℕ, suc, ◌+◌, ◌*◌, ◌<◌, List, sym, subst, add-one, arith}
use native.Mathlib.Nat.{add-sub_cancel_left}
use Rattle.lists.specs.Lists.{put_back}
use Rattle.buffer.specs.ChipWords.{link_words, ChangedBut, from}
use Rattle.buffer.specs.Aside.{aside_on}
use Rattle.buffer.proofs.LinksChanged.{by_number, next, link_long_lem}
use Rattle.buffer.proofs.Asides.{length_aside}
use Rattle.buffer.proofs.AsideChips.{chip_set_aside}
use Rattle.links.specs.Offsets.{link_long, links_at}
use Rattle.buffer.proofs.aside.chip_aside.Goals as goal

pub loop-i-preserved : goal.loop-i-preserved
loop-i-preserved c = let at = c.loop-i in
    let i = at.i in
    let l = c.args.chip.now in
    let pre = c.requires in
    let hi : i < 6 = c.loop-i-test.true in
    let sized = length_aside (link_words i l) (link_long_lem i l hi pre.long) (pre.few i hi) in
    rw (add-sub_cancel_left (links_at + i * link_long) link_long, add-one)
    (subst (λ (ys : List ℕ). ChangedBut aside_on (from (suc i)) l (put_back (links_at + i * link_long) link_long ys at.chip)) (sym (rw (add-sub_cancel_left (links_at + i * link_long) link_long) at c.link_aside.ensures))
    (next aside_on (from i) (from (suc i)) i l at.chip hi (by_number i) sized at.invariant))

pub returns : goal.returns
returns c = let pre = c.requires in
    let e : c.loop-i.i ≡ 6 = omega arith in
    chip_set_aside _ _ pre (rw e at c.loop-i.invariant)
