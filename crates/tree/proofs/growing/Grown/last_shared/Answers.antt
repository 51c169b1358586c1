use Rattle.std.proofs.Common.{◌≡◌, ℕ, ◌+◌, sym, ap, ◌∙◌, drop}
use Rattle.links.specs.Across.{across}
use Rattle.tree.specs.Growing.{last_shared, Part}
use Rattle.tree.specs.Walking.{links_by, number_of, whole_way, part_from}
use Rattle.tree.proofs.LinkByLink.{legs_in_order, legs_links, met, not_met, all_met}
use Rattle.tree.proofs.growing.Grown.last_shared.Goals.{then-holds, else-holds}
use Rattle.tree.proofs.growing.Grown.last_shared.Goals as goal

pub loop-j-preserved : goal.loop-j-preserved
loop-j-preserved c = let at = c.loop-j in
    let s = c.args.size in
    let legs = c.legs-legs.result in
    let o = legs_in_order legs c.args.way c.legs-legs.ensures in
    let here = number_of s.width at.place in
    let entered = c.args.self.now.entered in
    let leads : c.number-chip.result ≡ across s.width s.height here c.link_at.result = c.number-chip.ensures.number ∙ c.across-place.ensures.number in
    let behind = drop (at.j + 1) (links_by legs) in
    let on = λ (part : Part). ap (λ (chip : ℕ). last_shared s.width s.height entered part chip behind) c.number-chip.ensures.number in
    elim c.if-holds.branch [
      | then-holds w ↦ rw w.rest-is (record {
        same = at.invariant.same ∙ met s.width s.height legs o here _ at.j _ c.loop-j-test.true c.link_at.ensures leads entered _ (sym c.holds.ensures ∙ w.if-holds.true) ∙ on _;
        stands = c.across-place.ensures.stands;
        leaves = c.number-chip.ensures.low;
      })
      | else-holds w ↦ rw w.rest-is (record {
        same = at.invariant.same ∙ not_met s.width s.height legs o here _ at.j _ c.loop-j-test.true c.link_at.ensures leads entered _ (sym c.holds.ensures ∙ w.if-holds.false) ∙ on _;
        stands = c.across-place.ensures.stands;
        leaves = at.invariant.leaves;
      })
    ]

pub returns : goal.returns
returns c = let at = c.loop-j in
    let s = c.args.size in
    let legs = c.legs-legs.result in
    let same = legs_links legs c.args.way c.legs-legs.ensures in
    let found = at.invariant.same ∙ all_met s.width s.height legs (legs_in_order legs c.args.way c.legs-legs.ensures) _ at.j c.loop-j-test.false c.args.self.now.entered _ in
    record {
      part = (λ i. part_from (sym same i) at.rest) ∙ sym found ∙ (λ i. last_shared s.width s.height c.args.self.now.entered (whole_way c.args.source (same i)) c.args.source (same i));
      leaves = at.invariant.leaves;
    }
