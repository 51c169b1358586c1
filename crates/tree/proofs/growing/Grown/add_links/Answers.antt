use Rattle.std.proofs.Common.{◌≡◌, sym, ap, ◌∙◌, drop, arith, ℕ, refl}
use Rattle.tables.proofs.Sizes.{chips_small}
use Rattle.links.specs.Across.{across}
use Rattle.tree.specs.Growing.{added}
use Rattle.tree.proofs.LinkByLink.{legs_in_order, legs_low, legs_links, one_added, all_added}
use Rattle.tree.proofs.Standing.{chip_there}
use Rattle.tree.proofs.growing.Grown.add_links.Goals as goal

pub add_link-requires : goal.add_link-requires
add_link-requires c = let at = c.loop-j in
    let s = c.args.size in (
      omega (arith, chip_there at.invariant.there at.invariant.stands, chips_small s.width s.height s.fine),
      (omega (arith, c.link_at-link.ensures, legs_low c.legs-legs.result c.args.way at.j c.legs-legs.ensures), c.number-next.ensures.few),
    )

pub loop-j-preserved : goal.loop-j-preserved
loop-j-preserved c = let at = c.loop-j in
    let s = c.args.size in
    let legs = c.legs-legs.result in
    let leads : c.number-next.result ≡ across s.width s.height at.chip c.link_at-link.result = c.number-next.ensures.number ∙ c.across-place.ensures.number ∙ ap (λ (n : ℕ). across s.width s.height n c.link_at-link.result) (sym at.invariant.there) in
    let one = one_added s.width s.height legs (legs_in_order legs c.args.way c.legs-legs.ensures) at.chip _ at.j _ c.loop-j-test.true c.link_at-link.ensures leads at.self.entered at.self.routes _ refl in
    record {
      there = c.number-next.ensures.number;
      stands = c.across-place.ensures.stands;
      same = at.invariant.same ∙ rw c.add_link.ensures one;
    }

pub returns : goal.returns
returns c = let at = c.loop-j in
    let s = c.args.size in
    let legs = c.legs-legs.result in
    let same = legs_links legs c.args.way c.legs-legs.ensures in
    let all = at.invariant.same ∙ all_added s.width s.height legs (legs_in_order legs c.args.way c.legs-legs.ensures) at.chip at.j c.loop-j-test.false at.self in
    sym all ∙ (λ i. added s.width s.height c.args.self.now c.args.rest.chip (drop c.args.rest.at (same i)))
