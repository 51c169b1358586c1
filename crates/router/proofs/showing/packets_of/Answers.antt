use mathlib.Core.Path.{◌≡◌, sym, ap, ◌∙◌}
use mathlib.Core.Bool.{not, and-eq-true_iff}
use Prim.Native.Nat.{◌-◌}
use native.Mathlib.Omega.{arith}
use lib.Bits.{bit_and}
use lib.Count.{count_trailing_zeros}
use lib.Dec.{eqb}
use lib.ListN.{set, replicate}
use Rattle.steps.specs.Links.{has}
use Rattle.steps.proofs.LowestFirst.{lowest_link}
use Rattle.router.proofs.ShownSoFar.{shown_but, none_yet, all_shown, step}
use Rattle.router.proofs.showing.packets_of.Goals as goal

pub loop-rest-init : goal.loop-rest-init
loop-rest-init c = (c.requires, ((λ j hj h. h), ap (replicate 6) c.no_packet-none.ensures ∙ none_yet c.args.o))

pub packet_on-requires : goal.packet_on-requires
packet_on-requires c = (lowest_link _ c.loop-rest.invariant.0 c.loop-rest-test.true).below

pub overflow_cast-packets : goal.overflow_cast-packets
overflow_cast-packets c = omega (arith, (lowest_link c.loop-rest.rest c.loop-rest.invariant.0 c.loop-rest-test.true).below)

pub offset_bounds-packets-i : goal.offset_bounds-packets-i
offset_bounds-packets-i c = omega (arith, (lowest_link c.loop-rest.rest c.loop-rest.invariant.0 c.loop-rest-test.true).below)

pub bounds-packets-i : goal.bounds-packets-i
bounds-packets-i c = omega (arith, (lowest_link c.loop-rest.rest c.loop-rest.invariant.0 c.loop-rest-test.true).below)

pub overflow_sub-rest : goal.overflow_sub-rest
overflow_sub-rest c = omega (arith, (lowest_link c.loop-rest.rest c.loop-rest.invariant.0 c.loop-rest-test.true).less)

pub loop-rest-smaller : goal.loop-rest-smaller
loop-rest-smaller c = (lowest_link c.loop-rest.rest c.loop-rest.invariant.0 c.loop-rest-test.true).less

pub loop-rest-preserved : goal.loop-rest-preserved
loop-rest-preserved c = let at = c.loop-rest in
    let o = c.args.o in
    let low = lowest_link c.loop-rest.rest c.loop-rest.invariant.0 c.loop-rest-test.true in
    let i = count_trailing_zeros 32 at.rest in (
      omega (arith, low.less, at.invariant.0),
      (
        (λ j hj h. at.invariant.1.0 j hj ((and-eq-true_iff (has at.rest j) (not (eqb j i))).0 (sym (low.others j hj) ∙ h)).0),
        (λ k. set (at.invariant.1.1 k) i (c.packet_on.ensures k)) ∙ step o at.rest i (bit_and at.rest (at.rest - 1)) low (at.invariant.1.0 i low.below low.there),
      ),
    )

pub returns : goal.returns
returns c = let e : c.loop-rest.rest ≡ 0 = c.loop-rest-test.false in c.loop-rest.invariant.1.1 ∙ ap (shown_but c.args.o) e ∙ all_shown c.args.o
