use mathlib.Core.Path.{◌≡◌, sym, ◌∙◌}
use mathlib.Core.Bool.{true}
use native.Mathlib.Omega.{arith}
use borrow.Author.Tests.{eq-eqb, ne_eqb}
use Rattle.lists.proofs.Firsts.{first_is, first_none}
use Rattle.tables.specs.Places.{fixed_wrong}
use Rattle.tables.proofs.places.fixed_place.Goals as goal

pub returns-then-fixed-chips : goal.returns-then-fixed-chips
returns-then-fixed-chips c = sym (first_is (fixed_wrong c.args.fixed.now c.args.chips) c.args.chips 0 c.requires (simp (ne_eqb _ _ c.if-fixed-chips.true)) (λ j h. absurd (omega arith)))

pub returns : goal.returns
returns c = sym (first_none (fixed_wrong c.args.fixed.now c.args.chips) c.args.chips (λ j h. c.loop-c.invariant j (omega arith)))

pub returns-then-not-route_fine : goal.returns-then-not-route_fine
returns-then-not-route_fine c = let a = c.args in
    let at = c.loop-c in
    let wrong : fixed_wrong a.fixed.now a.chips at.c ≡ true = simp (eq-eqb _ _ c.if-fixed-chips.false, sym c.route_fine.ensures ∙ c.if-not-route_fine.true) in
    sym (first_is (fixed_wrong a.fixed.now a.chips) a.chips at.c (omega arith) wrong at.invariant)
