use Rattle.std.proofs.Common.{ℕ, ◌<◌, ◌≤◌, length, sym, refl, ◌∙◌, subst, add-one}
use Rattle.buffer.proofs.Arrivals as arrivals
use Rattle.buffer.proofs.round_passes.pass_links.Goals as goal

pub loop-source-init : goal.loop-source-init
loop-source-init c = arrivals.passed_begin _ _ _ _ _

pub pass_link-done-requires : goal.pass_link-done-requires
pass_link-done-requires c = let at = c.loop-source in
    let hi : at.source < 6 = c.loop-source-test.true in
    let a = c.args in
    let pre = c.requires in (
      (c.aside_place-at.ensures a.chip refl refl ∙ arrivals.place_same _ _ _ _ _ _ _ a.chip at.source _ at.invariant, hi),
      (
        arrivals.links_due _ _ _ _ _ _ _ a.chip at.source hi pre.1.0 at.invariant,
        (
          subst (λ (k : ℕ). k ≤ length a.tables.now.codes) (sym (arrivals.chips_same _ _ _ _ _ _ _ _ at.invariant)) pre.1.1.0,
          (λ some. let g = pre.1.1.1 some in (g.0, arrivals.links_each _ _ _ _ _ _ _ a.chip at.source hi pre.1.0 at.invariant _ g.1)),
        ),
      ),
    )

pub loop-source-preserved : goal.loop-source-preserved
loop-source-preserved c = let at = c.loop-source in
    let hi : at.source < 6 = c.loop-source-test.true in
    rw add-one (arrivals.links_step _ _ _ _ _ _ _ c.args.chip at.source hi c.requires.1.0 at.invariant _ _ _ c.pass_link-done.ensures)
