use Rattle.std.proofs.Common.{◌≡◌, ℕ, ◌≤◌, length, get_or, sym, subst, add-one, arith}
use Rattle.buffer.proofs.Arrivals as arrivals
use Rattle.buffer.proofs.round_passes.pass_link.Goals as goal

pub loop-i-init : goal.loop-i-init
loop-i-init c = arrivals.passed_begin _ _ _ _ _

pub packet_at-p-requires : goal.packet_at-p-requires
packet_at-p-requires c = omega (arith, arrivals.place_few c.args.mesh.now c.args.chip c.args.source c.args.log.now c.args.n c.requires.0.1 c.requires.1.0 _ c.requires.0.0, c.loop-i.invariant.long)

pub pass_next-done-requires : goal.pass_next-done-requires
pass_next-done-requires c = let at = c.loop-i in
    let read : _ = c.packet_at-p.ensures in
    let hi = c.loop-i-test.true in (
      (arrivals.link_due c.args.mesh.now c.args.chip c.args.source c.args.log.now c.args.n c.requires.0.1 c.requires.1.0 _ c.requires.0.0 _ at.i hi at.mesh at.log at.done at.invariant _ read, subst (λ (k : ℕ). k ≤ length c.args.tables.now.codes) (sym (arrivals.chips_same _ _ _ _ _ _ _ _ at.invariant)) c.requires.1.1.0),
      (λ some. let g = c.requires.1.1.1 some in (g.0, arrivals.link_each c.args.mesh.now c.args.chip c.args.source c.args.log.now c.args.n c.requires.0.1 c.requires.1.0 _ c.requires.0.0 _ at.i hi at.mesh at.log at.done at.invariant _ read _ g.1)),
    )

pub loop-i-preserved : goal.loop-i-preserved
loop-i-preserved c = let at = c.loop-i in
    rw add-one (arrivals.link_step c.args.mesh.now c.args.chip c.args.source c.args.log.now c.args.n c.requires.0.1 c.requires.1.0 _ c.requires.0.0 _ at.i c.loop-i-test.true at.mesh at.log at.done at.invariant _ c.packet_at-p.ensures _ _ _ c.pass_next-done.ensures)

pub returns : goal.returns
returns c = let at = c.loop-i in
    let e : at.i ≡ get_or c.args.mesh.now c.args.at 0 = omega arith in
    arrivals.link_end c.args.mesh.now c.args.chip c.args.source c.args.log.now c.args.n c.requires.0.1 c.requires.1.0 _ c.requires.0.0 _ _ _ _ (rw e at at.invariant)
