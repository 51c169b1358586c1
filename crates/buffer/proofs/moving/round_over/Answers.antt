use Rattle.std.proofs.Common.{◌≡◌, get_or, set, ap, ◌∙◌, arith, length-set, get_or-set_other, le-ltb, lt-ltb}
use Rattle.links.specs.Offsets.{phase_at, elapsed_at}
use Rattle.links.specs.Phase.{next_phase}
use Rattle.buffer.proofs.moving.round_over.Goals as goal

pub bounds-mesh-4 : goal.bounds-mesh-4
bounds-mesh-4 c = simp length-set (omega (arith, c.requires))

pub bounds-mesh-4-else-next-mesh : goal.bounds-mesh-4-else-next-mesh
bounds-mesh-4-else-next-mesh c = simp length-set (omega (arith, c.requires))

pub returns-then-next-mesh : goal.returns-then-next-mesh
returns-then-next-mesh c = simp (lt-ltb _ _ c.if-next-mesh.true)

pub returns-else-next-mesh : goal.returns-else-next-mesh
returns-else-next-mesh c = let l = c.args.mesh.now in
    let e : get_or (set l elapsed_at 0) phase_at 0 ≡ get_or l phase_at 0 = get_or-set_other l elapsed_at phase_at 0 0 (λ z. omega arith) in
    (λ i. set (set l elapsed_at 0) phase_at ((c.next_phase.ensures ∙ ap next_phase e) i)) ∙ simp (le-ltb _ _ c.if-next-mesh.false)
