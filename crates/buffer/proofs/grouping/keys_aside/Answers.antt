use Rattle.std.proofs.Common.{ℕ, List, ◌++◌, refl, ap, ◌∙◌, add-one, arith}
use Rattle.mesh.specs.Room.{keys_of}
use Rattle.buffer.specs.PassesInTurn.{aside_by}
use Rattle.buffer.proofs.GroupsBuilt.{none_aside, more_aside}
use Rattle.buffer.proofs.grouping.keys_aside.Goals as goal

pub loop-source-init : goal.loop-source-init
loop-source-init c = (omega arith, none_aside c.args.mesh.now c.args.chip c.args.keys.now)

pub loop-source-preserved : goal.loop-source-preserved
loop-source-preserved c = let at = c.loop-source in
    let a = c.args in
    let by = c.keys_by-count in (
      omega (arith, at.invariant.0, by.ensures.1),
      rw add-one (more_aside a.mesh.now a.chip at.source _ _ (by.ensures.0 ∙ ap (λ (l : List ℕ). l ++ keys_of (aside_by a.mesh.now a.chip at.source)) at.invariant.1) refl),
    )
