use Rattle.std.proofs.Common.{◌≡◌, ◌-◌, true, length}
use Rattle.mesh.specs.Mesh.{Mesh}
use Rattle.flood.specs.Marks.{Around}
use Rattle.flood.proofs.Spreads.{Reached}
use Rattle.flood.proofs.marking.marks_to.Given as goal

abbrev pub invariant-loop-level : goal.invariant-loop-level
invariant-loop-level l =
    record { long : length l.marks ≡ 144; reached : (m : Mesh (Unit {0})) → Around m l.all l.around → Reached m l.all l.to (l.level - 1) l.marks true }
