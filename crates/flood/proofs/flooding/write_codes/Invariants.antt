use Rattle.std.proofs.Common.{ℕ, ◌≡◌, ◌<◌, ◌*◌, ◌/◌, ◌%◌}
use lib.ListN.{get_or}
use Rattle.mesh.specs.Mesh.{Mesh}
use Rattle.flood.specs.Codes.{code_of}
use Rattle.flood.specs.Marks.{Around}
use Rattle.flood.proofs.flooding.write_codes.Given as goal

abbrev pub invariant-loop-to : goal.invariant-loop-to
invariant-loop-to l = (m : Mesh (Unit {0})) → Around m l.all l.around → (k : ℕ) → k < l.all * l.all → k % l.all < l.to → get_or l.codes k 0 ≡ code_of m (k / l.all) (k % l.all)
