use Rattle.std.proofs.Common.{ℕ, ◌≡◌, ◌<◌, ◌/◌, ◌%◌, length}
use lib.ListN.{get_or}
use Rattle.buffer.specs.Layout.{mesh_of}
use Rattle.flood.specs.Marks.{lead_of}
use Rattle.flood.proofs.around.around_all.Given as goal

abbrev pub invariant-loop-k : goal.invariant-loop-k
invariant-loop-k l =
    record { long : length l.around ≡ 864; each : (j : ℕ) → j < l.k → get_or l.around j 0 ≡ lead_of (mesh_of l.mesh) (j / 6) (j % 6) }
