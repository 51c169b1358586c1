-- After so many packets the buffer holds the mesh that `sent` says, and the answer so far is `sent_ready`.
use Rattle.std.proofs.Common.{◌≡◌}
use Rattle.known_passes.specs.TwoChips.{held_in, sent, sent_ready}
use Rattle.known_passes.proofs.two_chips.link_fills.Given as goal

abbrev pub invariant-loop-held : goal.invariant-loop-held
invariant-loop-held l = record { right : l.right ≡ sent_ready l.held; mesh : held_in l.mesh ≡ sent l.held }
