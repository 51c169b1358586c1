use Rattle.std.proofs.Common.{◌≡◌, length, drop}
use lib.Seq.{paste}
use Rattle.links.specs.Offsets.{places_at, aside_places_at, link_long}
use Rattle.buffer.proofs.aside.copy_aside.Given as goal

abbrev pub invariant-loop-i : goal.invariant-loop-i
invariant-loop-i l = (length l.words ≡ link_long) × (l.words ≡ paste l.initial.words aside_places_at (drop places_at l.initial.words) l.i)
