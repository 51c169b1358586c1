use Rattle.std.proofs.Common.{◌≡◌, ◌+◌, ◌-◌, ◌*◌, drop}
use Rattle.buffer.specs.Holding.{places_fine}
use Rattle.links.specs.Offsets.{places_at, place_long}
use Rattle.buffer.proofs.holding.places_fine.Given as goal

abbrev pub invariant-loop-i : goal.invariant-loop-i
invariant-loop-i l = places_fine l.count (drop 2 l.words) ≡ places_fine (l.count - l.i) (drop (places_at + l.i * place_long) l.words)
