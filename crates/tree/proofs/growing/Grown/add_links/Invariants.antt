-- `growing::Grown::add_links` meets its contract. The loop's invariant: the tree with the whole part is this one with what is left of it; the chip is the one at the place.
use Rattle.std.proofs.Common.{◌≡◌, drop}
use Rattle.tree.specs.Growing.{added}
use Rattle.tree.specs.Walking.{Stands, links_by, number_of}
use Rattle.tree.proofs.growing.Grown.add_links.Given as goal

abbrev pub invariant-loop-j : goal.invariant-loop-j
invariant-loop-j l = record {
  there : l.chip ≡ number_of l.size.width l.place;
  stands : Stands l.size.width l.size.height l.place.x l.place.y;
  same : added l.size.width l.size.height l.initial.self l.initial.chip (drop l.initial.j (links_by l.legs)) ≡ added l.size.width l.size.height l.self l.chip (drop l.j (links_by l.legs));
}
