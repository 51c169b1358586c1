-- `growing::Grown::last_shared` meets its contract. The loop's invariant: the part that is found from the source on is the one that is found from here on, with the part so far; it is on the mesh.
use Rattle.std.proofs.Common.{◌≡◌, ◌*◌, ◌<◌, drop}
use Rattle.tree.specs.Growing.{last_shared}
use Rattle.tree.specs.Walking.{Stands, links_by, number_of, whole_way, part_from}
use Rattle.tree.proofs.growing.Grown.last_shared.Given as goal

abbrev pub invariant-loop-j : goal.invariant-loop-j
invariant-loop-j l = record {
  same : last_shared l.size.width l.size.height l.self.entered (whole_way l.source (links_by l.legs)) l.source (links_by l.legs) ≡ last_shared l.size.width l.size.height l.self.entered (part_from (links_by l.legs) l.rest) (number_of l.size.width l.place) (drop l.j (links_by l.legs));
  stands : Stands l.size.width l.size.height l.place.x l.place.y;
  leaves : l.rest.chip < l.size.height * l.size.width;
}
