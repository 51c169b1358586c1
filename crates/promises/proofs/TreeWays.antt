-- A way of a tree has as many links as the fewest of a flood where all links are up: its links are a way of the flood's, and the links of every way of the flood's lead there.
use Prim.Native.Nat.{ℕ, ◌<◌}
use mathlib.Core.Path.{◌≡◌, refl, subst}
use mathlib.Core.List.{List, [], ◌∷◌}
use native.Mathlib.Nat.{le_antisymm, le_trans}
use Rattle.lists.specs.Lists.{All}
use Rattle.lists.proofs.Firsts.{first_holds}
use Rattle.tables.proofs.Sizes.{Size, size}
use Rattle.mesh.specs.Mesh.{Mesh, many}
use Rattle.mesh.specs.Sound.{SoundMesh}
use Rattle.links.proofs.Crossing.{across_there}
use Rattle.flood.specs.Ways.{Way, here, onward, beyond, within, fewest}
use Rattle.flood.proofs.WaysWithin.{within_way}
use Rattle.flood.proofs.FewestLinks.{fewest_least}
use Rattle.flood.proofs.SixWhereNoWay.{few_links}
use Rattle.tree.specs.Way.{links_of, way_between}
use Rattle.tree.specs.Promises.{chip_after}
use Rattle.tree.proofs.FewestLinks as tree
use Rattle.tree.proofs.LowRoutes.{links_low}
use Rattle.promises.specs.TreeWays.{AllUp, FewestOfAll}

module _ {A : Type 0} (m : Mesh A) (sound : SoundMesh m) where
  sized : Size m.width m.height
  sized = size m.width m.height sound.size

  -- links that lead on are a way where all are up
  is_way : AllUp m → (chip : ℕ) (links : List ℕ) → chip < many m → All (λ i. i < 6) links → Way m chip (chip_after m.width m.height chip links) links
  unfolding All chip_after
  is_way up chip [] there low = here chip
  is_way up chip (i ∷ is) there low =
      onward chip _ i is low.0 (up chip i there low.0)
      (is_way up (beyond m chip i) is (across_there m.width m.height chip i sized.width_low sized.height_low) low.1)

  -- and a way's links are below 6 and lead where it leads
  way_links : {from to : ℕ} {links : List ℕ} → Way m from to links → All (λ i. i < 6) links × (chip_after m.width m.height from links ≡ to)
  unfolding All chip_after
  way_links (here chip) = (tt, refl)
  way_links (onward from to i links low up rest) = let h = way_links rest in ((low, h.0), h.1)

pub fewest_of_all : FewestOfAll
fewest_of_all A m sound up from to hf ht =
    let shortest = tree.fewest_links m.width m.height from to sound.size hf ht in
    let links = links_of (way_between m.width m.height from to) in
    let way : Way m from to links = subst (λ (c : ℕ). Way m from c links) shortest.arrives (is_way m sound up from links hf (links_low (way_between m.width m.height from to))) in
    let found = within_way m to (fewest m from to) from (first_holds (λ k. within m to k from) (many m) (few_links m sound from to hf ht links way)) in
    let other = way_links m sound found.way in
    le_antisymm (le_trans (shortest.none_shorter found.links other.0 other.1) found.short) (fewest_least m from to links way)
