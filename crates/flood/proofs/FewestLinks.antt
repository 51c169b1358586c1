-- A code that is a link begins a way of fewest links, and is the lowest that does.
use Prim.Native.Nat.{ℕ, suc, ◌-◌, ◌≤◌}
use mathlib.Core.Path.{◌≡◌, sym, subst}
use mathlib.Core.List.{List, ◌∷◌}
use native.Mathlib.Omega.{arith}
use lib.ListN.{length}
use Rattle.mesh.specs.Mesh.{Mesh, many}
use Rattle.flood.specs.Ways.{beyond, Way, leads_to, within, fewest, first_link}
use Rattle.flood.specs.Shortest.{Begins, FewestLinks}
use Rattle.flood.proofs.Levels.{first_least, within_more}
use Rattle.flood.proofs.WaysWithin.{first_step, leads, way_within, way_by_first}
use Rattle.flood.proofs.FirstLinks.{Reached, reached, code_reached, some_links, link_below}

module _ {A : Type 0} (m : Mesh A) (from to : ℕ) where
  -- no way has fewer links than the fewest
  pub fewest_least : (others : List ℕ) → Way m from to others → fewest m from to ≤ length others
  fewest_least others w = first_least (λ k. within m to k from) (many m) (length others) (way_within m w)

  pub begins : Reached m from to → Begins m from to (first_link m from to)
  begins r =
      let j = fewest m from to - 1 in
      let x = way_by_first m from to j (link_below m from to r) in
      let least : suc (length x.links) ≡ fewest m from to = omega (arith, x.short, some_links m from to r, fewest_least (first_link m from to ∷ x.links) x.way) in
      record {
        links = x.links;
        way = x.way;
        shortest = λ others w. omega (arith, least, fewest_least others w);
        counted = least;
        lowest = λ i others w h.
            let on = first_step m w in
            first_least (leads_to m (within m to j) from) 6 i (leads m to j from i on.up (within_more m to (length others) j (beyond m from i) (omega (arith, x.short)) (way_within m on.rest)));
      }

pub fewest_links : FewestLinks
fewest_links A m sound from to hf ht h =
    let r = reached m from to h in
    subst (Begins m from to) (sym (code_reached m from to r)) (begins m from to r)
