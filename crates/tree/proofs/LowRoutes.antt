-- Every route of a tree has bits 0 to 25 alone: links 0 to 5 of its ways, and the processors 0 to 19 of its targets.
use Prim.Native.Nat.{ℕ, ◌-◌, ◌*◌, ◌^◌, ◌<◌}
use mathlib.Core.Path.{◌≡◌}
use mathlib.Core.Bool.{Bool, true, false, cond, and-eq-true_iff}
use mathlib.Core.List.{List, [], ◌∷◌}
use native.Mathlib.Omega.{arith}
use borrow.Author.Tests.{ltb-true}
use lib.Bits.{or_lt}
use lib.Dec.{ltb}
use lib.IntN.{nat_abs}
use lib.Signed.{non_neg}
use lib.Pow.{pow-lt}
use lib.ListN.{get_or}
use Rattle.lists.specs.Lists.{All}
use Rattle.lists.proofs.Alls.{all_append, all_or, all_set, all_replicate}
use Rattle.links.specs.Across.{across}
use Rattle.tree.specs.declared.Way.{Way}
use Rattle.tree.specs.Way.{shared, diagonal_link, sideways_link, upright_link, links_of, way_between}
use Rattle.tree.specs.Growing.{Target, Grown, Part, within, source_alone, last_shared, one_more, added, new_part, with_part, with_target, grown_by, tree_to}
use Rattle.tree.specs.Call.{set_fine, sets_fine}

abbrev pub LinkLow : ℕ → Type 0
LinkLow i = i < 6

abbrev pub RouteLow : ℕ → Type 0
RouteLow r = r < 67108864

-- ---- links

one_of : (a b : ℕ) (t : Bool) → a < 6 → b < 6 → cond t a b < 6
one_of a b true x y = x
one_of a b false x y = y

pub links_low : (w : Way) → All LinkLow (links_of w)
unfolding links_of
links_low w =
    let east = non_neg w.east in
    all_append LinkLow _ _
    (all_append LinkLow _ _ (all_replicate LinkLow (shared w) (diagonal_link w) (one_of 1 4 east (omega arith) (omega arith)))
    (all_replicate LinkLow (nat_abs w.east - shared w) (sideways_link w) (one_of 0 3 east (omega arith) (omega arith))))
    (all_replicate LinkLow (nat_abs w.north - shared w) (upright_link w) (one_of 2 5 (non_neg w.north) (omega arith) (omega arith)))

module _ (width height : ℕ) where
  pub part_low : (entered : List ℕ) (part : Part) (chip : ℕ) (is : List ℕ) → All LinkLow part.links → All LinkLow is → All LinkLow (last_shared width height entered part chip is).links
  unfolding last_shared All
  part_low entered part chip [] p a = p
  part_low entered part chip (i ∷ is) p a =
      part_low entered (cond (within entered (across width height chip i)) (record { chip = across width height chip i; links = is }) part) (across width height chip i) is
      (go (within entered (across width height chip i)))
      a.1
    where
      go : (b : Bool) → All LinkLow (cond {A = Part} b (record { chip = across width height chip i; links = is }) part).links
      go true = a.1
      go false = p

  -- ---- routes

  pub added_low : (t : Grown) (chip : ℕ) (is : List ℕ) → All LinkLow is → All RouteLow t.routes → All RouteLow (added width height t chip is).routes
  unfolding added All
  added_low t chip [] a r = r
  added_low t chip (i ∷ is) a r =
      let old : get_or t.routes chip 0 < 2 ^ 26 = all_or RouteLow t.routes chip 0 r (omega arith) in
      let below : i < 26 = omega (arith, a.0) in
      let new : 2 ^ i < 2 ^ 26 = pow-lt below in
      added_low (one_more width height t chip i) (across width height chip i) is a.1 (all_set RouteLow t.routes chip _ r (or_lt 26 _ _ old new))

  with_low : (source : ℕ) (t : Grown) (target : Target) → target.processors < 1048576 → All RouteLow t.routes → All RouteLow (with_target width height source t target).routes
  with_low source t target p r =
      let way = links_of (way_between width height source target.chip) in
      let part = new_part width height t source way in
      let low = part_low t.entered (record { chip = source; links = way }) source way (links_low _) (links_low _) in
      let grown = added_low t part.chip part.links low r in
      let old : get_or (with_part width height t part).routes target.chip 0 < 2 ^ 26 = all_or RouteLow _ target.chip 0 grown (omega arith) in
      let new : target.processors * 64 < 2 ^ 26 = omega arith in
      all_set RouteLow _ target.chip _ grown (or_lt 26 _ _ old new)

  grown_low : (source : ℕ) (t : Grown) (ts : List Target) → sets_fine ts ≡ true → All RouteLow t.routes → All RouteLow (grown_by width height source t ts).routes
  unfolding grown_by sets_fine
  grown_low source t [] f r = r
  grown_low source t (target ∷ ts) f r =
      let both = (and-eq-true_iff (set_fine target.processors) (sets_fine ts)).0 f in
      let few = ltb-true target.processors 1048576 ((and-eq-true_iff (ltb 0 target.processors) (ltb target.processors 1048576)).0 both.0).1 in
      grown_low source (with_target width height source t target) ts both.1 (with_low source t target few r)

  pub tree_low : (source : ℕ) (ts : List Target) → sets_fine ts ≡ true → All RouteLow (tree_to width height source ts).routes
  tree_low source ts f = grown_low source (source_alone source) ts f (all_replicate RouteLow 144 0 (omega arith))
