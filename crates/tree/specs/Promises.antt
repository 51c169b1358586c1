-- What a lab is promised of a tree.
use Rattle.std.specs.Prelude.{ℕ, ◌*◌, ◌/◌, ◌%◌, ◌≤◌, ◌<◌, ◌≡◌, Bool, true, false, List, [], ◌∷◌, length, take}
use Rattle.lists.specs.Lists.{All}
use Rattle.tables.specs.Sizes.{size_fine}
use Rattle.tables.specs.Accept.{routes_fine, starts_fine}
use Rattle.links.specs.Across.{across}
use Rattle.tree.specs.declared.Way.{Way}
use Rattle.tree.specs.Way.{better, offset, leads, links_of, way_between}
use Rattle.tree.specs.Call.{refusal_of, tree_of, rows_after, starts_after}

-- Whether a way leads from a chip to another.
abbrev pub leads_between : ℕ → ℕ → ℕ → ℕ → Way → Bool
leads_between width height from to w = leads width height (offset width (from % width) (to % width)) (offset height (from / width) (to / width)) w

-- "Least over all ways round the mesh; .. of equal ways the one with the larger signed count east, then north, is taken": the way that is taken leads there, no pair of signed numbers that
-- leads there is better, however large they are, and only that pair is as good.
pub record Least (width height from to : ℕ) (way : Way) : Type 0 where
  pub there : leads_between width height from to way ≡ true
  pub none_better_lem : (v : Way) → leads_between width height from to v ≡ true → better v way ≡ false
  pub none_as_good : (v : Way) → leads_between width height from to v ≡ true → better way v ≡ false → v ≡ way

abbrev pub LeastOfAll : Type 0
LeastOfAll = (width height from to : ℕ) → size_fine width height ≡ true → from < height * width → to < height * width
    → Least width height from to (way_between width height from to)

-- The chip that links lead to from a chip, one after the other.
unfoldable pub chip_after : ℕ → ℕ → ℕ → List ℕ → ℕ
chip_after width height chip [] = chip
chip_after width height chip (i ∷ is) = chip_after width height (across width height chip i) is

-- "Of all ways round the mesh those of fewest links": its links lead from the one chip to the other, and no links that do so are fewer.
pub record Shortest (width height from to : ℕ) (way : List ℕ) : Type 0 where
  pub arrives : chip_after width height from way ≡ to
  pub none_shorter : (links : List ℕ) → All (λ i. i < 6) links → chip_after width height from links ≡ to → length way ≤ length links

abbrev pub FewestLinks : Type 0
FewestLinks = (width height from to : ℕ) → size_fine width height ≡ true → from < height * width → to < height * width
    → Shortest width height from to (links_of (way_between width height from to))

-- The tables are acceptable to injection and round: the rows that an accepted call writes, as many as it answers, and the starts.
abbrev pub Acceptable : Type 0
Acceptable = (width height source key mask : ℕ) (words rows starts : List ℕ) → refusal_of width height source key mask words rows starts ≡ 0
    → let count = (tree_of width height source key mask words rows starts).rows in
    let written = take (count * 3) (rows_after width height source key mask words rows starts) in
    (length written ≡ count * 3) × ((routes_fine written ≡ true) × (starts_fine (starts_after width height source key mask words rows starts) (height * width) (length written / 3) ≡ true))
