-- No rule of the model, but what the steps of growing a tree promise each other: the least of four ways, a way's links by their places, and the part of a way that is left.
use Rattle.std.specs.Int.Bits.{bit_or}
use Rattle.std.specs.Prelude.{ℕ, ◌+◌, ◌-◌, ◌*◌, ◌%◌, ◌^◌, get_or, set, ◌≤◌, ◌<◌, max, ◌≡◌, cond, List, [], ◌∷◌, ◌++◌, ltb, pos, neg_ℤ, nat_abs, length, take, drop, replicate}
use Rattle.tree.specs.declared.Way.{Way}
use Rattle.tree.specs.declared.Counted.{Counted}
use Rattle.tree.specs.declared.Legs.{Legs}
use Rattle.tree.specs.declared.Rest.{Rest}
use Rattle.tree.specs.declared.places.Place.{Place}
use Rattle.tree.specs.Way.{shared, links_in, diagonal_link, sideways_link, upright_link}
use Rattle.tree.specs.Growing.{Target, Grown, Part, most_chips}
use Rattle.tree.specs.Rows.{needs_row}

-- ---- the way

pub record Small (w : Way) : Type 0 where
  pub east_small : nat_abs w.east ≤ 11
  pub north_small : nat_abs w.north ≤ 11

-- A way that goes with the number of its links.
pub record CountedRight (c : Counted) : Type 0 where
  pub small : Small c.way
  pub many : c.links ≡ links_in c.way

-- The first of two ways unless the other has fewer links.
abbrev pub nearer : Way → Way → Way
nearer v w = cond (ltb (links_in w) (links_in v)) w v

-- The best way of each pair of directions: the fewest steps, but forwards in both as many as cost nothing, up to the larger of the two numbers.
abbrev pub forwards : ℕ → ℕ → ℕ → ℕ → Way
forwards width height east north =
    record { east = pos (max east north - (max east north - east) % width); north = pos (max east north - (max east north - north) % height) }

abbrev pub east_south : ℕ → ℕ → ℕ → Way
east_south height east north = record { east = pos east; north = neg_ℤ (pos ((height - north) % height)) }

abbrev pub west_north : ℕ → ℕ → ℕ → Way
west_north width east north = record { east = neg_ℤ (pos ((width - east) % width)); north = pos north }

abbrev pub backwards : ℕ → ℕ → ℕ → ℕ → Way
backwards width height east north =
    record { east = neg_ℤ (pos ((width - east) % width)); north = neg_ℤ (pos ((height - north) % height)) }

unfoldable pub best_of_four : ℕ → ℕ → ℕ → ℕ → Way
best_of_four width height east north =
    nearer (nearer (nearer (forwards width height east north) (east_south height east north)) (west_north width east north))
    (backwards width height east north)

-- ---- its links

abbrev pub legs_of : Way → Legs
legs_of w = record {
  shared = shared w;
  turn = nat_abs w.east;
  end = links_in w;
  diagonal = diagonal_link w;
  sideways = sideways_link w;
  upright = upright_link w;
}

abbrev pub link_at : Legs → ℕ → ℕ
link_at legs j = cond (ltb j legs.shared) legs.diagonal (cond (ltb j legs.turn) legs.sideways legs.upright)

abbrev pub links_by : Legs → List ℕ
links_by legs =
    replicate legs.shared legs.diagonal ++ replicate (legs.turn - legs.shared) legs.sideways ++ replicate (legs.end - legs.turn) legs.upright

-- The part of a way, by the place where it begins; the whole of it.
abbrev pub whole_way : ℕ → List ℕ → Part
whole_way chip links = record { chip = chip; links = links }

abbrev pub part_from : List ℕ → Rest → Part
part_from links rest = record { chip = rest.chip; links = drop rest.at links }

-- A place on the mesh: so far east and so far north.
pub record Stands (width height x y : ℕ) : Type 0 where
  pub east_low : x < width
  pub north_low : y < height

-- Chips by number y * W + x.
abbrev pub number_of : ℕ → Place → ℕ
number_of width place = place.y * width + place.x

-- ---- the tree

pub record Marks (entered routes : List ℕ) : Type 0 where
  pub entered_long : length entered ≡ most_chips
  pub routes_long : length routes ≡ most_chips

abbrev pub grown_of : List ℕ → List ℕ → Grown
grown_of entered routes = record { entered = entered; routes = routes }

abbrev pub target_of : ℕ → ℕ → Target
target_of chip processors = record { chip = chip; processors = processors }

-- A link more, from a chip to another; and a chip's processors.
abbrev pub with_link : Grown → ℕ → ℕ → ℕ → Grown
with_link t from link to = record { entered = set t.entered to link; routes = set t.routes from (bit_or (get_or t.routes from 0) (2 ^ link)) }

abbrev pub with_set : Grown → ℕ → ℕ → Grown
with_set t chip processors = record { entered = t.entered; routes = set t.routes chip (bit_or (get_or t.routes chip 0) (processors * 64)) }

-- ---- its rows

-- The rows with a chip's row, where it has one, behind the first so many.
abbrev pub row_words : ℕ → ℕ → ℕ → ℕ → List ℕ
row_words key mask entered route = cond (needs_row entered route) (key ∷ mask ∷ route ∷ []) []

abbrev pub with_row : ℕ → ℕ → ℕ → ℕ → ℕ → List ℕ → List ℕ
with_row key mask entered route count rows =
    take (count * 3) rows ++ (row_words key mask entered route ++ drop (count * 3 + length (row_words key mask entered route)) rows)
