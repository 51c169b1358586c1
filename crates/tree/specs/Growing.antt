-- Growing a tree: chips go in list order, each by the part of its way that is new.
use Rattle.std.specs.Prelude.{ℕ, ◌*◌, ◌^◌, Bool, cond, not, List, [], ◌∷◌, eqb, get_or, set, replicate}
use Rattle.std.specs.Int.Bits.{bit_or}
use Rattle.links.specs.Across.{across}
use Rattle.tree.specs.Way.{links_of, way_between}

-- "A list of chips with processor sets", two words each: "a word past the last pair is a chip with no processors".
pub record Target : Type 0 where
  pub chip : ℕ
  pub processors : ℕ

unfoldable pub targets_of : List ℕ → List Target
targets_of [] = []
targets_of (c ∷ []) = record { chip = c; processors = 0 } ∷ []
targets_of (c ∷ p ∷ rest) = record { chip = c; processors = p } ∷ targets_of rest

-- The tree so far, chip by chip: the link by which it was entered, 6 for the source, 7 for a chip outside; and its route, "bits 0 to 5 are links, 6 to 25 are processors 0 to 19".
pub record Grown : Type 0 where
  pub entered : List ℕ
  pub routes : List ℕ

-- "One mark for each of up to 144 chips."
abbrev pub most_chips : ℕ
most_chips = 144

abbrev pub within : List ℕ → ℕ → Bool
within entered chip = not (eqb (get_or entered chip 0) 7)

-- The source alone, with nowhere to go.
abbrev pub source_alone : ℕ → Grown
source_alone source = record { entered = set (replicate most_chips 7) source 6; routes = replicate most_chips 0 }

-- The part of a way that is left to go from a chip on.
pub record Part : Type 0 where
  pub chip : ℕ
  pub links : List ℕ

module _ (width height : ℕ) where
  -- "The part of a way after its last chip shared with the tree so far": along the way's links from a chip, each chip that is within the tree begins the part anew.
  unfoldable pub last_shared : List ℕ → Part → ℕ → List ℕ → Part
  last_shared entered part chip [] = part
  last_shared entered part chip (i ∷ is) =
      last_shared entered (cond (within entered (across width height chip i)) (record { chip = across width height chip i; links = is }) part)
      (across width height chip i)
      is

  -- One link more: it is in the route of the chip that it leaves, and the chip that it leads to is entered by it.
  abbrev pub one_more : Grown → ℕ → ℕ → Grown
  one_more t chip i = record {
    entered = set t.entered (across width height chip i) i;
    routes = set t.routes chip (bit_or (get_or t.routes chip 0) (2 ^ i));
  }

  unfoldable pub added : Grown → ℕ → List ℕ → Grown
  added t chip [] = t
  added t chip (i ∷ is) = added (one_more t chip i) (across width height chip i) is

  -- "Only the part of a way after its last chip shared with the tree so far is added."
  abbrev pub new_part : Grown → ℕ → List ℕ → Part
  new_part t source way = last_shared t.entered (record { chip = source; links = way }) source way

  abbrev pub with_part : Grown → Part → Grown
  with_part t part = added t part.chip part.links

  -- The processors that a chip's packets are for, "route bits 6 to 25".
  abbrev pub with_processors : Grown → ℕ → ℕ → Grown
  with_processors t chip processors = record { entered = t.entered; routes = set t.routes chip (bit_or (get_or t.routes chip 0) (processors * 64)) }

  abbrev pub with_target : ℕ → Grown → Target → Grown
  with_target source t target =
      with_processors (with_part t (new_part t source (links_of (way_between width height source target.chip)))) target.chip
      target.processors

  -- "Chips go in list order."
  unfoldable pub grown_by : ℕ → Grown → List Target → Grown
  grown_by source t [] = t
  grown_by source t (target ∷ rest) = grown_by source (with_target source t target) rest

  abbrev pub tree_to : ℕ → List Target → Grown
  tree_to source targets = grown_by source (source_alone source) targets
