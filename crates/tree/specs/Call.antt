-- The call: what it refuses, in order, what it answers, and every word of the room that it is lent.
use Rattle.std.specs.Prelude.{ℕ, ◌+◌, ◌*◌, Bool, true, false, cond, not, ◌&&◌, ◌||◌, List, [], ◌∷◌, ◌++◌, eqb, ltb, length, drop}
use Rattle.packet.specs.Refusal.{Refusal, refuse, first_of}
use Rattle.tables.specs.Sizes.{size_fine}
use Rattle.tables.specs.Rows.{used}
use Rattle.tree.specs.declared.Tree.{Tree}
use Rattle.tree.specs.Growing.{Target, targets_of, Grown, tree_to}
use Rattle.tree.specs.Rows.{start_of, rows_below, starts_below}

-- "19 a chip off the mesh": every target's chip is one of so many.
unfoldable pub all_there : ℕ → List Target → Bool
all_there chips [] = true
all_there chips (t ∷ ts) = ltb t.chip chips && all_there chips ts

-- "A chip named twice": one that stands in the list before.
unfoldable pub is_in : ℕ → List ℕ → Bool
is_in chip [] = false
is_in chip (c ∷ cs) = eqb chip c || is_in chip cs

unfoldable pub named_again : List ℕ → List Target → Bool
named_again before [] = false
named_again before (t ∷ ts) = is_in t.chip before || named_again (t.chip ∷ before) ts

-- "A processor set that is empty or has a bit above 19" is not.
abbrev pub set_fine : ℕ → Bool
set_fine processors = ltb 0 processors && ltb processors 1048576

unfoldable pub sets_fine : List Target → Bool
sets_fine [] = true
sets_fine (t ∷ ts) = set_fine t.processors && sets_fine ts

module _ (width height source key mask : ℕ) (words : List ℕ) where
  -- "19 a chip off the mesh, 20 a chip named twice or a processor set that is empty or has a bit above 19, 21 row key bit outside the mask, 26 room for fewer rows than one a chip, or
  -- starts not one more than chips, in that order, after 7."
  abbrev pub tree_refusals : ℕ → ℕ → List Refusal
  tree_refusals rowsRoom startsRoom =
      refuse (not (size_fine width height)) 7 ∷ refuse (not (ltb source (height * width) && all_there (height * width) (targets_of words))) 19
      ∷ refuse (named_again [] (targets_of words) || not (sets_fine (targets_of words))) 20
      ∷ refuse (not (used key mask)) 21
      ∷ refuse (ltb rowsRoom (3 * (height * width)) || not (eqb startsRoom (height * width + 1))) 26
      ∷ []

  abbrev pub grown_tree : Grown
  grown_tree = tree_to width height source (targets_of words)

  module _ (rows starts : List ℕ) where
    abbrev pub refusal_of : ℕ
    refusal_of = first_of (tree_refusals (length rows) (length starts))

    -- How many rows there are, over all chips.
    abbrev pub tree_of : Tree
    tree_of = cond (eqb refusal_of 0) (record { refusal = 0; rows = start_of grown_tree (height * width) }) (record { refusal = refusal_of; rows = 0 })

    -- What follows the rows stays as it was; where the call is refused all does.
    abbrev pub rows_after : List ℕ
    rows_after =
        cond (eqb refusal_of 0)
        (rows_below grown_tree key mask (height * width) ++ drop (length (rows_below grown_tree key mask (height * width))) rows)
        rows

    abbrev pub starts_after : List ℕ
    starts_after = cond (eqb refusal_of 0) (starts_below grown_tree (height * width + 1)) starts
