-- The rows of a tree, chips by number, as injection and round take them.
use Rattle.std.specs.Prelude.{ℕ, zero, suc, ◌+◌, ◌^◌, Bool, cond, not, List, [], ◌∷◌, eqb, ltb, get_or}
use Rattle.lists.specs.Lists.{up_to}
use Rattle.tree.specs.Growing.{Grown}

-- "A chip passed straight through, with no processor and no branch, gets no row; the source always gets one." "Straight through is out by the link of the same number as the one it was
-- sent by." A chip outside the tree, entered by 7, has none.
abbrev pub needs_row : ℕ → ℕ → Bool
needs_row entered route = cond (ltb entered 6) (not (eqb route (2 ^ entered))) (eqb entered 6)

module _ (t : Grown) where
  abbrev pub entered_at : ℕ → ℕ
  entered_at chip = get_or t.entered chip 0

  abbrev pub route_at : ℕ → ℕ
  route_at chip = get_or t.routes chip 0

  abbrev pub has_row : ℕ → Bool
  has_row chip = needs_row (entered_at chip) (route_at chip)

  -- How many rows the chips below a number have: where its own start.
  unfoldable pub start_of : ℕ → ℕ
  start_of zero = 0
  start_of (suc chip) = start_of chip + cond (has_row chip) 1 0

  module _ (key mask : ℕ) where
    -- A row is key, mask and route.
    abbrev pub row_of : ℕ → List ℕ
    row_of chip = cond (has_row chip) (key ∷ mask ∷ route_at chip ∷ []) []

    -- The rows of the chips below a number.
    abbrev pub rows_below : ℕ → List ℕ
    rows_below chips = up_to row_of chips

  -- "One more number than chips": the last is the number of rows.
  abbrev pub starts_below : ℕ → List ℕ
  starts_below n = up_to (λ chip. start_of chip ∷ []) n
