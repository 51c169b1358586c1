-- "Rows grouped by the top byte of the key where the mask fixes it, other rows in every group, original order kept", and how the groups stand in lent room.
use Rattle.std.specs.Prelude.{ℕ, suc, ◌+◌, ◌*◌, ◌/◌, ◌^◌, ◌≤◌, ◌<◌, Bool, false, not, ◌||◌, cond, List, [], ◌∷◌, ◌++◌, map, ◌≡◌, eqb, length, get_or, drop, Option, Some, None}
use Rattle.lists.specs.Lists.{up_to, part}
use Rattle.tables.specs.Rows.{Entry, matches, blank_entry}

-- "The top byte" of a key or a mask.
abbrev pub top_of : ℕ → ℕ
top_of n = n / 2 ^ 24

-- "Where the mask fixes it": all eight bits of it.
abbrev pub fixes_top : Entry → Bool
fixes_top r = eqb (top_of r.mask) 255

-- A row that fixes the top byte is in that byte's group, "other rows in every group".
abbrev pub in_group : ℕ → Entry → Bool
in_group g r = not (fixes_top r) || eqb (top_of r.key) g

-- The numbers of the rows of group g, of rows that are numbered from i on: "original order kept".
unfoldable pub group_from : ℕ → ℕ → List Entry → List ℕ
group_from g i [] = []
group_from g i (r ∷ rs) = cond (in_group g r) (i ∷ group_from g (suc i) rs) (group_from g (suc i) rs)

abbrev pub group_of : List Entry → ℕ → List ℕ
group_of rows g = group_from g 0 rows

-- ---- which groups are built

unfoldable pub is_in : ℕ → List ℕ → Bool
is_in g [] = false
is_in g (t ∷ ts) = eqb t g || is_in g ts

-- A group is built where one of the keys that are to be looked up asks for it: its mark is then 1, and 0 where none does.
abbrev pub marks_of : List ℕ → List ℕ
marks_of keys = up_to (λ g. cond (is_in g (map top_of keys)) 1 0 ∷ []) 256

abbrev pub asked : List ℕ → ℕ → Bool
asked marks g = not (eqb (get_or marks g 0) 0)

-- ---- how they stand in the room

-- The word of a group: 0 where it is not asked for, else one more than its rows.
abbrev pub group_word : List ℕ → List Entry → ℕ → ℕ
group_word marks rows g = cond (asked marks g) (suc (length (group_of rows g))) 0

-- Its block, as many words as there are rows: the numbers of its rows, and behind them the words as they were.
abbrev pub block_of : List ℕ → List Entry → List ℕ → ℕ → List ℕ
block_of marks rows room g =
    let before = part (257 + g * length rows) (length rows) room in
    cond (asked marks g) (group_of rows g ++ drop (length (group_of rows g)) before) before

-- "What it holds after": a word for each of the 256 groups, one word as it was, a block for each group, and the words behind them as they were.
abbrev pub room_after : List ℕ → List Entry → List ℕ → List ℕ
room_after marks rows room =
    up_to (λ g. group_word marks rows g ∷ []) 256 ++ part 256 1 room ++ up_to (block_of marks rows room) 256 ++ drop (257 + 256 * length rows) room

-- "257 numbers plus 256 for each row".
abbrev pub room_for : ℕ → ℕ
room_for n = 257 + 256 * n

-- Room that holds the group of a key's top byte.
pub record GroupedFor (rows : List Entry) (room : List ℕ) (key : ℕ) : Type 0 where
  pub long : room_for (length rows) ≤ length room
  pub many : get_or room (top_of key) 0 ≡ suc (length (group_of rows (top_of key)))
  pub there : (k : ℕ) → k < length (group_of rows (top_of key)) → get_or room (257 + top_of key * length rows + k) 0 ≡ get_or (group_of rows (top_of key)) k 0

-- The search through the rows that a list of row numbers names.
unfoldable pub first_in : ℕ → List Entry → List ℕ → Option ℕ
first_in key rows [] = None
first_in key rows (i ∷ is) = cond (matches key (get_or rows i blank_entry).key (get_or rows i blank_entry).mask) (Some i) (first_in key rows is)
