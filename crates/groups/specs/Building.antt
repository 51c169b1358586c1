-- No rule of the model, but what the steps of building promise each other of the room.
use Rattle.std.specs.Prelude.{ℕ, suc, ◌+◌, ◌*◌, ◌≤◌, ◌<◌, ◌≡◌, true, false, cond, List, eqb, length, get_or, set, take}
use Rattle.tables.specs.Rows.{Entry}
use Rattle.groups.specs.Groups.{group_of, is_in, room_for}

-- How many of the first i rows are in group g.
abbrev pub sofar : List Entry → ℕ → ℕ → ℕ
sofar rows i g = length (group_of (take i rows) g)

-- Top bytes, each there once.
pub record Listed (tops : List ℕ) : Type 0 where
  pub small : (k : ℕ) → k < length tops → get_or tops k 0 < 256
  pub once : (k : ℕ) → k < length tops → is_in (get_or tops k 0) (take k tops) ≡ false

-- There is a word for one number more of group g: each group has n words.
pub record PutFits (room : List ℕ) (n g : ℕ) : Type 0 where
  pub few : n ≤ 1024
  pub small : g < 256
  pub fits : room_for n ≤ length room
  pub free : get_or room g 0 ≤ n

-- The number is put behind the others of its group, where the group is asked for.
abbrev pub after_put : List ℕ → ℕ → ℕ → ℕ → List ℕ
after_put room n g number =
    cond (eqb (get_or room g 0) 0) room (set (set room (256 + g * n + get_or room g 0) number) g (get_or room g 0 + 1))

-- The first `many g` row numbers of each group g that is listed stand where they belong, and its word is one more than they are.
pub record Placed (tops : List ℕ) (rows : List Entry) (many : ℕ → ℕ) (room : List ℕ) : Type 0 where
  pub words : (g : ℕ) → g < 256 → get_or room g 0 ≡ cond (is_in g tops) (suc (many g)) 0
  pub there : (g k : ℕ) → g < 256 → is_in g tops ≡ true → k < many g → get_or room (257 + g * length rows + k) 0 ≡ get_or (group_of rows g) k 0

-- A word behind the groups' own, where no such number stands.
abbrev pub Unwritten : List ℕ → ℕ → (ℕ → ℕ) → ℕ → Type 0
Unwritten tops n many j = (g k : ℕ) → g < 256 → is_in g tops ≡ true → k < many g → j ≡ 257 + g * n + k → ⊥

-- Such words are as they were.
pub record Kept (tops : List ℕ) (n : ℕ) (many : ℕ → ℕ) (room₀ room : List ℕ) : Type 0 where
  pub same : (j : ℕ) → 256 ≤ j → Unwritten tops n many j → get_or room j 0 ≡ get_or room₀ j 0
