-- No rule of the model, but what the steps of asking and building promise each other.
use Rattle.std.specs.Prelude.{ℕ, ◌+◌, ◌≤◌, ◌<◌, ◌≡◌, Bool, false, not, cond, List, eqb, length, get_or, take, set}
use Rattle.groups.specs.Groups.{top_of, is_in, marks_of}

-- The marks are 1 for the top bytes in a list, each of them there once, and 0 for all others.
pub record Asked (marks tops : List ℕ) : Type 0 where
  pub bits : (g : ℕ) → g < 256 → get_or marks g 0 ≡ cond (is_in g tops) 1 0
  pub small : (k : ℕ) → k < length tops → get_or tops k 0 < 256
  pub once : (k : ℕ) → k < length tops → is_in (get_or tops k 0) (take k tops) ≡ false

-- One key asks: its group's mark is set, and its top byte joins the list where it was not there.
abbrev pub is_asked : List ℕ → ℕ → Bool
is_asked marks key = not (eqb (get_or marks (top_of key) 0) 0)

abbrev pub marks_asked : List ℕ → ℕ → List ℕ
marks_asked marks key = cond (is_asked marks key) marks (set marks (top_of key) 1)

abbrev pub tops_asked : List ℕ → List ℕ → ℕ → ℕ → List ℕ
tops_asked marks tops count key = cond (is_asked marks key) tops (set tops count (top_of key))

abbrev pub count_asked : List ℕ → ℕ → ℕ → ℕ
count_asked marks count key = cond (is_asked marks key) count (count + 1)

-- Some keys have asked: theirs are the marks, and the first so many of a list are their top bytes.
pub record Asking (keys marks listed : List ℕ) (count : ℕ) : Type 0 where
  pub marked : marks ≡ marks_of keys
  pub tops : Asked marks (take count listed)
  pub few : count ≤ length keys
