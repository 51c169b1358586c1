-- No rule of the model, but what the steps of a flood promise each other. One destination's marks, one a chip: the fewest links of a way to it.
use Rattle.std.specs.Prelude.{ℕ, ◌+◌, ◌*◌, ◌/◌, ◌%◌, ◌<◌, ◌≡◌, Bool, true, false, cond, ◌&&◌, List, eqb, ltb, length, get_or, Option, MatchOption}
use Rattle.tables.specs.Sizes.{size_fine}
use Rattle.lists.specs.Firsts.{first_below}
use Rattle.mesh.specs.Mesh.{Mesh, many}
use Rattle.flood.specs.Ways.{is_up, beyond, within, fewest}

module _ {A : Type 0} (m : Mesh A) where
  -- Where a link leads, 255 where it is down.
  abbrev pub lead_of : ℕ → ℕ → ℕ
  lead_of chip i = cond (is_up m chip i) (beyond m chip i) 255

  -- A chip's mark after so many levels, 255 while none has reached it.
  abbrev pub mark_after : ℕ → ℕ → ℕ → ℕ
  mark_after to k chip = cond (within m to k chip) (fewest m chip to) 255

  -- A mesh of so many chips whose up links lead where the numbers say, six a chip.
  pub record Around (all : ℕ) (around : List ℕ) : Type 0 where
    pub size : size_fine m.width m.height ≡ true
    pub many_here : many m ≡ all
    pub each : (chip i : ℕ) → chip < all → i < 6 → get_or around (chip * 6 + i) 0 ≡ lead_of chip i

-- ---- on the numbers

abbrev pub is_below : List ℕ → ℕ → ℕ → Bool
is_below marks level lead = ltb lead 144 && ltb (get_or marks lead 0) level

module _ (around marks : List ℕ) where
  -- The lowest link to a mark below a level, 6 where there is none.
  abbrev pub first_on : ℕ → ℕ → ℕ
  first_on level chip = first_below (λ i. is_below marks level (get_or around (chip * 6 + i) 0)) 6

  -- Whether a level marks a chip, and the mark after it.
  abbrev pub is_next : ℕ → ℕ → Bool
  is_next level chip = eqb (get_or marks chip 0) 255 && ltb (first_on level chip) 6

  abbrev pub marked_on : ℕ → ℕ → ℕ
  marked_on level chip = cond (is_next level chip) level (get_or marks chip 0)

  -- A chip's code by the marks.
  abbrev pub code_on : ℕ → ℕ
  code_on chip = cond (eqb (get_or marks chip 0) 0) 7 (cond (eqb (get_or marks chip 0) 255) 6 (first_on (get_or marks chip 0) chip))

-- The lowest link by its number, where 6 stands for none.
abbrev pub IsFirst : ℕ → Option ℕ → Type 0
IsFirst n r = MatchOption r (n ≡ 6) (λ i. (n ≡ i) × (i < 6))

-- The marks after a level, and whether it marked any chip.
pub record Spread (around : List ℕ) (all level : ℕ) (before after : List ℕ) (more : Bool) : Type 0 where
  pub long : length after ≡ 144
  pub each : (c : ℕ) → c < all → get_or after c 0 ≡ marked_on around before level c
  pub still : more ≡ false → (c : ℕ) → c < all → get_or after c 0 ≡ get_or before c 0

-- The codes with those for one destination written: that of chip c stands at place c * all + to.
pub record Column (all to : ℕ) (code : ℕ → ℕ) (before after : List ℕ) : Type 0 where
  pub long : length after ≡ length before
  pub written : (k : ℕ) → k < all * all → k % all ≡ to → get_or after k 0 ≡ code (k / all)
  pub others : (k : ℕ) → (k % all ≡ to → ⊥) → get_or after k 0 ≡ get_or before k 0
