-- How many packets a chip's links hold, by its words.
use Rattle.std.specs.Prelude.{◌≡◌, ℕ, ◌<◌, ◌≤◌, List, length, slice_index}
use Rattle.buffer.specs.Layout.{chip_in}
use Rattle.buffer.specs.ChipWords.{link_words}
use Rattle.mesh.specs.Weights.{on_chip}
use Rattle.links.specs.Offsets.{held_at, chip_long}

abbrev pub chip_flight : List ℕ → ℕ
chip_flight l = on_chip (λ f. 1) (chip_in l)

-- "Every directed link holds at most 8 packets."
pub record Few (l : List ℕ) : Type 0 where
  pub long : length l ≡ chip_long
  pub few : (j : ℕ) → j < 6 → slice_index (link_words j l) held_at ≤ 8
