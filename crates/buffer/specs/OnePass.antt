-- One pass at a chip of a mesh's words.
use Rattle.std.specs.Prelude.{◌≡◌, ℕ, ◌+◌, ◌<◌, ◌≤◌, ◌⊎◌, List, length, take, drop, slice_index, slice_index_or}
use Rattle.packet.specs.declared.Packet.{Packet}
use Rattle.steps.specs.declared.Outcome.{Outcome}
use Rattle.steps.specs.declared.Setting.{Setting}
use Rattle.lists.specs.Lists.{part}
use Rattle.links.specs.Offsets.{width_at, height_at, monitor_at, phase_at, header_long, chip_long, chip_place}
use Rattle.links.specs.LinkWords.{still}
use Rattle.links.specs.Link.{ready_links}
use Rattle.buffer.specs.Layout.{chip_in, mesh_of, chips_of, words_of}
use Rattle.mesh.specs.Steps.{chip_after, with_chip}
use Rattle.buffer.specs.ChipWords.{link_words}

-- the words of chip k
abbrev pub chip_words : ℕ → List ℕ → List ℕ
chip_words k l = part (chip_place k) chip_long l

-- The chip's setting: the mesh's size, monitor and phase, and the chip's own ready set.
abbrev pub setting_in : List ℕ → ℕ → Setting
setting_in l chip =
    record { width = slice_index l width_at; height = slice_index l height_at; monitor = slice_index l monitor_at; phase = slice_index l phase_at; ready = ready_links (chip_in (chip_words chip l)).links }

-- What is checked before a pass at a chip.
pub record CheckedAt (l : List ℕ) (chip source : ℕ) (p : Packet) (codes : List ℕ) : Type 0 where
  pub fits : chip_place chip + chip_long ≤ length l
  pub there : chip < chips_of l
  pub from : (source < 6) ⊎ (source ≡ 7)
  pub control : p.control < 256
  pub width : slice_index_or l width_at 0 ≤ 12
  pub height : slice_index_or l height_at 0 ≤ 12
  pub monitor : slice_index_or l monitor_at 0 < 20
  pub phase : slice_index_or l phase_at 0 ≤ 3
  pub enough : chips_of l ≤ length codes

-- A mesh's words before and after a pass at a chip: the mesh is as the pass leaves it; the links' states, what is set aside, and the words
-- past the mesh are as they were.
pub record MeshStep (before after : List ℕ) (chip : ℕ) (o : Outcome) : Type 0 where
  pub long : length after ≡ length before
  pub head : take header_long after ≡ take header_long before
  pub mesh : mesh_of after ≡ with_chip (mesh_of before) chip (chip_after o tt (chip_in (chip_words chip before)))
  pub still : (c j : ℕ) → j < 6 → still (link_words j (chip_words c after)) ≡ still (link_words j (chip_words c before))
  pub past : drop (words_of before) after ≡ drop (words_of before) before
