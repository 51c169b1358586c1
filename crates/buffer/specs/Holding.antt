-- Which buffers hold a mesh: "exactly when it is long enough and each stored number is within this document's range ... and each packet in
-- flight is .. right in length and parity, not NN with T = 1." Every type is used.
use Rattle.std.specs.Prelude.{ℕ, zero, suc, ◌<◌, ◌≤◌, Bool, true, ◌&&◌, List, length, drop, nat_le, nat_lt, slice_index}
use Rattle.tables.specs.Sizes.{size_fine}
use Rattle.lists.specs.Lists.{part}
use Rattle.links.specs.Offsets.{width_at, height_at, rounds_at, monitor_at, phase_at, elapsed_at, header_long, state_at, held_at, places_at, place_long, link_long, registers_long, chip_long, chip_place, link_place}
use Rattle.links.specs.Words.{packet_in}
use Rattle.buffer.specs.Layout.{registers_in, chips_of, words_of}
use Rattle.buffer.specs.ChipWords.{link_words}
use Rattle.buffer.specs.OnePass.{chip_words}
use Rattle.mesh.specs.Mesh.{rounds_fine}
use Rattle.mesh.specs.Sound.{packet_fine, registers_fine}

-- The first n packets of a run of places.
unfoldable pub places_fine : ℕ → List ℕ → Bool
places_fine zero l = true
places_fine (suc n) l = packet_fine (packet_in l) && places_fine n (drop place_long l)

-- "Link states, at most 8 packets a link".
abbrev pub link_fine : List ℕ → Bool
link_fine l = nat_le (slice_index l state_at) 1 && nat_le (slice_index l held_at) 8 && places_fine (slice_index l held_at) (drop places_at l)

abbrev pub chip_fine : List ℕ → Bool
chip_fine l =
    registers_fine (registers_in (part 0 registers_long l)) && link_fine (part (link_place 0) link_long l) && link_fine (part (link_place 1) link_long l) && link_fine (part (link_place 2) link_long l)
    && link_fine (part (link_place 3) link_long l)
    && link_fine (part (link_place 4) link_long l)
    && link_fine (part (link_place 5) link_long l)

-- The n chips from number c on.
unfoldable pub chips_fine : ℕ → ℕ → List ℕ → Bool
chips_fine c zero l = true
chips_fine c (suc n) l = chip_fine (part (chip_place c) chip_long l) && chips_fine (suc c) n l

-- "Sizes, F, phase, rounds in the phase, monitor".
abbrev pub head_fine : List ℕ → Bool
head_fine l =
    size_fine (slice_index l width_at) (slice_index l height_at) && rounds_fine (slice_index l rounds_at) && nat_le (slice_index l monitor_at) 19 && nat_le (slice_index l phase_at) 3 && nat_lt (slice_index l elapsed_at) (slice_index l rounds_at)

abbrev pub holds_mesh : List ℕ → Bool
holds_mesh l =
    nat_le header_long (length l) && head_fine l && nat_le (words_of l) (length l) && chips_fine 0 (chips_of l) l

-- What the mesh read from the words does not tell: every link's state word is 0 or 1.
abbrev pub StatesFine : List ℕ → Type 0
StatesFine l = (c j : ℕ) → c < chips_of l → j < 6 → slice_index (link_words j (chip_words c l)) state_at ≤ 1
