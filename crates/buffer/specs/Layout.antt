-- How a mesh is read from its buffer of 32-bit words: a header, then a block for each chip. docs/LAYOUT.md has the same in a table.
use Rattle.std.specs.Prelude.{ℕ, zero, suc, ◌+◌, ◌*◌, List, [], ◌∷◌, slice_index}
use Rattle.kept.specs.declared.Registers.{Registers}
use Rattle.lists.specs.Lists.{part}
use Rattle.links.specs.Offsets.{width_at, height_at, rounds_at, monitor_at, phase_at, elapsed_at, header_long, link_long, registers_long, counters_long, counters_at, chip_long, chip_place, link_place}
use Rattle.links.specs.Words.{link_in}
use Rattle.mesh.specs.Mesh.{Chip, Mesh}

-- The error registers in their nine words, and the words of registers.
abbrev pub registers_in : List ℕ → Registers
registers_in l =
    record {
      control = slice_index l 0;
      word = slice_index l 1;
      payload = slice_index l 2;
      link = slice_index l 3;
      leg = slice_index l 4;
      more = slice_index l 5;
      source = slice_index l 6;
      phase = slice_index l 7;
      units = slice_index l 8;
    }

abbrev pub register_words : Registers → List ℕ
register_words r = r.control ∷ r.word ∷ r.payload ∷ r.link ∷ r.leg ∷ r.more ∷ r.source ∷ r.phase ∷ r.units ∷ []

-- A chip's block: registers, ten counters, six links.
abbrev pub chip_in : List ℕ → Chip (Unit {0})
chip_in l =
    record {
      registers = registers_in (part 0 registers_long l);
      counters = record { count = part counters_at counters_long l };
      links = link_in (part (link_place 0) link_long l) ∷ link_in (part (link_place 1) link_long l) ∷ link_in (part (link_place 2) link_long l) ∷ link_in (part (link_place 3) link_long l)
          ∷ link_in (part (link_place 4) link_long l)
          ∷ link_in (part (link_place 5) link_long l)
          ∷ [];
    }

-- The n chips from number c on.
unfoldable pub chips_in : ℕ → ℕ → List ℕ → List (Chip (Unit {0}))
chips_in c zero l = []
chips_in c (suc n) l = chip_in (part (chip_place c) chip_long l) ∷ chips_in (suc c) n l

-- How many chips the mesh in a buffer has.
abbrev pub chips_of : List ℕ → ℕ
chips_of l = slice_index l height_at * slice_index l width_at

-- The header: width, height, rounds in a phase, monitor, phase, rounds over in the phase.
unfoldable pub mesh_of : List ℕ → Mesh (Unit {0})
mesh_of l =
    record {
      width = slice_index l width_at;
      height = slice_index l height_at;
      rounds = slice_index l rounds_at;
      monitor = slice_index l monitor_at;
      phase = slice_index l phase_at;
      elapsed = slice_index l elapsed_at;
      chips = chips_in 0 (chips_of l) l;
    }

-- The words that a mesh needs, which W and H alone decide.
abbrev pub words_for : ℕ → ℕ → ℕ
words_for width height = header_long + height * width * chip_long

-- Those that the mesh in a buffer needs.
abbrev pub words_of : List ℕ → ℕ
words_of l = words_for (slice_index l width_at) (slice_index l height_at)
