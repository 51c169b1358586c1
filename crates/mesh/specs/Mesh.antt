-- What a mesh is: chips in rows, six directed links a chip.
use Rattle.std.specs.Prelude.{ℕ, ◌*◌, List, Bool, ◌&&◌, get_or, replicate, leb}
use Rattle.kept.specs.declared.Registers.{Registers}
use Rattle.kept.specs.declared.Counters.{Counters}
use Rattle.kept.specs.Keeping.{empty}
use Rattle.kept.specs.Counting.{zeros}
use Rattle.links.specs.Link.{Link, idle, ready_links}

pub record Chip (A : Type 0) : Type 0 where
  pub registers : Registers
  pub counters : Counters
  pub links : List (Link A)

-- `rounds` is F, the rounds in a phase; `elapsed` is how many of the running phase are over.
pub record Mesh (A : Type 0) : Type 0 where
  pub width : ℕ
  pub height : ℕ
  pub rounds : ℕ
  pub monitor : ℕ
  pub phase : ℕ
  pub elapsed : ℕ
  pub chips : List (Chip A)

-- "F, the rounds in a phase, is 1 to 65,535."
abbrev pub rounds_fine : ℕ → Bool
rounds_fine rounds = leb 1 rounds && leb rounds 65535

module _ {A : Type 0} where
  -- "Links open up", and registers and counters at zeros.
  abbrev pub fresh : Chip A
  fresh = record { registers = empty; counters = zeros; links = replicate 6 idle }

  -- "... and phase opens at 00."
  abbrev pub opened : ℕ → ℕ → ℕ → ℕ → Mesh A
  opened width height rounds monitor =
      record {
        width = width;
        height = height;
        rounds = rounds;
        monitor = monitor;
        phase = 0;
        elapsed = 0;
        chips = replicate (height * width) fresh;
      }

  abbrev pub many : Mesh A → ℕ
  many m = m.height * m.width

  abbrev pub chip_of : Mesh A → ℕ → Chip A
  chip_of m chip = get_or m.chips chip fresh

  abbrev pub link_of : Mesh A → ℕ → ℕ → Link A
  link_of m chip link = get_or (chip_of m chip).links link idle

  -- The links of a chip that are ready: "this is worked out afresh at each pass".
  abbrev pub ready_of : Mesh A → ℕ → ℕ
  ready_of m chip = ready_links (chip_of m chip).links
