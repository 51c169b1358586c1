-- What happens in a mesh: a pass at a chip, an injection, a round. A pass is that of the router, with the chip's own ready set, tables and phase.
use Rattle.std.specs.Prelude.{ℕ, zero, suc, ◌+◌, ◌*◌, cond, ltb, get_or, set}
use mathlib.Core.List.{List, [], ◌∷◌, ◌++◌, map, foldl}
use Rattle.packet.specs.declared.Packet.{Packet}
use Rattle.steps.specs.declared.Outcome.{Outcome}
use Rattle.steps.specs.declared.Setting.{Setting}
use Rattle.steps.specs.Links.{processors_of}
use Rattle.steps.specs.Deciding.{outcome_of}
use Rattle.kept.specs.Keeping.{kept_of}
use Rattle.kept.specs.Counting.{counted_of}
use Rattle.links.specs.Link.{Flight, Link, idle, link_after}
use Rattle.links.specs.Across.{across, opposite}
use Rattle.links.specs.Phase.{next_phase}
use Rattle.mesh.specs.Mesh.{Chip, Mesh, fresh, ready_of}
use Rattle.mesh.specs.Lending.{Tables, tables_at}

-- "A pass that hands a packet to at least one processor adds one log record of six 32-bit numbers: chip, processor set (bit k for processor k), error
-- flags (1 parity, 2 age, 4 length, 8 bad local, added), control byte, word, payload or 0."
abbrev pub log_of : ℕ → Outcome → List ℕ
log_of chip o =
    cond (ltb o.wanted 64) []
    (chip ∷ processors_of o.wanted ∷ o.errors ∷ o.packet.control ∷ o.packet.word ∷ o.packet.payload ∷ [])

-- A packet that is about to pass: at which chip, from which source.
pub record Arrival (A : Type 0) : Type 0 where
  pub chip : ℕ
  pub source : ℕ
  pub flight : Flight A

-- A mesh on its way, and the log so far.
pub record Going (A : Type 0) : Type 0 where
  pub mesh : Mesh A
  pub log : List ℕ

-- The code's tags have one value, which no sending changes.
abbrev pub same : Unit {0} → Unit {0}
same u = u

module _ {A : Type 0} where
  -- A mesh that sets out: nothing is logged yet.
  abbrev pub set_out : Mesh A → Going A
  set_out m = record { mesh = m; log = [] }

  -- ---- one pass

  abbrev pub setting_at : Mesh A → ℕ → Setting
  setting_at m chip = record { width = m.width; height = m.height; monitor = m.monitor; phase = m.phase; ready = ready_of m chip }

  abbrev pub outcome_at : Tables → Mesh A → ℕ → ℕ → Packet → Outcome
  outcome_at t m chip source p = outcome_of p source (tables_at t (m.height * m.width) chip) (setting_at m chip)

  unfoldable pub links_after : Outcome → A → ℕ → List (Link A) → List (Link A)
  links_after o tag i [] = []
  links_after o tag i (l ∷ ls) = link_after o tag i l ∷ links_after o tag (suc i) ls

  abbrev pub chip_after : Outcome → A → Chip A → Chip A
  chip_after o tag c =
      record { registers = kept_of c.registers o; counters = counted_of c.counters o; links = links_after o tag 0 c.links }

  abbrev pub with_chips : Mesh A → List (Chip A) → Mesh A
  with_chips m chips =
      record {
        width = m.width;
        height = m.height;
        rounds = m.rounds;
        monitor = m.monitor;
        phase = m.phase;
        elapsed = m.elapsed;
        chips = chips;
      }

  abbrev pub with_chip : Mesh A → ℕ → Chip A → Mesh A
  with_chip m chip c = with_chips m (set m.chips chip c)

  -- ---- what a round begins and ends with

  -- "A round takes exactly what was in flight when it began, all of it set aside first".
  abbrev pub emptied : Link A → Link A
  emptied l = record { up = l.up; held = [] }

  abbrev pub emptied_chip : Chip A → Chip A
  emptied_chip c = record { registers = c.registers; counters = c.counters; links = map emptied c.links }

  abbrev pub set_aside : Mesh A → Mesh A
  set_aside m = with_chips m (map emptied_chip m.chips)

  -- What arrives at a chip by a link was sent by the link opposite, from the chip across.
  abbrev pub arriving_by : Mesh A → ℕ → ℕ → List (Arrival A)
  arriving_by m chip source =
      map (λ (f : Flight A). record { chip = chip; source = source; flight = f })
      (get_or (get_or m.chips (across m.width m.height chip source) fresh).links (opposite source) idle).held

  -- "... chips by number y*W + x, arrival links 0 to 5, oldest first".
  abbrev pub arriving_at : Mesh A → ℕ → List (Arrival A)
  arriving_at m chip =
      arriving_by m chip 0 ++ arriving_by m chip 1 ++ arriving_by m chip 2 ++ arriving_by m chip 3 ++ arriving_by m chip 4 ++ arriving_by m chip 5

  unfoldable pub arriving_from : Mesh A → ℕ → ℕ → List (Arrival A)
  arriving_from m chip zero = []
  arriving_from m chip (suc n) = arriving_at m chip ++ arriving_from m (suc chip) n

  abbrev pub arrivals : Mesh A → List (Arrival A)
  arrivals m = arriving_from m 0 (m.height * m.width)

  -- "... then, after each F rounds, the phase steps on."
  abbrev pub round_over : Mesh A → Mesh A
  round_over m =
      record {
        width = m.width;
        height = m.height;
        rounds = m.rounds;
        monitor = m.monitor;
        phase = cond (ltb (m.elapsed + 1) m.rounds) m.phase (next_phase m.phase);
        elapsed = cond (ltb (m.elapsed + 1) m.rounds) (m.elapsed + 1) 0;
        chips = m.chips;
      }

  module _ (t : Tables) (turn : A → A) where
    abbrev pub pass_at : Going A → Arrival A → Going A
    pass_at g a =
        let o = outcome_at t g.mesh a.chip a.source a.flight.packet in
        record {
          mesh = with_chip g.mesh a.chip (chip_after o (turn a.flight.tag) (get_or g.mesh.chips a.chip fresh));
          log = g.log ++ log_of a.chip o;
        }

    -- "Injection passes a local packet at once."
    abbrev pub injected : Mesh A → ℕ → Flight A → Going A
    injected m chip f = pass_at (set_out m) (record { chip = chip; source = 7; flight = f })

    abbrev pub passed : Mesh A → Going A
    passed m = foldl pass_at (set_out (set_aside m)) (arrivals m)

    abbrev pub rounded : Mesh A → Going A
    rounded m = record { mesh = round_over (passed m).mesh; log = (passed m).log }
