-- Passes one after the other, as the code makes them: the mesh's words, the log, and how many records the log has.
use Rattle.std.specs.Prelude.{◌≡◌, ℕ, ◌+◌, ◌*◌, ◌<◌, ◌≤◌, true, List, ◌++◌, map, length, take, drop, slice_index, slice_index_or}
use mathlib.Core.List.{foldl}
use Rattle.packet.specs.declared.Packet.{Packet}
use Rattle.links.specs.Offsets.{width_at, height_at, header_long, aside_at}
use Rattle.links.specs.Link.{Flight}
use Rattle.links.specs.Across.{across, opposite}
use Rattle.links.specs.Words.{aside_in}
use Rattle.links.specs.LinkWords.{still}
use Rattle.buffer.specs.Layout.{mesh_of, chips_of, words_of}
use Rattle.steps.specs.Deciding.{outcome_of}
use Rattle.tables.specs.Tables.{ChipTables}
use Rattle.mesh.specs.Mesh.{fresh}
use Rattle.mesh.specs.Steps.{Arrival, Going, setting_at, with_chip, chip_after, log_of, same}
use Rattle.buffer.specs.ChipWords.{link_words}
use Rattle.buffer.specs.OnePass.{chip_words}
use Rattle.buffer.specs.Holding.{head_fine}
use Rattle.lists.specs.Lists.{All, up_to}
use Rattle.mesh.specs.Sound.{Arrives}

abbrev pub arrival : ℕ → ℕ → Packet → Arrival (Unit {0})
arrival chip source p = record { chip = chip; source = source; flight = record { packet = p; tag = tt } }

-- What was set aside for a chip on the link opposite to the one that it arrives by: its words; the packets; those on all six links.
abbrev pub aside_for : List ℕ → ℕ → ℕ → List ℕ
aside_for l chip source = link_words (opposite source) (chip_words (across (slice_index l width_at) (slice_index l height_at) chip source) l)

abbrev pub aside_by : List ℕ → ℕ → ℕ → List (Arrival (Unit {0}))
aside_by l chip source =
    map (λ (f : Flight (Unit {0})). record { chip = chip; source = source; flight = f }) (aside_in (aside_for l chip source))

abbrev pub aside_from : List ℕ → ℕ → List (Arrival (Unit {0}))
aside_from l chip = up_to (aside_by l chip) 6

-- No link has set more than 8 aside.
abbrev pub AsideFew : List ℕ → Type 0
AsideFew l = (c j : ℕ) → c < chips_of l → j < 6 → slice_index (link_words j (chip_words c l)) aside_at ≤ 8

-- The mesh on its way, and the log's first n records.
abbrev pub going_in : List ℕ → List ℕ → ℕ → Going (Unit {0})
going_in mesh log n = record { mesh = mesh_of mesh; log = take (n * 6) log }

-- A pass at a chip by the chip's own tables.
abbrev pub pass_by : ChipTables → Going (Unit {0}) → Arrival (Unit {0}) → Going (Unit {0})
pass_by own g a =
    let o = outcome_of a.flight.packet a.source own (setting_at g.mesh a.chip) in
    record {
      mesh = with_chip g.mesh a.chip (chip_after o (same a.flight.tag) (slice_index_or g.mesh.chips a.chip fresh));
      log = g.log ++ log_of a.chip o;
    }

-- What is known before some arrivals pass: the log has room for a record of each.
pub record Due (due : List (Arrival (Unit {0}))) (mesh log : List ℕ) (n : ℕ) : Type 0 where
  pub head : head_fine mesh ≡ true
  pub long : words_of mesh ≤ length mesh
  pub room : n * 6 + length due * 6 ≤ length log
  pub each : All (Arrives (chips_of mesh)) due

-- The same where the arrivals are what was set aside.
pub record DueAside (aside : List (Arrival (Unit {0}))) (mesh log : List ℕ) (n : ℕ) : Type 0 where
  pub due : Due aside mesh log n
  pub few : AsideFew mesh

-- Words and log before and after some arrivals have passed, in order: by all tables that are lent, or by one chip's.
pub record Passed (step : Going (Unit {0}) → Arrival (Unit {0}) → Going (Unit {0})) (due : List (Arrival (Unit {0}))) (mesh log : List ℕ) (n : ℕ) (mesh' log' : List ℕ) (n' : ℕ) : Type 0 where
  pub long : length mesh' ≡ length mesh
  pub head : take header_long mesh' ≡ take header_long mesh
  pub going : going_in mesh' log' n' ≡ foldl step (going_in mesh log n) due
  pub still : (c j : ℕ) → j < 6 → still (link_words j (chip_words c mesh')) ≡ still (link_words j (chip_words c mesh))
  pub past : drop (words_of mesh) mesh' ≡ drop (words_of mesh) mesh
  pub room : length log' ≡ length log
  pub behind : drop (n' * 6) log' ≡ drop (n' * 6) log
  pub more : n ≤ n'
  pub few : n' ≤ n + length due
