-- A history: a mesh that was just opened, and any list of calls, each with all that a caller may hand in. It is the mesh of the calls' contracts,
-- at tags that say of each packet in flight which injection it came from, the packet as it was then, how many rounds had been accepted before
-- that, and how many links it has crossed.
use Rattle.std.specs.Prelude.{ℕ, ◌+◌, ◌*◌, ◌≤◌, ◌≡◌, true, cond, eqb, length, get_or, replicate}
use mathlib.Core.List.{List, [], ◌∷◌, ◌++◌, foldl}
use Rattle.packet.specs.declared.Packet.{Packet}
use Rattle.packet.specs.Bytes.{packet_at, nothing}
use Rattle.steps.specs.declared.Outcome.{Outcome}
use Rattle.steps.specs.declared.Setting.{Setting}
use Rattle.tables.specs.Sizes.{size_fine}
use Rattle.tables.specs.Tables.{ChipTables}
use Rattle.mesh.specs.Mesh.{Chip, Mesh, fresh, opened, rounds_fine}
use Rattle.mesh.specs.Lending.{Tables, tables_at}
use Rattle.mesh.specs.Steps.{Arrival, Going, setting_at, outcome_at, set_aside, arrivals, pass_at, set_out}
use Rattle.mesh.specs.Calls as calls
use Rattle.mesh.specs.Asked.{Call, inject, round, set_link, read_registers, change, look, left_by, is_injection, is_round, handed_in}

-- ---- what a history remembers

-- "Links crossed are counted in that same history: each sending is one crossing, and each copy there is tied to the injection it came from, so that
-- equal bytes stay apart."
pub record Tag : Type 0 where
  pub injection : ℕ
  pub packet : Packet
  pub before : ℕ
  pub crossed : ℕ

-- A sending turns the tag: one link more.
abbrev pub turned : Tag → Tag
turned t = record { injection = t.injection; packet = t.packet; before = t.before; crossed = t.crossed + 1 }

-- What is remembered of a pass: what arrived where, the rounds accepted before, the chip as the pass found it and as it left it, its tables and setting, and all
-- that the pass did (errors, the wanted set with its branches, what was sent, dropped, delivered, swallowed).
pub record Passage : Type 0 where
  pub arrival : Arrival Tag
  pub accepted : ℕ
  pub here : Chip Tag
  pub left : Chip Tag
  pub tables : ChipTables
  pub setting : Setting
  pub outcome : Outcome

-- What happens: a pass, or a chip's registers are read.
pub data Event : Type 0 where
  packet_passed : Passage → Event
  registers_emptied : ℕ → Event

-- What an accepted injection handed in, and how many rounds had been accepted before it.
pub record Given : Type 0 where
  pub packet : Packet
  pub before : ℕ

abbrev pub none_given : Given
none_given = record { packet = nothing; before = 0 }

pub record State : Type 0 where
  pub mesh : Mesh Tag
  -- accepted injections, in order; accepted rounds
  pub given : List Given
  pub accepted : ℕ
  -- what happened, in order, and the records of all accepted calls, joined
  pub events : List Event
  pub log : List ℕ

-- ---- one call

-- The passes of some arrivals, one after the other.
unfoldable pub passages : Tables → ℕ → Going Tag → List (Arrival Tag) → List Event
passages t n g [] = []
passages t n g (a ∷ later) =
    packet_passed (record {
      arrival = a;
      accepted = n;
      here = get_or g.mesh.chips a.chip fresh;
      left = get_or (pass_at t turned g a).mesh.chips a.chip fresh;
      tables = tables_at t (g.mesh.height * g.mesh.width) a.chip;
      setting = setting_at g.mesh a.chip;
      outcome = outcome_at t g.mesh a.chip a.source a.flight.packet;
    })
    ∷ passages t n (pass_at t turned g a) later

-- What happens in a call that is accepted.
abbrev pub events_of : State → Tag → Call → List Event
events_of s tag (change (inject chip bytes t room)) =
    passages t s.accepted (set_out s.mesh) (record { chip = chip; source = 7; flight = record { packet = packet_at bytes; tag = tag } } ∷ [])
events_of s tag (change (round t room)) = passages t s.accepted (set_out (set_aside s.mesh)) (arrivals s.mesh)
events_of s tag (change (read_registers chip)) = registers_emptied chip ∷ []
events_of s tag (change (set_link chip link up)) = []
events_of s tag (look l) = []

-- The tag of a packet that is injected now: the number of the injection is how many there were before.
abbrev pub tag_of : State → Packet → Tag
tag_of s p = record { injection = length s.given; packet = p; before = s.accepted; crossed = 0 }

abbrev pub tag_now : State → Call → Tag
tag_now s c = tag_of s (handed_in c)

-- What an accepted call makes of the state. A refused one changes nothing and counts for nothing.
abbrev pub accepted : State → calls.Left Tag → Call → State
accepted s r c =
    record {
      mesh = r.mesh;
      given = s.given ++ replicate (is_injection c) (record { packet = handed_in c; before = s.accepted });
      accepted = s.accepted + is_round c;
      events = s.events ++ events_of s (tag_now s c) c;
      log = s.log ++ r.log;
    }

unfoldable pub after : State → Call → State
after s c = let r = left_by turned (tag_now s c) s.mesh c in cond (eqb r.refusal 0) (accepted s r c) s

-- ---- the whole

-- A mesh that opening accepts.
pub record Opens (width height rounds monitor : ℕ) : Type 0 where
  pub size : size_fine width height ≡ true
  pub phases : rounds_fine rounds ≡ true
  pub monitored : monitor ≤ 19

abbrev pub begun : ℕ → ℕ → ℕ → ℕ → State
begun width height rounds monitor = record { mesh = opened width height rounds monitor; given = []; accepted = 0; events = []; log = [] }

unfoldable pub history : ℕ → ℕ → ℕ → ℕ → List Call → State
history width height rounds monitor cs = foldl after (begun width height rounds monitor) cs
