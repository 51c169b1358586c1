-- The room for groups: "answers, mesh and log are the same as with no room". A call that is not refused for the room, 29, does and answers what it does and answers where its tables are lent
-- without room, refusals of any other number among it, so that every promise holds with either, mixed as a caller likes.
use Rattle.std.specs.Prelude.{ℕ, ◌≡◌, Bool, List}
use Rattle.packet.specs.Refusal.{first_of}
use Rattle.tables.specs.Tables.{ChipTables}
use Rattle.steps.specs.declared.Setting.{Setting}
use Rattle.router.specs.Call.{pass_refusals, pass_of}
use Rattle.mesh.specs.Mesh.{Mesh}
use Rattle.mesh.specs.Lending.{Tables, tables_of}
use Rattle.mesh.specs.Asked.{Call, change, look, inject, round, set_link, read_registers, left_by, answer_of}
use Rattle.records.specs.Traces.{Trace}
use Rattle.trace.specs.Replay.{replaying}

abbrev pub without_room : Tables → Tables
without_room t = tables_of t.rows t.starts t.codes t.fixed 0

-- The same call, with no room lent.
abbrev pub plainly : Call → Call
plainly (change (inject chip bytes t log)) = change (inject chip bytes (without_room t) log)
plainly (change (round t log)) = change (round (without_room t) log)
plainly (change (set_link chip link up)) = change (set_link chip link up)
plainly (change (read_registers chip)) = change (read_registers chip)
plainly (look l) = look l

-- A call on a mesh: what it leaves, mesh and log, and what it answers.
abbrev pub AtACall : Type 1
AtACall = (A : Type 0) (turn : A → A) (tag : A) (m : Mesh A) (c : Call) → ((left_by turn tag m c).refusal ≡ 29 → ⊥)
    → (left_by turn tag m c ≡ left_by turn tag m (plainly c)) × (answer_of turn tag m c ≡ answer_of turn tag m (plainly c))

-- A replay, wherever and for whatever else it stops.
abbrev pub AtAReplay : Type 0
AtAReplay = (holds : Bool) (t : Tables) (m : Mesh (Unit {0})) (log : ℕ) (s : Trace) → ((replaying holds t m log s).refusal ≡ 29 → ⊥) → replaying holds t m log s ≡ replaying holds (without_room t) m log s

-- The one-router call.
abbrev pub AtOneRouter : Type 0
AtOneRouter = (bytes : List ℕ) (source : ℕ) (tables : ChipTables) (t : Setting) (room : ℕ) → (first_of (pass_refusals bytes source tables t room) ≡ 29 → ⊥) → pass_of bytes source tables t room ≡ pass_of bytes source tables t 0

pub record RoomCountsForNothing : Type 1 where
  pub call : AtACall
  pub replay : AtAReplay
  pub router : AtOneRouter
