-- A replay is the calls that its trace keeps, made one after another: what it leaves, and what it answers.
use Rattle.std.specs.Prelude.{ℕ, ◌+◌, ◌-◌, ◌/◌, ◌≡◌, Bool, cond, List, [], ◌++◌, eqb, length, drop}
use Rattle.mesh.specs.Mesh.{Mesh}
use Rattle.buffer.specs.Layout.{mesh_of, words_of}
use Rattle.buffer.specs.Holding.{holds_mesh}
use Rattle.mesh.specs.Lending.{Tables}
use Rattle.mesh.specs.Steps.{same}
use Rattle.mesh.specs.Room.{room_after_round}
use Rattle.mesh.specs.Calls.{Left, injecting, rounding, linking, emptying, logged_on}
use Rattle.buffer.specs.Leaving.{Leaves}
use Rattle.records.specs.declared.Call.{Call}
use Rattle.records.specs.Records.{by_kind, packet_of, record_read}
use Rattle.records.specs.Traces.{Trace, over, refused, then, trace_of}
use Rattle.trace.specs.declared.Replayed.{Replayed}
use Rattle.trace.specs.declared.replaying.Done.{Done}

-- ---- one call

-- What a kept call leaves, by the definitions that the contracts of the calls cite. What reading registers hands over goes to nobody.
abbrev pub making : {A : Type 0} → Bool → Tables → (A → A) → A → Mesh A → ℕ → Call → Left A
making holds t turn tag m room c =
    by_kind c.kind (injecting holds t turn m room c.chip (packet_of c) tag) (rounding holds t turn m room)
    (linking holds m c.chip c.link (eqb c.up 1))
    (emptying holds m c.chip)

abbrev pub made_left : List ℕ → Tables → ℕ → Call → Left (Unit {0})
made_left l t room c = making (holds_mesh l) t same tt (mesh_of l) room c

-- ---- all of them

-- The number of the first refusal or 0, its place, where it stopped, the mesh and the records added.
pub record Replay : Type 0 where
  pub refusal : ℕ
  pub place : ℕ
  pub at : ℕ
  pub mesh : Mesh (Unit {0})
  pub log : List ℕ

-- Stopped at its first byte, with nothing done.
abbrev pub stopped : ℕ → ℕ → Mesh (Unit {0}) → Replay
stopped refusal place m = record { refusal = refusal; place = place; at = 0; mesh = m; log = [] }

-- The same, behind n bytes and some records of the log.
abbrev pub behind : ℕ → List ℕ → Replay → Replay
behind n log r = record { refusal = r.refusal; place = r.place; at = n + r.at; mesh = r.mesh; log = log ++ r.log }

-- "The replay makes these calls on a lent mesh with one set of tables, each with the rest of the log, and stops at the first refusal, giving its number, the
-- record's first byte and the log records added; what earlier records did stands".
unfoldable pub replaying : Bool → Tables → Mesh (Unit {0}) → ℕ → Trace → Replay
replaying holds t m room over = stopped 0 0 m
replaying holds t m room (refused n) = stopped n 0 m
replaying holds t m room (then c n rest) =
    let r = making holds t same tt m room c in
    cond (eqb r.refusal 0) (behind n r.log (replaying holds t r.mesh (room - length r.log) rest)) (stopped r.refusal r.place m)

abbrev pub replay_of : List ℕ → Tables → ℕ → List ℕ → Replay
replay_of l t room s = replaying (holds_mesh l) t (mesh_of l) room (trace_of s)

-- "... giving its number, the record's first byte and the log records added"; the place is that of the call that was refused.
abbrev pub replayed_of : Replay → Replayed
replayed_of r = record { refusal = r.refusal; at = r.at; added = length r.log / 6; place = r.place }

-- A replay's buffer, log and answer. A replay that stopped at its first record has changed no word; words past the needed length are never touched.
pub record Replays (before after log written : List ℕ) (answer : Replayed) (r : Replay) : Type 0 where
  pub answered : answer ≡ replayed_of r
  pub logged : written ≡ logged_on r.log log
  pub mesh : mesh_of after ≡ r.mesh
  pub holds : holds_mesh after ≡ holds_mesh before
  pub untouched : r.at ≡ 0 → after ≡ before
  pub long : length after ≡ length before
  pub past : drop (words_of before) after ≡ drop (words_of before) before

-- ---- the room for groups

-- What an accepted call leaves in the room for groups: a round what a round leaves, every other call what was there.
abbrev pub room_made : Tables → Mesh (Unit {0}) → Call → List ℕ → List ℕ
room_made t m c room = by_kind c.kind room (room_after_round t m room) room room

-- What it holds after a replay: what its rounds leave there, one after another. The call that is refused leaves it as it came.
unfoldable pub room_replaying : Bool → Tables → Mesh (Unit {0}) → ℕ → Trace → List ℕ → List ℕ
room_replaying holds t m log over room = room
room_replaying holds t m log (refused n) room = room
room_replaying holds t m log (then c n rest) room =
    let r = making holds t same tt m log c in
    cond (eqb r.refusal 0) (room_replaying holds t r.mesh (log - length r.log) rest (room_made t m c room)) room

abbrev pub replay_room : List ℕ → Tables → ℕ → List ℕ → List ℕ → List ℕ
replay_room l t log s room = room_replaying (holds_mesh l) t (mesh_of l) log (trace_of s) room

-- ---- one record, as the code takes it

-- What the record at the start of s leaves.
abbrev pub one_left : Tables → List ℕ → List ℕ → ℕ → Left (Unit {0})
one_left t s l room =
    let r = record_read s in
    cond (eqb r.refusal 0) (made_left l t room r.call) (record { refusal = r.refusal; place = 0; mesh = mesh_of l; log = [] })

pub record OneDone (t : Tables) (s before log after written : List ℕ) (done : Done) : Type 0 where
  pub refusal : done.refusal ≡ (one_left t s before (length log)).refusal
  pub bytes : done.refusal ≡ 0 → done.length ≡ (record_read s).length
  pub added : done.added ≡ length (one_left t s before (length log)).log / 6
  pub place : done.place ≡ (one_left t s before (length log)).place
  pub buffer : Leaves before after (one_left t s before (length log))
  pub logged : written ≡ logged_on (one_left t s before (length log)).log log

-- What a call, and the record at the start of s, leave in the room for groups: where one is refused it stays as it came.
abbrev pub made_room : List ℕ → Tables → ℕ → Call → List ℕ → List ℕ
made_room l t log c room = cond (eqb (made_left l t log c).refusal 0) (room_made t (mesh_of l) c room) room

abbrev pub one_room : Tables → List ℕ → List ℕ → ℕ → List ℕ → List ℕ
one_room t s l log room = cond (eqb (one_left t s l log).refusal 0) (room_made t (mesh_of l) (record_read s).call room) room
