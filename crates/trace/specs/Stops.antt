-- "Stops at the first refusal, giving its number, the record's first byte": where a replay is, by its own answer.
use Rattle.std.specs.Prelude.{ℕ, ◌-◌, ◌<◌, ◌≡◌, Bool, cond, List, eqb, length, drop}
use Rattle.mesh.specs.Mesh.{Mesh}
use Rattle.mesh.specs.Lending.{Tables}
use Rattle.mesh.specs.Steps.{same}
use Rattle.records.specs.Records.{record_read}
use Rattle.records.specs.Traces.{trace_of}
use Rattle.trace.specs.Replay.{making, Replay, replaying, replay_of, replay_room}

-- What the record at the start of s is refused with, or 0: its own number first, then its call's.
abbrev pub number_at : Bool → Tables → Mesh (Unit {0}) → ℕ → List ℕ → ℕ
number_at holds t m room s = let r = record_read s in cond (eqb r.refusal 0) (making holds t same tt m room r.call).refusal r.refusal

-- With no refusal it is at the end. With one it is at the first byte of a record that is there, and that record, on the mesh and with the log that are left, is
-- refused with that number.
pub record StoppedRight (holds : Bool) (t : Tables) (room : ℕ) (s : List ℕ) (r : Replay) : Type 0 where
  pub ended : r.refusal ≡ 0 → r.at ≡ length s
  pub within : (r.refusal ≡ 0 → ⊥) → r.at < length s
  pub number : (r.refusal ≡ 0 → ⊥) → number_at holds t r.mesh (room - length r.log) (drop r.at s) ≡ r.refusal

abbrev pub Stops : Type 0
Stops = (holds : Bool) (t : Tables) (m : Mesh (Unit {0})) (room : ℕ) (s : List ℕ) → StoppedRight holds t room s (replaying holds t m room (trace_of s))

-- A replay that stopped at its first record leaves the room for groups as it came; so does one of no bytes.
abbrev pub RoomAsItCame : Type 0
RoomAsItCame = (t : Tables) (s l : List ℕ) (log : ℕ) (room : List ℕ) → (replay_of l t log s).at ≡ 0 → replay_room l t log s room ≡ room
