-- Sequences of calls of any kind. A replay is the calls that it makes, so that a sequence is the history of all the calls on the mesh that are made in it; and runs of
-- the program, step by step as the calls' contracts say.
use Rattle.std.specs.Prelude.{ℕ, ◌-◌, ◌*◌, ◌≡◌, true, cond, eqb, length, take}
use mathlib.Core.List.{List, [], ◌∷◌, ◌++◌, foldl}
use Rattle.packet.specs.Refusal.{first_of}
use Rattle.mesh.specs.Mesh.{Mesh}
use Rattle.buffer.specs.Layout.{mesh_of}
use Rattle.buffer.specs.Holding.{holds_mesh}
use Rattle.mesh.specs.Lending.{Tables}
use Rattle.mesh.specs.Steps.{same}
use Rattle.buffer.specs.Leaving.{Gives}
use Rattle.buffer.specs.Opening.{open_refusals, opening}
use Rattle.flood.specs.Codes.{flood_refusal, flooded}
use Rattle.records.specs.declared.Call.{Call as KeptCall}
use Rattle.records.specs.Records.{by_kind, packet_of}
use Rattle.records.specs.Traces.{Trace, over, refused, then, trace_of}
use Rattle.trace.specs.declared.Replayed.{Replayed}
use Rattle.trace.specs.Replay.{making, replaying, replay_of, replayed_of, Replays}
use Rattle.mesh.specs.Asked.{Call, inject, round, set_link, read_registers, change, Answer, of_added, of_refusal, of_registers, of_look, left_by, answer_of}
use Rattle.promises.specs.History.{State, turned, tag_now, after, begun}
use Rattle.promises.specs.Told.{plain}

-- A kept call with its tables and a log of so many numbers.
abbrev pub asked_of : Tables → ℕ → KeptCall → Call
asked_of t room c =
    change (by_kind c.kind (inject c.chip (packet_of c) t room) (round t room) (set_link c.chip c.link (eqb c.up 1)) (read_registers c.chip))

-- The calls that a replay makes on a mesh: "each with the rest of the log, and stops at the first refusal". The one that is refused is among them; it
-- changes nothing. A record that cannot be read makes no call.
unfoldable pub calls_in : Tables → Mesh (Unit {0}) → ℕ → Trace → List Call
calls_in t m room over = []
calls_in t m room (refused n) = []
calls_in t m room (then c n rest) =
    let r = making true t same tt m room c in
    asked_of t room c ∷ cond (eqb r.refusal 0) (calls_in t r.mesh (room - length r.log) rest) []

-- The calls that are lent no mesh: the needed length, reading, packing, one pass alone, a search, a record of a trace written or read, a table made fewer, a tree grown. Here it counts only
-- that they are lent none; what each answers is settled by its own contract (`Determined`).
pub data NoMesh : Type 0 where
  size : NoMesh
  read : NoMesh
  pack : NoMesh
  pass : NoMesh
  find : NoMesh
  write_record : NoMesh
  read_record : NoMesh
  fewer : NoMesh
  tree : NoMesh

-- What stands anywhere in a sequence and does nothing to the mesh: these, a flood, which is lent it to read and writes the codes that it is lent, and an opening that is refused. One that is
-- accepted begins another history.
pub data Apart : Type 0 where
  lent_none : NoMesh → Apart
  flood : (codes : List ℕ) → Apart
  open_refused : (width height rounds monitor : ℕ) → Apart

pub data Step : Type 0 where
  call : Call → Step
  replay : (trace : List ℕ) (t : Tables) (room : ℕ) → Step
  apart : Apart → Step

abbrev pub calls_by : State → Step → List Call
calls_by s (call c) = c ∷ []
calls_by s (replay trace t room) = calls_in t (plain s.mesh) room (trace_of trace)
calls_by s (apart a) = []

abbrev pub stepped : State → Step → State
stepped s x = foldl after s (calls_by s x)

unfoldable pub sequence : ℕ → ℕ → ℕ → ℕ → List Step → State
sequence width height rounds monitor xs = foldl stepped (begun width height rounds monitor) xs

-- All the calls that are made in a sequence, in order.
unfoldable pub made_in : State → List Step → List Call
made_in s [] = []
made_in s (x ∷ xs) = calls_by s x ++ made_in (stepped s x) xs

-- ---- answers

-- What the steps that are lent a mesh answer, but for a flood and an opening that is refused.
pub data Reply : Type 0 where
  to_call : Answer → Reply
  to_replay : Replayed → Reply

-- In a history: by its own mesh, tags and all. What reading registers hands over is among them.
abbrev pub answers_by : State → Step → List Reply
answers_by s (call c) = to_call (answer_of turned (tag_now s c) s.mesh c) ∷ []
answers_by s (replay trace t room) = to_replay (replayed_of (replaying true t (plain s.mesh) room (trace_of trace))) ∷ []
answers_by s (apart a) = []

unfoldable pub answers_of : State → List Step → List Reply
answers_of s [] = []
answers_of s (x ∷ xs) = answers_by s x ++ answers_of (stepped s x) xs

-- ---- runs of the program

-- How many records an answer says were added to the log; only an injection and a round are lent one.
abbrev pub added_in : Answer → ℕ
added_in (of_added a) = a.added
added_in (of_refusal n) = 0
added_in (of_registers r) = 0
added_in (of_look x) = 0

-- A call on a buffer that holds a mesh, by its contract: the buffer before and after, the log as it was lent and as it came back, and the answer.
abbrev pub Called : List ℕ → List ℕ → List ℕ → List ℕ → Answer → Call → Type 0
Called before after lent written answer c = Gives Answer (answer_of same tt (mesh_of before) c) before lent (left_by same tt (mesh_of before) c) answer after written

-- A buffer before, some steps, and, each by its contract: the buffer that they may leave, the records that they may add to their logs, joined, and what they may answer.
pub data Run : List ℕ → List Step → List ℕ → List ℕ → List Reply → Type 0 where
  ended : {l : List ℕ} → Run l [] l [] []
  called : {before between behind log : List ℕ} {xs : List Step} {answers : List Reply} {c : Call} (lent written : List ℕ) (answer : Answer) → Called before between lent written answer c
      → Run between xs behind log answers
      → Run before (call c ∷ xs) behind (take (added_in answer * 6) written ++ log) (to_call answer ∷ answers)
  replayed : {before between behind log : List ℕ} {xs : List Step} {answers : List Reply} {trace : List ℕ} {t : Tables} {room : ℕ} (lent written : List ℕ) (answer : Replayed) → length lent ≡ room
      → Replays before between lent written answer (replay_of before t room trace)
      → Run between xs behind log answers
      → Run before (replay trace t room ∷ xs) behind (take (answer.added * 6) written ++ log) (to_replay answer ∷ answers)
  aside : {before behind log : List ℕ} {xs : List Step} {answers : List Reply} {a : NoMesh} → Run before xs behind log answers
      → Run before (apart (lent_none a) ∷ xs) behind log answers
  floods : {before behind log : List ℕ} {xs : List Step} {answers : List Reply} {codes : List ℕ} (refusal : ℕ) (written : List ℕ)
      → refusal ≡ flood_refusal (holds_mesh before) (mesh_of before) codes
      → written ≡ flooded (holds_mesh before) (mesh_of before) codes
      → Run before xs behind log answers
      → Run before (apart (flood codes) ∷ xs) behind log answers
  not_opened : {before between behind log : List ℕ} {xs : List Step} {answers : List Reply} {w h f monitor : ℕ} (refusal : ℕ) → refusal ≡ first_of (open_refusals (length before) w h f monitor)
      → (refusal ≡ 0 → ⊥)
      → between ≡ opening refusal before w h f monitor
      → Run between xs behind log answers
      → Run before (apart (open_refused w h f monitor) ∷ xs) behind log answers
