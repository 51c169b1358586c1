-- "Mesh and joined log equal those of the calls made directly": the calls of a trace made one after another, and what a replay has in common with them.
use Rattle.std.specs.Prelude.{ℕ, ◌+◌, ◌*◌, ◌≡◌, List, ◌++◌, eqb, length, take, drop}
use Rattle.mesh.specs.declared.Added.{Added}
use Rattle.mesh.specs.declared.RegistersRead.{RegistersRead}
use Rattle.buffer.specs.Layout.{mesh_of, words_of}
use Rattle.buffer.specs.Holding.{holds_mesh}
use Rattle.mesh.specs.Lending.{Tables}
use Rattle.mesh.specs.Calls.{registers_read}
use Rattle.buffer.specs.Leaving.{Leaves, Moves, inject_left, round_left, link_left, registers_left}
use Rattle.records.specs.declared.Call.{Call}
use Rattle.records.specs.Records.{packet_of}
use Rattle.records.specs.Traces.{Trace, over, refused, then, trace_of}
use Rattle.trace.specs.declared.Replayed.{Replayed}
use Rattle.trace.specs.Replay.{replay_of, Replays}

-- One kept call made by itself, by the contract of the call that it is: injection, round, link change, read of registers. The last two are lent no log
-- and add no record.
pub data Made (t : Tables) (before log : List ℕ) (c : Call) : Added → List ℕ → List ℕ → Type 0 where
  injected : {answer : Added} {after written : List ℕ} → c.kind ≡ 1 → Moves before log (inject_left before t (length log) c.chip (packet_of c)) answer after written
      → Made t before log c answer after written
  rounded : {answer : Added} {after written : List ℕ} → c.kind ≡ 2 → Moves before log (round_left before t (length log)) answer after written
      → Made t before log c answer after written
  changed : {number : ℕ} {after : List ℕ} → c.kind ≡ 3 → number ≡ (link_left before c.chip c.link (eqb c.up 1)).refusal
      → Leaves before after (link_left before c.chip c.link (eqb c.up 1))
      → Made t before log c (record { refusal = number; added = 0; place = 0 }) after log
  registers_handed_over : {read : RegistersRead} {after : List ℕ} → c.kind ≡ 4 → read ≡ registers_read (holds_mesh before) (mesh_of before) c.chip
      → Leaves before after (registers_left before c.chip)
      → Made t before log c (record { refusal = read.refusal; added = 0; place = 0 }) after log

-- The calls of a trace, each on the buffer that the one before left, with the same tables and the rest of the log, up to the first that is refused or cannot
-- be read.
pub data Directly (t : Tables) : List ℕ → List ℕ → Trace → List ℕ → List ℕ → Replayed → Type 0 where
  done : {l log : List ℕ} → Directly t l log over l log (record { refusal = 0; at = 0; added = 0; place = 0 })
  unread : {l log : List ℕ} {n : ℕ} → Directly t l log (refused n) l log (record { refusal = n; at = 0; added = 0; place = 0 })
  stops : {l log l₁ log₁ : List ℕ} {c : Call} {n : ℕ} {rest : Trace} {a : Added} → Made t l log c a l₁ log₁ → (a.refusal ≡ 0 → ⊥)
      → Directly t l log (then c n rest) l₁ log₁ (record { refusal = a.refusal; at = 0; added = 0; place = a.place })
  goes : {l log l₁ log₁ l₂ log₂ : List ℕ} {c : Call} {n : ℕ} {rest : Trace} {a : Added} {r : Replayed} → Made t l log c a l₁ log₁ → a.refusal ≡ 0
      → Directly t l₁ (drop (a.added * 6) log₁) rest l₂ log₂ r
      → Directly t l log (then c n rest) l₂ (take (a.added * 6) log₁ ++ log₂) (record { refusal = r.refusal; at = n + r.at; added = a.added + r.added; place = r.place })

-- Two buffers, logs and answers with nothing between them: the same number, first byte and count, the same log, the same mesh, both with one or both without.
pub record Alike (l₁ log₁ : List ℕ) (r₁ : Replayed) (l₂ log₂ : List ℕ) (r₂ : Replayed) : Type 0 where
  pub answer : r₁ ≡ r₂
  pub log : log₁ ≡ log₂
  pub mesh : mesh_of l₁ ≡ mesh_of l₂
  pub holds : holds_mesh l₁ ≡ holds_mesh l₂

-- For every trace, buffer, log and tables.
abbrev pub AsDirectly : Type 0
AsDirectly = (t : Tables) (s l log l₁ log₁ l₂ log₂ : List ℕ) (r₁ r₂ : Replayed) → Directly t l log (trace_of s) l₁ log₁ r₁
    → Replays l l₂ log log₂ r₂ (replay_of l t (length log) s)
    → Alike l₁ log₁ r₁ l₂ log₂ r₂

-- Two replays that meet the contract are alike; the words past the needed length are the same, and all words are where it stopped at its first record.
pub record SameReplay (l l₁ log₁ : List ℕ) (r₁ : Replayed) (l₂ log₂ : List ℕ) (r₂ : Replayed) : Type 0 where
  pub alike : Alike l₁ log₁ r₁ l₂ log₂ r₂
  pub untouched : r₁.at ≡ 0 → l₁ ≡ l₂
  pub past : drop (words_of l) l₁ ≡ drop (words_of l) l₂

abbrev pub OneReplay : Type 0
OneReplay = (t : Tables) (s l log l₁ log₁ l₂ log₂ : List ℕ) (r₁ r₂ : Replayed) → Replays l l₁ log log₁ r₁ (replay_of l t (length log) s)
    → Replays l l₂ log log₂ r₂ (replay_of l t (length log) s)
    → SameReplay l l₁ log₁ r₁ l₂ log₂ r₂
