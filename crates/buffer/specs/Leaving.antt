-- The calls on a buffer: what each leaves, and what it does to the memory that is lent to it, word by word.
use Rattle.std.specs.Prelude.{◌≡◌, ℕ, ◌+◌, Bool, true, cond, List, length, drop, ◌==◌, ◌≢◌, nat_lt, slice_index, slice_set}
use Rattle.buffer.specs.Layout.{mesh_of, chips_of, words_of}
use Rattle.buffer.specs.Holding.{holds_mesh}
use Rattle.links.specs.Offsets.{rounds_at, phase_at, elapsed_at, state_at}
use Rattle.links.specs.Phase.{next_phase}
use Rattle.links.specs.LinkWords.{state_of}
use Rattle.mesh.specs.Lending.{Tables}
use Rattle.mesh.specs.Steps.{same}
use Rattle.mesh.specs.declared.Added.{Added}
use Rattle.packet.specs.Refusal.{first_of}
use Rattle.mesh.specs.Weights.{in_flight}
use Rattle.mesh.specs.Room.{room_after_round}
use Rattle.mesh.specs.Refusals.{round_refusals}
use Rattle.mesh.specs.Calls.{Left, added_of, logged_on, injecting, rounding, linking, emptying}

-- A mesh buffer before and after a call that leaves r. "A refusal returns its number ..., and lent memory stays as it came." "Each buffer left by opening
-- or by an accepted call holds one [a mesh]". Words past the needed length are never touched.
pub record Leaves (before after : List ℕ) (r : Left (Unit {0})) : Type 0 where
  pub refused : (r.refusal ≢ 0) → after ≡ before
  pub mesh : r.refusal ≡ 0 → mesh_of after ≡ r.mesh
  pub holds : r.refusal ≡ 0 → holds_mesh after ≡ true
  pub long : length after ≡ length before
  pub past : drop (words_of before) after ≡ drop (words_of before) before

-- A call that is lent a mesh and a log, where by the definition it leaves r and answers told: its answer, the buffer and every word of the log.
pub record Gives (A : Type 0) (told : A) (before log : List ℕ) (r : Left (Unit {0})) (answer : A) (after written : List ℕ) : Type 0 where
  pub answered : answer ≡ told
  pub buffer : Leaves before after r
  pub logged : written ≡ logged_on r.log log

-- An injection or a round, and any kept call made like one: it answers its refusal and how many records it added.
abbrev pub Moves : List ℕ → List ℕ → Left (Unit {0}) → Added → List ℕ → List ℕ → Type 0
Moves before log r answer after written = Gives Added (added_of r) before log r answer after written

abbrev pub inject_left : List ℕ → Tables → ℕ → ℕ → List ℕ → Left (Unit {0})
inject_left l t room chip bytes = injecting (holds_mesh l) t same (mesh_of l) room chip bytes tt

abbrev pub round_left : List ℕ → Tables → ℕ → Left (Unit {0})
round_left l t room = rounding (holds_mesh l) t same (mesh_of l) room

-- What a round does to the room for groups: "a refused call leaves the room as it came".
abbrev pub round_room : List ℕ → Tables → ℕ → List ℕ → List ℕ
round_room l t log room = cond (first_of (round_refusals (holds_mesh l) (chips_of l) (in_flight (mesh_of l)) t log) == 0) (room_after_round t (mesh_of l) room) room

abbrev pub link_left : List ℕ → ℕ → ℕ → Bool → Left (Unit {0})
link_left l chip link up = linking (holds_mesh l) (mesh_of l) chip link up

abbrev pub registers_left : List ℕ → ℕ → Left (Unit {0})
registers_left l chip = emptying (holds_mesh l) (mesh_of l) chip

-- The words after a round: the phase steps on after each F rounds.
abbrev pub over_words : List ℕ → List ℕ
over_words l = cond (nat_lt (slice_index l elapsed_at + 1) (slice_index l rounds_at)) (slice_set l elapsed_at (slice_index l elapsed_at + 1)) (slice_set (slice_set l elapsed_at 0) phase_at (next_phase (slice_index l phase_at)))

-- A link's words with its state set.
abbrev pub state_on : Bool → ℕ → List ℕ → List ℕ
state_on up j w = slice_set w state_at (state_of up)
