-- The room for groups through the turns of a replay: at its start, one record more, the first that is refused, the end.
use mathlib.Core.Path.{◌≡◌, refl, sym, ap, ◌∙◌}
use mathlib.Core.List.{List}
use Prim.Native.Nat.{ℕ, ◌+◌, ◌-◌, ◌*◌, ◌≤◌, ◌<◌}
use native.Mathlib.Omega.{arith}
use lib.ListN.{length, take, drop, length-drop}
use Rattle.mesh.specs.Lending.{Tables}
use Rattle.buffer.specs.Layout.{mesh_of}
use Rattle.buffer.specs.Holding.{holds_mesh}
use Rattle.records.proofs.Traces.{trace_over}
use Rattle.trace.specs.declared.replaying.Done.{Done}
use Rattle.trace.specs.Replay.{room_replaying, replay_room, one_left, OneDone, one_room}
use Rattle.trace.proofs.SoFar.{SoFar}
use Rattle.trace.proofs.Replays.{back_in, part_rest, d, some_left, fine, onward_left}
use Rattle.trace.proofs.Rooms.{room_step, room_stop, room_refused}

module _ (t : Tables) (s l₀ log₀ room₀ : List ℕ) where
  -- The records before byte `at` have left the room: as long as it came, and what the others make of it is what all make of what it first held.
  pub record RoomSoFar (l log room : List ℕ) (at added : ℕ) : Type 0 where
    pub long : length room ≡ length room₀
    pub left : replay_room l₀ t (length log₀) s room₀ ≡ replay_room l t (length (drop (added * 6) log)) (drop at s) room

pub room_begun : (t : Tables) (s l log room : List ℕ) → RoomSoFar t s l log room l log room 0 0
room_begun t s l log room = record { long = refl; left = refl }

module _ (t : Tables) (s l₀ log₀ room₀ l log room : List ℕ) (at added : ℕ) (h : SoFar t s l₀ log₀ l log at added) (g : RoomSoFar t s l₀ log₀ room₀ l log room at added) where
  pub room_at_the_end : length s ≤ at → room ≡ replay_room l₀ t (length log₀) s room₀
  unfolding room_replaying
  room_at_the_end e =
      sym (g.left ∙ ap (λ tr. room_replaying (holds_mesh l) t (mesh_of l) (length (drop (added * 6) log)) tr room) (trace_over (drop at s) (simp length-drop (omega arith))))

  module _ (more : at < length s) (l₁ w₁ : List ℕ) (done : Done)
      (lent : OneDone t (take (length s - at) (drop at s)) l (take (length log - added * 6) (drop (added * 6) log)) l₁ w₁ done)
      (room₁ : List ℕ) (e : room₁ ≡ one_room t (take (length s - at) (drop at s)) l (length (take (length log - added * 6) (drop (added * 6) log))) room) where
    one : room₁ ≡ one_room t (drop at s) l (length (drop (added * 6) log)) room
    one = e ∙ (λ i. one_room t (part_rest at s i) l (length (part_rest (added * 6) log i)) room)

    pub room_stopped : (done.refusal ≡ 0 → ⊥) → room₁ ≡ replay_room l₀ t (length log₀) s room₀
    room_stopped some =
        let none : (one_left t (drop at s) l (length (drop (added * 6) log))).refusal ≡ 0 → ⊥ = λ z. some ((d t s l₀ log₀ l log at added h more l₁ w₁ done lent).refusal ∙ z) in
        one ∙ sym (room_refused t (drop at s) l (length (drop (added * 6) log)) room none)
        ∙ sym (room_stop t (drop at s) l (length (drop (added * 6) log)) room (some_left t s l₀ log₀ l log at added h more l₁ w₁ done lent) none)
        ∙ sym g.left

    pub room_more : done.refusal ≡ 0 → length w₁ ≡ length (take (length log - added * 6) (drop (added * 6) log)) → length room₁ ≡ length room
        → RoomSoFar t s l₀ log₀ room₀ l₁ (back_in log (added * 6) w₁) room₁ (at + done.length) (added + done.added)
    room_more none same long =
        let rest = length (drop (added * 6) log) in
        record {
          long = long ∙ g.long;
          left = g.left
              ∙ room_step t (drop at s) l rest room (some_left t s l₀ log₀ l log at added h more l₁ w₁ done lent) (fine t s l₀ log₀ l log at added h more l₁ w₁ done lent none same)
              ∙ onward_left t s l₀ log₀ l log at added h more l₁ w₁ done lent none same (λ held m k tr. room_replaying held t m k tr (one_room t (drop at s) l rest room))
              ∙ ap (replay_room l₁ t (length (drop ((added + done.added) * 6) (back_in log (added * 6) w₁))) (drop (at + done.length) s)) (sym one);
        }
