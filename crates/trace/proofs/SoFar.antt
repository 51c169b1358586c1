-- A replay on its way: what one record does, what the records up to a byte have done, and what is left for those from there on.
use mathlib.Core.Path.{◌≡◌, refl, sym, ap, ◌∙◌}
use mathlib.Core.Bool.{Bool, true, false, cond}
use mathlib.Core.List.{List, []}
use Prim.Native.Nat.{ℕ, ◌-◌, ◌*◌, ◌≤◌, ◌<◌}
use native.Mathlib.Nat.{zero-add}
use native.Mathlib.Omega.{arith}
use lib.Dec.{eqb}
use lib.ListN.{length, get_or, take, drop}
use borrow.Author.Tests.{eq-eqb, ne_eqb, eqb-true}
use Rattle.packet.specs.Refusal.{first_of}
use Rattle.buffer.specs.Layout.{mesh_of, words_for}
use Rattle.buffer.specs.Holding.{holds_mesh}
use Rattle.mesh.specs.Lending.{Tables}
use Rattle.mesh.specs.Steps.{same}
use Rattle.mesh.specs.Refusals.{tables_refusals, place_in}
use Rattle.mesh.specs.Calls.{Left}
use Rattle.buffer.specs.Testing.{tested_of}
use Rattle.records.specs.Records.{record_read}
use Rattle.records.specs.Traces.{trace_of}
use Rattle.records.proofs.Traces.{trace_step, trace_stop}
use Rattle.trace.specs.Replay.{made_left, Replay, stopped, behind, replaying, replay_of, one_left}
use Rattle.trace.proofs.KeptSizes.{Keeps, keeps_made}
use Rattle.links.specs.Offsets.{width_at, height_at}

-- What a replay of the bytes s does on a buffer l with so much room, from where it stands.
abbrev pub onward : Tables → List ℕ → ℕ → List ℕ → Replay
onward t l room s = replaying (holds_mesh l) t (mesh_of l) room (trace_of s)

-- ---- one record

module _ (t : Tables) (s l : List ℕ) (room : ℕ) where
  abbrev choice : Bool → Left (Unit {0})
  choice b = cond b (made_left l t room (record_read s).call) (record { refusal = (record_read s).refusal; place = 0; mesh = mesh_of l; log = [] })

  -- where it is accepted, the record was read, and its call is made
  pub accepted_record : (one_left t s l room).refusal ≡ 0 → ((record_read s).refusal ≡ 0) × (one_left t s l room ≡ made_left l t room (record_read s).call)
  accepted_record = go (eqb (record_read s).refusal 0) refl
    where
      go : (b : Bool) → eqb (record_read s).refusal 0 ≡ b → (choice b).refusal ≡ 0 → ((record_read s).refusal ≡ 0) × (choice b ≡ made_left l t room (record_read s).call)
      go true e z = (eqb-true _ _ e, refl)
      go false e z = absurd (mathlib.Core.Bool.false≢true (sym e ∙ eq-eqb (record_read s).refusal 0 z))

  pub keeps_one : Keeps (holds_mesh l) (mesh_of l) (one_left t s l room)
  keeps_one = go (eqb (record_read s).refusal 0) refl
    where
      go : (b : Bool) → eqb (record_read s).refusal 0 ≡ b → Keeps (holds_mesh l) (mesh_of l) (choice b)
      go true e = keeps_made (holds_mesh l) t same tt (mesh_of l) room (record_read s).call
      go false e =
          record {
            width = refl;
            height = refl;
            sixes = refl;
            there = λ z. absurd (mathlib.Core.Bool.false≢true (sym e ∙ eq-eqb (record_read s).refusal 0 z));
            none = λ some. refl;
          }

  module _ (more : 0 < length s) where
    -- the replay goes on behind it
    pub onward_step : (one_left t s l room).refusal ≡ 0
        → onward t l room s
        ≡ behind (record_read s).length (one_left t s l room).log
        (replaying (holds_mesh l) t (one_left t s l room).mesh (room - length (one_left t s l room).log) (trace_of (drop (record_read s).length s)))
    unfolding replaying
    onward_step e =
        let h = accepted_record e in
        let x = made_left l t room (record_read s).call in
        let none : x.refusal ≡ 0 = ap (λ (y : Left (Unit {0})). y.refusal) (sym h.1) ∙ e in
        let rest = trace_of (drop (record_read s).length s) in
        let after : Left (Unit {0}) → Replay = λ y. behind (record_read s).length y.log (replaying (holds_mesh l) t y.mesh (room - length y.log) rest) in
        ap (replaying (holds_mesh l) t (mesh_of l) room) (trace_step s more h.0)
        ∙ ap (λ (b : Bool). cond b (after x) (stopped x.refusal x.place (mesh_of l))) (eq-eqb x.refusal 0 none)
        ∙ ap after (sym h.1)

    -- the replay stops before it
    pub onward_stop : ((one_left t s l room).refusal ≡ 0 → ⊥) → onward t l room s ≡ stopped (one_left t s l room).refusal (one_left t s l room).place (mesh_of l)
    unfolding replaying
    onward_stop some = go (eqb (record_read s).refusal 0) refl some
      where
        go : (b : Bool) → eqb (record_read s).refusal 0 ≡ b → ((choice b).refusal ≡ 0 → ⊥) → onward t l room s ≡ stopped (choice b).refusal (choice b).place (mesh_of l)
        go false e none = ap (replaying (holds_mesh l) t (mesh_of l) room) (trace_stop s more none)
        go true e none =
            let x = made_left l t room (record_read s).call in
            ap (replaying (holds_mesh l) t (mesh_of l) room) (trace_step s more (eqb-true _ _ e))
            ∙ ap (λ (b : Bool). cond b (behind (record_read s).length x.log (replaying (holds_mesh l) t x.mesh (room - length x.log) (trace_of (drop (record_read s).length s)))) (stopped x.refusal x.place (mesh_of l))) (ne_eqb x.refusal 0 none)

-- ---- the way

module _ (t : Tables) (s l₀ log₀ : List ℕ) where
  -- The records before byte `at` have left l and log, with so many records added.
  pub record SoFar (l log : List ℕ) (at added : ℕ) : Type 0 where
    pub within : at ≤ length s
    pub room : added * 6 ≤ length log
    pub long : length l ≡ length l₀
    pub log_long : length log ≡ length log₀
    pub width : get_or l width_at 0 ≡ get_or l₀ 0 0
    pub height : get_or l height_at 0 ≡ get_or l₀ 1 0
    pub holds : holds_mesh l ≡ holds_mesh l₀
    pub untold : drop (added * 6) log ≡ drop (added * 6) log₀
    pub left : replay_of l₀ t (length log₀) s ≡ behind at (take (added * 6) log) (onward t l (length (drop (added * 6) log)) (drop at s))
    pub past : drop (words_for (get_or l₀ 0 0) (get_or l₀ 1 0)) l ≡ drop (words_for (get_or l₀ 0 0) (get_or l₀ 1 0)) l₀
    pub untouched : at ≡ 0 → l ≡ l₀

  -- what was tested once still holds
  pub tested_still : (l log : List ℕ) (at added : ℕ) → SoFar l log at added → tested_of l₀ t ≡ tested_of l t
  tested_still l log at added h =
      let same-holds = sym h.holds in
      let same_width_lem = sym h.width in
      let same-height = sym h.height in
      let number : ℕ → ℕ = λ n. first_of (tables_refusals t n) in
      λ i. record {
        holds = same-holds i;
        tables = cond (same-holds i) (number (same-height i * same_width_lem i)) 0;
        place = cond (same-holds i) (place_in t (same-height i * same_width_lem i) (number (same-height i * same_width_lem i))) 0;
      }

-- nothing has been done
pub begun : (t : Tables) (s l log : List ℕ) → SoFar t s l log l log 0 0
begun t s l log =
    record {
      within = omega arith;
      room = omega arith;
      long = refl;
      log_long = refl;
      width = refl;
      height = refl;
      holds = refl;
      untold = refl;
      left = λ i. record { refusal = (onward t l (length log) s).refusal; place = (onward t l (length log) s).place; at = sym (zero-add (onward t l (length log) s).at) i; mesh = (onward t l (length log) s).mesh; log = (onward t l (length log) s).log };
      past = refl;
      untouched = λ e. refl;
    }
