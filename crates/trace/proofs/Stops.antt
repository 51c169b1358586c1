-- Where a replay stops, record by record.
use mathlib.Core.Path.{◌≡◌, refl, sym, ap, ◌∙◌, subst}
use mathlib.Core.Bool.{Bool, true, false, cond}
use mathlib.Core.List.{List, ◌++◌}
use Prim.Native.Nat.{ℕ, zero, suc, ◌-◌, ◌≤◌, ◌<◌}
use native.Mathlib.Omega.{arith}
use lib.Dec.{eqb}
use lib.ListN.{length, drop, length-append, length-drop}
use lib.Seq.{drop-drop}
use borrow.Author.Tests.{eq-eqb, ne_eqb, eqb-true, eqb-false}
use Rattle.mesh.specs.Mesh.{Mesh}
use Rattle.mesh.specs.Lending.{Tables}
use Rattle.mesh.specs.Steps.{same}
use Rattle.mesh.specs.Calls.{Left}
use Rattle.records.specs.Records.{record_read}
use Rattle.records.specs.Traces.{trace_of}
use Rattle.records.proofs.Traces.{read_within, trace_over, trace_step, trace_stop}
use Rattle.trace.specs.Replay.{making, Replay, stopped, behind, replaying}
use Rattle.trace.specs.Stops.{number_at, StoppedRight, Stops}

module _ (holds : Bool) (t : Tables) where
  -- a replay that stops before the record at its start
  stopped_right : (m : Mesh (Unit {0})) (room : ℕ) (s : List ℕ) (n p : ℕ) → 0 < length s → (n ≡ 0 → ⊥) → number_at holds t m room s ≡ n → StoppedRight holds t room s (stopped n p m)
  stopped_right m room s n p more some e =
      let whole : room - 0 ≡ room = omega arith in
      record { ended = λ z. absurd (some z); within = λ z. more; number = λ z. ap (λ (k : ℕ). number_at holds t m k s) whole ∙ e }

  -- a replay that goes on behind it
  behind_right : (room : ℕ) (s : List ℕ) (k : ℕ) (log : List ℕ) (r : Replay) → k ≤ length s → StoppedRight holds t (room - length log) (drop k s) r
      → StoppedRight holds t room s (behind k log r)
  behind_right room s k log r fits h =
      record {
        ended = λ z. omega (arith, h.ended z, length-drop k s);
        within = λ z. omega (arith, h.within z, length-drop k s);
        number = λ z.
            let left : room - length (log ++ r.log) ≡ room - length log - length r.log = omega (arith, length-append log r.log) in
            (λ i. number_at holds t r.mesh (left i) (sym (drop-drop r.at k s) i)) ∙ h.number z;
      }

  stops_from : (n : ℕ) (s : List ℕ) → length s ≤ n → (m : Mesh (Unit {0})) (room : ℕ) → StoppedRight holds t room s (replaying holds t m room (trace_of s))
  unfolding replaying
  stops_from zero s h m room =
      subst (λ tr. StoppedRight holds t room s (replaying holds t m room tr)) (sym (trace_over s (omega arith)))
      (record { ended = λ z. omega arith; within = λ z. absurd (z refl); number = λ z. absurd (z refl) })
  stops_from (suc n) s h m room = none (eqb (length s) 0) refl (λ u v w k. stops_from n u v w k)
    where
      x : Left (Unit {0})
      x = making holds t same tt m room (record_read s).call

      accepted : (more : 0 < length s) → (record_read s).refusal ≡ 0 → ((u : List ℕ) → length u ≤ n → (w : Mesh (Unit {0})) (k : ℕ) → StoppedRight holds t k u (replaying holds t w k (trace_of u)))
          → (b : Bool) → eqb (making holds t same tt m room (record_read s).call).refusal 0 ≡ b
          → StoppedRight holds t room s
          (cond b (behind (record_read s).length (making holds t same tt m room (record_read s).call).log (replaying holds t (making holds t same tt m room (record_read s).call).mesh (room - length (making holds t same tt m room (record_read s).call).log) (trace_of (drop (record_read s).length s))))
          (stopped (making holds t same tt m room (record_read s).call).refusal (making holds t same tt m room (record_read s).call).place m))
      accepted more read later true e =
          let within = read_within s read in
          behind_right room s (record_read s).length x.log _ within.1 (later (drop (record_read s).length s) (rw length-drop (omega arith)) x.mesh (room - length x.log))
      accepted more read later false e =
          stopped_right m room s x.refusal x.place more (eqb-false _ _ e)
          (ap (λ (b : Bool). cond b x.refusal (record_read s).refusal) (eq-eqb (record_read s).refusal 0 read))

      some : 0 < length s → ((u : List ℕ) → length u ≤ n → (w : Mesh (Unit {0})) (k : ℕ) → StoppedRight holds t k u (replaying holds t w k (trace_of u)))
          → (b : Bool) → eqb (record_read s).refusal 0 ≡ b → StoppedRight holds t room s (replaying holds t m room (trace_of s))
      some more later true e =
          subst (λ tr. StoppedRight holds t room s (replaying holds t m room tr)) (sym (trace_step s more (eqb-true _ _ e)))
          (accepted more (eqb-true _ _ e) later (eqb x.refusal 0) refl)
      some more later false e =
          subst (λ tr. StoppedRight holds t room s (replaying holds t m room tr)) (sym (trace_stop s more (eqb-false _ _ e)))
          (stopped_right m room s (record_read s).refusal 0 more (eqb-false _ _ e)
          (ap (λ (b : Bool). cond b x.refusal (record_read s).refusal) (ne_eqb (record_read s).refusal 0 (eqb-false _ _ e))))

      none : (b : Bool) → eqb (length s) 0 ≡ b → ((u : List ℕ) → length u ≤ n → (w : Mesh (Unit {0})) (k : ℕ) → StoppedRight holds t k u (replaying holds t w k (trace_of u)))
          → StoppedRight holds t room s (replaying holds t m room (trace_of s))
      none true e later =
          let empty = eqb-true (length s) 0 e in
          subst (λ tr. StoppedRight holds t room s (replaying holds t m room tr)) (sym (trace_over s empty))
          (record { ended = λ z. sym empty; within = λ z. absurd (z refl); number = λ z. absurd (z refl) })
      none false e later =
          let other = eqb-false (length s) 0 e in
          some (positive (length s) other) later (eqb (record_read s).refusal 0) refl
        where
          positive : (k : ℕ) → (k ≡ 0 → ⊥) → 0 < k
          positive zero z = absurd (z refl)
          positive (suc k) z = omega arith

pub stops : Stops
stops holds t m room s = stops_from holds t (length s) s (omega arith) m room
