-- A replay is the calls that it makes, and a sequence of calls and replays is the history of all the calls that are made in it.
use mathlib.Core.Path.{◌≡◌, refl, sym, ap, ◌∙◌, subst}
use mathlib.Core.Bool.{Bool, true, false, cond}
use mathlib.Core.List.{List, [], ◌∷◌, ◌++◌, foldl, append-nil, append_assoc, foldl-append}
use Prim.Native.Nat.{ℕ, ◌-◌}
use lib.Dec.{eqb}
use lib.ListN.{length}
use Rattle.mesh.specs.Mesh.{Mesh}
use Rattle.mesh.specs.Lending.{Tables}
use Rattle.mesh.specs.Steps.{same}
use Rattle.mesh.specs.Calls.{Left}
use Rattle.records.specs.declared.Call.{Call as KeptCall}
use Rattle.records.specs.Records.{packet_of}
use Rattle.records.specs.Traces.{Trace, over, refused, then, trace_of}
use Rattle.trace.specs.Replay.{making, Replay, stopped, behind, replaying, replay_of}
use Rattle.records.proofs.ByKind.{by_made}
use Rattle.mesh.specs.Asked.{Change, Call, inject, round, set_link, read_registers, change, left_by}
use Rattle.promises.specs.History.{Tag, State, turned, tag_now, accepted, after, begun, history}
use Rattle.promises.specs.Told.{plain, plain_left}
use Rattle.promises.specs.Sequence.{Step, asked_of, calls_in, calls_by, stepped, sequence, made_in}
use Rattle.promises.specs.Demand3.{SequenceIsCalls, ReplayIsItsCalls}
use Rattle.promises.proofs.Forgets.{forgetting}

-- ---- all the calls

made_in_lem : (xs : List Step) (s : State) → foldl stepped s xs ≡ foldl after s (made_in s xs)
unfolding made_in
made_in_lem [] s = refl
made_in_lem (x ∷ xs) s = made_in_lem xs (stepped s x) ∙ sym (foldl-append after s (calls_by s x) (made_in (stepped s x) xs))

pub sequence_is_calls : SequenceIsCalls
unfolding sequence history
sequence_is_calls w h f monitor xs = made_in_lem xs (begun w h f monitor)

-- ---- one call of a replay

asked_left : {A : Type 0} (turn : A → A) (tag : A) (m : Mesh A) (t : Tables) (room : ℕ) (c : KeptCall) → left_by turn tag m (asked_of t room c) ≡ making true t turn tag m room c
asked_left turn tag m t room c =
    by_made (λ (x : Change). left_by turn tag m (change x)) c.kind (inject c.chip (packet_of c) t room) (round t room) (set_link c.chip c.link (eqb c.up 1)) (read_registers c.chip)

module _ (s : State) (q : Call) where
  abbrev given : Left Tag
  given = left_by turned (tag_now s q) s.mesh q

  pub after_accepted : eqb given.refusal 0 ≡ true → after s q ≡ accepted s (left_by turned (tag_now s q) s.mesh q) q
  unfolding after
  after_accepted e = ap (λ (b : Bool). cond b (accepted s given q) s) e

  after_refused : eqb given.refusal 0 ≡ false → after s q ≡ s
  unfolding after
  after_refused e = ap (λ (b : Bool). cond b (accepted s given q) s) e

-- ---- all of them

abbrev Told : State → State → Replay → Type 0
Told s s₁ r = (r.mesh ≡ plain s₁.mesh) × (s₁.log ≡ s.log ++ r.log)

replayed_calls : (t : Tables) (tr : Trace) (room : ℕ) (s : State) → Told s (foldl after s (calls_in t (plain s.mesh) room tr)) (replaying true t (plain s.mesh) room tr)
unfolding replaying calls_in
replayed_calls t over room s = (refl, sym (append-nil s.log))
replayed_calls t (refused n) room s = (refl, sym (append-nil s.log))
replayed_calls t (then c n rest) room s = go (eqb (making true t same tt (plain s.mesh) room c).refusal 0) refl (λ u v. replayed_calls t rest u v)
  where
    x : Left (Unit {0})
    x = making true t same tt (plain s.mesh) room c

    q : Call
    q = asked_of t room c

    forgotten : plain_left (left_by turned (tag_now s (asked_of t room c)) s.mesh (asked_of t room c)) ≡ making true t same tt (plain s.mesh) room c
    forgotten = (forgetting Tag turned (tag_now s q) s.mesh q).0 ∙ asked_left same tt (plain s.mesh) t room c

    go : (b : Bool) → eqb (making true t same tt (plain s.mesh) room c).refusal 0 ≡ b
        → ((u : ℕ) (v : State) → Told v (foldl after v (calls_in t (plain v.mesh) u rest)) (replaying true t (plain v.mesh) u rest))
        → Told s
        (foldl after (after s (asked_of t room c)) (cond b (calls_in t (making true t same tt (plain s.mesh) room c).mesh (room - length (making true t same tt (plain s.mesh) room c).log) rest) []))
        (cond b
        (behind n (making true t same tt (plain s.mesh) room c).log (replaying true t (making true t same tt (plain s.mesh) room c).mesh (room - length (making true t same tt (plain s.mesh) room c).log) rest))
        (stopped (making true t same tt (plain s.mesh) room c).refusal (making true t same tt (plain s.mesh) room c).place (plain s.mesh)))
    go false e more =
        let stays : after s q ≡ s = after_refused s q (ap (λ (y : Left (Unit {0})). eqb y.refusal 0) forgotten ∙ e) in
        (ap (λ (v : State). plain v.mesh) (sym stays), ap (λ (v : State). v.log) stays ∙ sym (append-nil s.log))
    go true e more =
        let goes : after s q ≡ accepted s (left_by turned (tag_now s q) s.mesh q) q = after_accepted s q (ap (λ (y : Left (Unit {0})). eqb y.refusal 0) forgotten ∙ e) in
        let mesh : plain (after s q).mesh ≡ x.mesh = ap (λ (v : State). plain v.mesh) goes ∙ ap (λ (y : Left (Unit {0})). y.mesh) forgotten in
        let log : (after s q).log ≡ s.log ++ x.log = ap (λ (v : State). v.log) goes ∙ ap (λ (y : Left (Unit {0})). s.log ++ y.log) forgotten in
        let later = room - length x.log in
        let ih = subst (λ (m : Mesh (Unit {0})). Told (after s q) (foldl after (after s q) (calls_in t m later rest)) (replaying true t m later rest)) mesh (more later (after s q)) in
        let r = replaying true t x.mesh later rest in
        (ih.0, ih.1 ∙ ap (λ (l : List ℕ). l ++ r.log) log ∙ append_assoc s.log x.log r.log)

pub replay_is_its_calls : ReplayIsItsCalls
replay_is_its_calls s trace t before after' log written answer holds e contract =
    let same_replay : replay_of before t (length log) trace ≡ replaying true t (plain s.mesh) (length log) (trace_of trace) =
    λ i. replaying (holds i) t (e i) (length log) (trace_of trace) in
    let told = replayed_calls t (trace_of trace) (length log) s in (
      contract.holds ∙ holds,
      (contract.mesh ∙ ap (λ (r : Replay). r.mesh) same_replay ∙ told.0, told.1 ∙ ap (λ (r : Replay). s.log ++ r.log) (sym same_replay)),
    )
