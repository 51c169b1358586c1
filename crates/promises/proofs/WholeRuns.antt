-- A buffer that was opened holds, after any run of the program, the mesh of its sequence; the records added to its logs are the sequence's, and the answers those of the history.
use mathlib.Core.Path.{◌≡◌, refl, sym, ap, ◌∙◌, subst}
use mathlib.Core.Bool.{Bool, true, cond}
use mathlib.Core.List.{List, [], ◌∷◌, ◌++◌, map, foldl, append-nil, append_assoc}
use Prim.Native.Nat.{ℕ, zero, suc, ◌*◌}
use lib.ListN.{replicate, length, take, drop}
use Rattle.mesh.specs.Mesh.{fresh, opened, Mesh}
use Rattle.buffer.specs.Layout.{mesh_of}
use Rattle.buffer.specs.Holding.{holds_mesh}
use Rattle.records.specs.Traces.{trace_of}
use Rattle.trace.specs.Replay.{replay_of, Replays, Replay, replaying, replayed_of}
use Rattle.promises.specs.History.{Tag, State, begun, turned, tag_now}
use native.Mathlib.Omega.{arith}
use lib.Seq.{take_at}
use Rattle.mesh.specs.Lending.{Tables}
use Rattle.mesh.specs.Steps.{same}
use borrow.Author.Tests.{ne_eqb}
use Rattle.buffer.specs.Opening.{opened_words, opening}
use Rattle.mesh.specs.Asked.{Call, Answer, left_by, answer_of}
use Rattle.trace.specs.declared.Replayed.{Replayed}
use Rattle.promises.specs.Told.{plain_chip, plain}
use Rattle.promises.specs.Sequence.{Step, call, replay, apart, lent_none, flood, open_refused, stepped, sequence, Reply, to_call, to_replay, answers_by, answers_of, added_in, Called, Run, ended, called, replayed, aside, floods, not_opened}
use Rattle.promises.specs.Demand3.{WholeRun}
use Rattle.promises.proofs.Forgets.{forgetting, program}
use Rattle.promises.proofs.Lefts.{records_added, log_after, replay_sixes}
use Rattle.promises.proofs.Sequences.{replay_is_its_calls}

map_replicate : {X Y : Type 0} (f : X → Y) (n : ℕ) (x : X) → map f (replicate n x) ≡ replicate n (f x)
map_replicate f zero x = refl
map_replicate f (suc n) x = ap (λ (l : List _). f x ∷ l) (map_replicate f n x)

plain_opened : (w h f monitor : ℕ) → plain (begun w h f monitor).mesh ≡ opened w h f monitor
plain_opened w h f monitor =
    λ i. record { width = w; height = h; rounds = f; monitor = monitor; phase = 0; elapsed = 0; chips = map_replicate (plain_chip {A = Tag}) (h * w) fresh i }

-- ---- one step: what it leaves, adds to the log and answers is what the history says

pub record StepTold (s : State) (x : Step) (after records : List ℕ) (answers : List Reply) : Type 0 where
  pub holds : holds_mesh after ≡ true
  pub mesh : mesh_of after ≡ plain (stepped s x).mesh
  pub logged : s.log ++ records ≡ (stepped s x).log
  pub answered : answers ≡ answers_by s x

module _ (s : State) (before : List ℕ) (holds : holds_mesh before ≡ true) (mesh : mesh_of before ≡ plain s.mesh) where
  call_told : (c : Call) (after' lent written : List ℕ) (answer : Answer) → Called before after' lent written answer c
      → StepTold s (call c) after' (take (added_in answer * 6) written) (to_call answer ∷ [])
  call_told c after' lent written answer k =
      let next = program s c before after' holds mesh k.buffer in
      let records : take (added_in answer * 6) written ≡ (left_by same tt (plain s.mesh) c).log =
      ap (λ (a : Answer). take (added_in a * 6) written) k.answered ∙ records_added before lent written c k.logged ∙ ap (λ (m : Mesh (Unit {0})). (left_by same tt m c).log) mesh in
      let told : answer ≡ answer_of turned (tag_now s c) s.mesh c =
      k.answered ∙ ap (λ (m : Mesh (Unit {0})). answer_of same tt m c) mesh ∙ sym (forgetting Tag turned (tag_now s c) s.mesh c).1 in
      record {
        holds = next.0;
        mesh = next.1;
        logged = ap (λ (l : List ℕ). s.log ++ l) records ∙ sym (log_after s c);
        answered = ap (λ (a : Answer). to_call a ∷ []) told;
      }

  replay_told : (trace : List ℕ) (t : Tables) (room : ℕ) (after' lent written : List ℕ) (answer : Replayed) → length lent ≡ room
      → Replays before after' lent written answer (replay_of before t room trace)
      → StepTold s (replay trace t room) after' (take (answer.added * 6) written) (to_replay answer ∷ [])
  replay_told trace t room after' lent written answer long contract =
      subst (λ (n : ℕ). Replays before after' lent written answer (replay_of before t n trace) → StepTold s (replay trace t n) after' (take (answer.added * 6) written) (to_replay answer ∷ [])) long
      by_length contract
    where
      by_length : Replays before after' lent written answer (replay_of before t (length lent) trace)
          → StepTold s (replay trace t (length lent)) after' (take (answer.added * 6) written) (to_replay answer ∷ [])
      by_length k =
          let r = replay_of before t (length lent) trace in
          let same_replay : r ≡ replaying true t (plain s.mesh) (length lent) (trace_of trace) = λ i. replaying (holds i) t (mesh i) (length lent) (trace_of trace) in
          let next = replay_is_its_calls s trace t before after' lent written answer holds mesh k in
          let six = replay_sixes t (trace_of trace) (plain s.mesh) (length lent) in
          let many : length r.log ≡ answer.added * 6 =
          omega (arith, ap (λ (a : Replayed). a.added) k.answered, ap (λ (x : Replay). length x.log) same_replay, six) in
          let records : take (answer.added * 6) written ≡ r.log = ap (take (answer.added * 6)) k.logged ∙ take_at r.log (drop (length r.log) lent) _ many in
          record {
            holds = next.0;
            mesh = next.1.0;
            logged = ap (λ (l : List ℕ). s.log ++ l) records ∙ sym next.1.1;
            answered = ap (λ (a : Replayed). to_replay a ∷ []) (k.answered ∙ ap replayed_of same_replay);
          }

-- an opening that is refused leaves the buffer as it came
refused_opens_nothing : (refusal : ℕ) (l : List ℕ) (w h f monitor : ℕ) → (refusal ≡ 0 → ⊥) → opening refusal l w h f monitor ≡ l
refused_opens_nothing refusal l w h f monitor some = ap (λ (b : Bool). cond b (opened_words l w h f monitor) l) (ne_eqb refusal 0 some)

-- ---- all of them

pub record RunTold (s : State) (xs : List Step) (behind log : List ℕ) (answers : List Reply) : Type 0 where
  pub holds : holds_mesh behind ≡ true
  pub mesh : mesh_of behind ≡ plain (foldl stepped s xs).mesh
  pub logged : s.log ++ log ≡ (foldl stepped s xs).log
  pub answered : answers ≡ answers_of s xs

-- one step, and then the others
then_told : {s : State} {x : Step} {xs : List Step} {between behind records log : List ℕ} {answer answers : List Reply} → StepTold s x between records answer → RunTold (stepped s x) xs behind log answers
    → RunTold s (x ∷ xs) behind (records ++ log) (answer ++ answers)
unfolding answers_of
then_told {s} {records = records} {log = log} one rest =
    record {
      holds = rest.holds;
      mesh = rest.mesh;
      logged = sym (append_assoc s.log records log) ∙ ap (λ (l : List ℕ). l ++ log) one.logged ∙ rest.logged;
      answered = λ i. one.answered i ++ rest.answered i;
    }

run_told : (s : State) (l : List ℕ) (xs : List Step) (behind log : List ℕ) (answers : List Reply) → holds_mesh l ≡ true → mesh_of l ≡ plain s.mesh → Run l xs behind log answers
    → RunTold s xs behind log answers
unfolding answers_of
run_told s l [] behind log answers held m ended = record { holds = held; mesh = m; logged = append-nil s.log; answered = refl }
run_told s l (call c ∷ later) behind log answers held m (called {between} lent written answer k rest) =
    let one = call_told s l held m c between lent written answer k in
    then_told one (run_told (stepped s (call c)) between later behind _ _ one.holds one.mesh rest)
run_told s l (replay trace t room ∷ later) behind log answers held m (replayed {between} lent written answer long contract rest) =
    let one = replay_told s l held m trace t room between lent written answer long contract in
    then_told one (run_told (stepped s (replay trace t room)) between later behind _ _ one.holds one.mesh rest)
run_told s l (apart (lent_none a) ∷ later) behind log answers held m (aside rest) =
    let r = run_told s l later behind log answers held m rest in record { holds = r.holds; mesh = r.mesh; logged = r.logged; answered = r.answered }
run_told s l (apart (flood codes) ∷ later) behind log answers held m (floods refusal written told all rest) =
    let r = run_told s l later behind log answers held m rest in record { holds = r.holds; mesh = r.mesh; logged = r.logged; answered = r.answered }
run_told s l (apart (open_refused w h f monitor) ∷ later) behind log answers held m (not_opened {between} refusal first some e rest) =
    let stays : between ≡ l = e ∙ refused_opens_nothing refusal l w h f monitor some in
    let r = run_told s between later behind log answers (ap holds_mesh stays ∙ held) (ap mesh_of stays ∙ m) rest in
    record { holds = r.holds; mesh = r.mesh; logged = r.logged; answered = r.answered }

pub whole_run : WholeRun
unfolding sequence
whole_run w h f monitor before behind log xs answers holds e run =
    let r = run_told (begun w h f monitor) before xs behind log answers holds (e ∙ sym (plain_opened w h f monitor)) run in
    (r.holds, r.mesh, r.logged, r.answered)
