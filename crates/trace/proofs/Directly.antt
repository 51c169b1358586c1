-- A replay and its calls made directly leave the same mesh, log and answer.
use mathlib.Core.Path.{◌≡◌, refl, sym, ap, ◌∙◌}
use mathlib.Core.Bool.{Bool, cond}
use mathlib.Core.List.{List, ◌++◌, append_assoc}
use Prim.Native.Nat.{ℕ, ◌+◌, ◌-◌, ◌*◌, ◌/◌}
use native.Mathlib.Omega.{arith}
use lib.ListN.{length, take, drop, length-append, length-drop}
use lib.Seq.{drop-drop, take_at, drop_at}
use borrow.Author.Tests.{eq-eqb, ne_eqb}
use Rattle.mesh.specs.declared.Added.{Added}
use Rattle.buffer.specs.Layout.{mesh_of}
use Rattle.buffer.specs.Holding.{holds_mesh}
use Rattle.mesh.specs.Lending.{Tables}
use Rattle.mesh.specs.Steps.{same}
use Rattle.buffer.specs.Leaving.{Moves}
use Rattle.mesh.specs.Calls.{Left, logged_on}
use Rattle.records.specs.declared.Call.{Call}
use Rattle.records.specs.Traces.{Trace, then}
use Rattle.trace.specs.declared.Replayed.{Replayed}
use Rattle.trace.specs.Replay.{made_left, Replay, stopped, behind, replaying}
use Rattle.trace.specs.Directly.{Made, injected, rounded, changed, registers_handed_over, Directly, done, unread, stops, goes, AsDirectly, OneReplay}
use Rattle.trace.proofs.KeptSizes.{Keeps, keeps_made}
use Rattle.trace.proofs.MadeCalls.{made_injection, made_round, made_change, made_read}

-- what a run leaves, where x is what it is to leave
record Left-by (l log l₁ log₁ : List ℕ) (r : Replayed) (x : Replay) : Type 0 where
  pub answered : r ≡ record { refusal = x.refusal; at = x.at; added = length x.log / 6; place = x.place }
  pub logged : log₁ ≡ logged_on x.log log
  pub mesh : mesh_of l₁ ≡ x.mesh
  pub holds : holds_mesh l₁ ≡ holds_mesh l

-- a call made by itself gives what the kept call gives
gives : (t : Tables) (l log : List ℕ) (c : Call) {a : Added} {l₁ log₁ : List ℕ} → Made t l log c a l₁ log₁ → Moves l log (made_left l t (length log) c) a l₁ log₁
gives t l log c (injected k x) = made_injection t l log c _ _ _ k x
gives t l log c (rounded k x) = made_round t l log c _ _ _ k x
gives t l log c (changed k x y) = made_change t l log c _ k _ x y
gives t l log c (registers_handed_over k x y) = made_read t l log c _ (λ e. omega arith) (λ e. omega arith) (λ e. omega arith) _ x y

module _ (t : Tables) where
  abbrev onward : List ℕ → List ℕ → Trace → Replay
  onward l log tr = replaying (holds_mesh l) t (mesh_of l) (length log) tr

  module _ (l log l₁ log₁ : List ℕ) (c : Call) (n : ℕ) (rest : Trace) (a : Added) (m : Moves l log (made_left l t (length log) c) a l₁ log₁) where
    abbrev x : Left (Unit {0})
    x = made_left l t (length log) c

    number : a.refusal ≡ (made_left l t (length log) c).refusal
    number = ap (λ (b : Added). b.refusal) m.answered

    placed : a.place ≡ (made_left l t (length log) c).place
    placed = ap (λ (b : Added). b.place) m.answered

    keeps : Keeps (holds_mesh l) (mesh_of l) (made_left l t (length log) c)
    keeps = keeps_made (holds_mesh l) t same tt (mesh_of l) (length log) c

    abbrev choice : Bool → Replay
    choice b = cond b (behind n x.log (replaying (holds_mesh l) t x.mesh (length log - length x.log) rest)) (stopped x.refusal x.place (mesh_of l))

    left_stops : (a.refusal ≡ 0 → ⊥) → Left-by l log l₁ log₁ (record { refusal = a.refusal; at = 0; added = 0; place = a.place }) (onward l log (then c n rest))
    unfolding replaying
    left_stops some =
        let none : x.refusal ≡ 0 → ⊥ = λ z. some (number ∙ z) in
        let e : onward l log (then c n rest) ≡ stopped x.refusal x.place (mesh_of l) = ap choice (ne_eqb x.refusal 0 none) in
        let kept : l₁ ≡ l = m.buffer.refused none in
        record {
          answered = (λ i. record { refusal = number i; at = 0; added = 0; place = placed i }) ∙ sym (ap (λ (y : Replay). record { refusal = y.refusal; at = y.at; added = length y.log / 6; place = y.place }) e);
          logged = m.logged ∙ ap (λ (y : List ℕ). logged_on y log) (keeps.none none) ∙ sym (ap (λ (y : Replay). logged_on y.log log) e);
          mesh = ap mesh_of kept ∙ sym (ap (λ (y : Replay). y.mesh) e);
          holds = ap holds_mesh kept;
        }

    module _ (none : a.refusal ≡ 0) where
      fine : x.refusal ≡ 0
      fine = sym number ∙ none

      size : a.added * 6 ≡ length x.log
      size = omega (arith, ap (λ (b : Added). b.added) m.answered, keeps.sixes)

      told : take (a.added * 6) log₁ ≡ x.log
      told = ap (take (a.added * 6)) m.logged ∙ take_at x.log (drop (length x.log) log) (a.added * 6) (sym size)

      untold : drop (a.added * 6) log₁ ≡ drop (length x.log) log
      untold = ap (drop (a.added * 6)) m.logged ∙ drop_at x.log (drop (length x.log) log) (a.added * 6) (sym size)

      left_goes : (l₂ log₂ : List ℕ) (r : Replayed) → Left-by l₁ (drop (a.added * 6) log₁) l₂ log₂ r (onward l₁ (drop (a.added * 6) log₁) rest)
          → Left-by l log l₂ (take (a.added * 6) log₁ ++ log₂) (record { refusal = r.refusal; at = n + r.at; added = a.added + r.added; place = r.place }) (onward l log (then c n rest))
      unfolding replaying
      left_goes l₂ log₂ r h =
          let y = onward l₁ (drop (a.added * 6) log₁) rest in
          let held : holds_mesh l₁ ≡ holds_mesh l = m.buffer.holds fine ∙ sym (keeps.there fine) in
          let room : length (drop (a.added * 6) log₁) ≡ length log - length x.log = ap length untold ∙ length-drop (length x.log) log in
          let mesh : mesh_of l₁ ≡ x.mesh = m.buffer.mesh fine in
          let e : onward l log (then c n rest) ≡ behind n x.log y =
          ap choice (eq-eqb x.refusal 0 fine) ∙ sym (λ i. behind n x.log (replaying (held i) t (mesh i) (room i) rest)) in
          let count : a.added + r.added ≡ length (x.log ++ y.log) / 6 =
          omega (arith, size, ap (λ (b : Replayed). b.added) h.answered, length-append x.log y.log) in
          record {
            answered = (λ i. record { refusal = (h.answered i).refusal; at = n + (h.answered i).at; added = count i; place = (h.answered i).place })
                ∙ sym (ap (λ (z : Replay). record { refusal = z.refusal; at = z.at; added = length z.log / 6; place = z.place }) e);
            logged = (λ i. told i ++ h.logged i) ∙ ap (λ (q : List ℕ). x.log ++ (y.log ++ drop (length y.log) q)) untold
                ∙ sym (append_assoc x.log y.log (drop (length y.log) (drop (length x.log) log)))
                ∙ ap (λ (q : List ℕ). (x.log ++ y.log) ++ q) (drop-drop (length y.log) (length x.log) log ∙ ap (λ (k : ℕ). drop k log) (sym (length-append x.log y.log)))
                ∙ sym (ap (λ (z : Replay). logged_on z.log log) e);
            mesh = h.mesh ∙ sym (ap (λ (z : Replay). z.mesh) e);
            holds = h.holds ∙ held;
          }

  left_by : {l log l₁ log₁ : List ℕ} {tr : Trace} {r : Replayed} → Directly t l log tr l₁ log₁ r → Left-by l log l₁ log₁ r (onward l log tr)
  unfolding replaying
  left_by done = record { answered = refl; logged = refl; mesh = refl; holds = refl }
  left_by unread = record { answered = refl; logged = refl; mesh = refl; holds = refl }
  left_by {l} {log} {l₁} {log₁} (stops {c = c} {n = n} {rest = rest} {a = a} m some) = left_stops l log l₁ log₁ c n rest a (gives t l log c m) some
  left_by {l} {log} (goes {l₁ = l₁} {log₁ = log₁} {l₂ = l₂} {log₂ = log₂} {c = c} {n = n} {rest = rest} {a = a} {r = r} m none later) =
      left_goes l log l₁ log₁ c n rest a (gives t l log c m) none l₂ log₂ r (left_by later)

pub as_directly : AsDirectly
as_directly t s l log l₁ log₁ l₂ log₂ r₁ r₂ run contract =
    let h = left_by t run in
    record {
      answer = h.answered ∙ sym contract.answered;
      log = h.logged ∙ sym contract.logged;
      mesh = h.mesh ∙ sym contract.mesh;
      holds = h.holds ∙ sym contract.holds;
    }

pub one_replay : OneReplay
one_replay t s l log l₁ log₁ l₂ log₂ r₁ r₂ x y =
    record {
      alike = record {
        answer = x.answered ∙ sym y.answered;
        log = x.logged ∙ sym y.logged;
        mesh = x.mesh ∙ sym y.mesh;
        holds = x.holds ∙ sym y.holds;
      };
      untouched = λ none. let first = sym (ap (λ (r : Replayed). r.at) x.answered) ∙ none in x.untouched first ∙ sym (y.untouched first);
      past = x.past ∙ sym y.past;
    }
