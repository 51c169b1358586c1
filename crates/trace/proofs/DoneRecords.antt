-- One record of a replay: one that is refused, and one whose call is made.
use mathlib.Core.Path.{◌≡◌, refl, sym, ap, ◌∙◌, subst}
use mathlib.Core.Bool.{Bool, cond}
use mathlib.Core.List.{List, []}
use Prim.Native.Nat.{ℕ, ◌/◌}
use lib.ListN.{length}
use borrow.Author.Tests.{eq-eqb, ne_eqb}
use Rattle.mesh.specs.declared.Added.{Added}
use Rattle.buffer.specs.Layout.{mesh_of}
use Rattle.mesh.specs.Lending.{Tables}
use Rattle.mesh.specs.Calls.{Left, logged_on}
use Rattle.buffer.specs.Leaving.{Leaves, Moves}
use Rattle.records.specs.declared.Record.{Record}
use Rattle.records.specs.Records.{record_read}
use Rattle.trace.specs.Replay.{made_left, one_left, OneDone}

module _ (t : Tables) (s l log : List ℕ) (r : Record) (read : r ≡ record_read s) where
  refusal : r.refusal ≡ (record_read s).refusal
  refusal = ap (λ (x : Record). x.refusal) read

  abbrev choice : Bool → Left (Unit {0})
  choice b = cond b (made_left l t (length log) (record_read s).call) (record { refusal = (record_read s).refusal; place = 0; mesh = mesh_of l; log = [] })

  pub record_refused : (r.refusal ≡ 0 → ⊥) → OneDone t s l log l log (record { refusal = r.refusal; length = 0; added = 0; place = 0 })
  record_refused some =
      let e : one_left t s l (length log) ≡ record { refusal = (record_read s).refusal; place = 0; mesh = mesh_of l; log = [] } = ap choice (ne_eqb (record_read s).refusal 0 (λ z. some (refusal ∙ z))) in
      record {
        refusal = refusal ∙ sym (ap (λ (x : Left (Unit {0})). x.refusal) e);
        bytes = λ z. absurd (some z);
        added = sym (ap (λ (x : Left (Unit {0})). length x.log / 6) e);
        place = sym (ap (λ (x : Left (Unit {0})). x.place) e);
        buffer = subst (Leaves l l) (sym e) (record { refused = λ z. refl; mesh = λ z. refl; holds = λ z. absurd (some (refusal ∙ z)); long = refl; past = refl });
        logged = sym (ap (λ (x : Left (Unit {0})). logged_on x.log log) e);
      }

  pub record_made : r.refusal ≡ 0 → (a : Added) (l₁ log₁ : List ℕ) → Moves l log (made_left l t (length log) r.call) a l₁ log₁
      → OneDone t s l log l₁ log₁ (record { refusal = a.refusal; length = r.length; added = a.added; place = a.place })
  record_made none a l₁ log₁ h =
      let e : one_left t s l (length log) ≡ made_left l t (length log) r.call =
      ap choice (eq-eqb (record_read s).refusal 0 (sym refusal ∙ none)) ∙ ap (λ (x : Record). made_left l t (length log) x.call) (sym read) in
      let g = subst (λ (x : Left (Unit {0})). Moves l log x a l₁ log₁) (sym e) h in
      record {
        refusal = ap (λ (x : Added). x.refusal) g.answered;
        bytes = λ z. ap (λ (x : Record). x.length) read;
        added = ap (λ (x : Added). x.added) g.answered;
        place = ap (λ (x : Added). x.place) g.answered;
        buffer = g.buffer;
        logged = g.logged;
      }
