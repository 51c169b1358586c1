-- What a call on a mesh gives is what the kept call gives, kind by kind.
use mathlib.Core.Path.{◌≡◌, refl, sym, ap, ◌∙◌, subst}
use mathlib.Core.Bool.{Bool, true, false, cond}
use mathlib.Core.List.{List, []}
use Prim.Native.Nat.{ℕ}
use lib.Dec.{eqb}
use lib.ListN.{length}
use borrow.Author.Tests.{eqb-true}
use Rattle.mesh.specs.declared.Added.{Added}
use Rattle.mesh.specs.declared.RegistersRead.{RegistersRead}
use Rattle.packet.specs.Refusal.{first_of}
use Rattle.mesh.specs.Mesh.{Mesh, many}
use Rattle.buffer.specs.Layout.{mesh_of}
use Rattle.buffer.specs.Holding.{holds_mesh}
use Rattle.mesh.specs.Lending.{Tables}
use Rattle.mesh.specs.Steps.{Going, set_out}
use Rattle.mesh.specs.Refusals.{chip_refusals, link_refusals}
use Rattle.mesh.specs.Calls.{Left, unless, with_link, with_empty, added_of, logged_on, registers_read}
use Rattle.buffer.specs.Leaving.{Leaves, Moves, inject_left, round_left, link_left, registers_left}
use Rattle.records.specs.declared.Call.{Call}
use Rattle.records.specs.Records.{packet_of}
use Rattle.records.proofs.ByKind.{by_1, by_2, by_3, by_else}
use Rattle.trace.specs.Replay.{made_left}

-- ---- refused or not, a call that makes no pass adds no record, and answers its number

module _ {A : Type 0} (n p : ℕ) (m : Mesh A) (g : Going A) where
  pub unless_quiet : g.log ≡ [] → (unless n p m g).log ≡ []
  unless_quiet e = go (eqb n 0)
    where
      go : (b : Bool) → (cond {A = Left A} b (record { refusal = 0; place = 0; mesh = g.mesh; log = g.log }) (record { refusal = n; place = p; mesh = m; log = [] })).log ≡ []
      go true = e
      go false = refl

  unless_nowhere : p ≡ 0 → 0 ≡ (unless n p m g).place
  unless_nowhere e = go (eqb n 0)
    where
      go : (b : Bool) → 0 ≡ (cond {A = Left A} b (record { refusal = 0; place = 0; mesh = g.mesh; log = g.log }) (record { refusal = n; place = p; mesh = m; log = [] })).place
      go true = refl
      go false = sym e

  pub unless_number : (unless n p m g).refusal ≡ n
  unless_number = go (eqb n 0) refl
    where
      go : (b : Bool) → eqb n 0 ≡ b → (cond {A = Left A} b (record { refusal = 0; place = 0; mesh = g.mesh; log = g.log }) (record { refusal = n; place = p; mesh = m; log = [] })).refusal ≡ n
      go true e = sym (eqb-true n 0 e)
      go false e = refl

module _ (t : Tables) (l log : List ℕ) where
  quiet : (r : Added) (l₁ : List ℕ) (x : Left (Unit {0})) → x.log ≡ [] → r ≡ record { refusal = x.refusal; added = 0; place = x.place } → Leaves l l₁ x → Moves l log x r l₁ log
  quiet r l₁ x none e h =
      record {
        answered = e ∙ sym (ap (λ (z : List ℕ). added_of (record { refusal = x.refusal; place = x.place; mesh = x.mesh; log = z })) none);
        buffer = h;
        logged = sym (ap (λ (z : List ℕ). logged_on z log) none);
      }

  module _ (c : Call) (r : Added) (l₁ log₁ : List ℕ) where
    abbrev a : Left (Unit {0})
    a = inject_left l t (length log) c.chip (packet_of c)

    abbrev b : Left (Unit {0})
    b = round_left l t (length log)

    abbrev d : Left (Unit {0})
    d = link_left l c.chip c.link (eqb c.up 1)

    abbrev e : Left (Unit {0})
    e = registers_left l c.chip

    pub made_injection : c.kind ≡ 1 → Moves l log (inject_left l t (length log) c.chip (packet_of c)) r l₁ log₁ → Moves l log (made_left l t (length log) c) r l₁ log₁
    made_injection k h = subst (λ (x : Left (Unit {0})). Moves l log x r l₁ log₁) (sym (by_1 a b d e c.kind k)) h

    pub made_round : c.kind ≡ 2 → Moves l log (round_left l t (length log)) r l₁ log₁ → Moves l log (made_left l t (length log) c) r l₁ log₁
    made_round k h = subst (λ (x : Left (Unit {0})). Moves l log x r l₁ log₁) (sym (by_2 a b d e c.kind k)) h

  module _ (c : Call) (l₁ : List ℕ) where
    pub made_change : c.kind ≡ 3 → (n : ℕ) → n ≡ (link_left l c.chip c.link (eqb c.up 1)).refusal → Leaves l l₁ (link_left l c.chip c.link (eqb c.up 1))
        → Moves l log (made_left l t (length log) c) (record { refusal = n; added = 0; place = 0 }) l₁ log
    made_change k n number h =
        let x = link_left l c.chip c.link (eqb c.up 1) in
        let refusal = first_of (link_refusals (holds_mesh l) (many (mesh_of l)) c.chip c.link) in
        let g = set_out (with_link (mesh_of l) c.chip c.link (eqb c.up 1)) in
        let none = unless_quiet refusal 0 (mesh_of l) g refl in
        let nowhere = unless_nowhere refusal 0 (mesh_of l) g refl in
        subst (λ (y : Left (Unit {0})). Moves l log y (record { refusal = n; added = 0; place = 0 }) l₁ log) (sym (by_3 (a c (record { refusal = n; added = 0; place = 0 }) l₁ log) (b c (record { refusal = n; added = 0; place = 0 }) l₁ log) x (registers_left l c.chip) c.kind k))
        (quiet (record { refusal = n; added = 0; place = 0 }) l₁ x none (λ i. record { refusal = number i; added = 0; place = nowhere i }) h)

    pub made_read : (c.kind ≡ 1 → ⊥) → (c.kind ≡ 2 → ⊥) → (c.kind ≡ 3 → ⊥) → (r : RegistersRead) → r ≡ registers_read (holds_mesh l) (mesh_of l) c.chip
        → Leaves l l₁ (registers_left l c.chip)
        → Moves l log (made_left l t (length log) c) (record { refusal = r.refusal; added = 0; place = 0 }) l₁ log
    made_read x y z r read h =
        let n = first_of (chip_refusals (holds_mesh l) (many (mesh_of l)) c.chip) in
        let g = set_out (with_empty (mesh_of l) c.chip) in
        let number : r.refusal ≡ (registers_left l c.chip).refusal = ap (λ (q : RegistersRead). q.refusal) read ∙ sym (unless_number n 0 (mesh_of l) g) in
        let nowhere = unless_nowhere n 0 (mesh_of l) g refl in
        let answer : Added = record { refusal = r.refusal; added = 0; place = 0 } in
        subst (λ (y : Left (Unit {0})). Moves l log y answer l₁ log) (sym (by_else (a c answer l₁ log) (b c answer l₁ log) (link_left l c.chip c.link (eqb c.up 1)) (registers_left l c.chip) c.kind x y z))
        (quiet answer l₁ (registers_left l c.chip) (unless_quiet n 0 (mesh_of l) g refl) (λ i. record { refusal = number i; added = 0; place = nowhere i }) h)
