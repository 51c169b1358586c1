-- A chip's registers hold the first unit dropped there since they were last read, and how many were.
use mathlib.Core.Path.{◌≡◌, refl, sym, ap, ◌∙◌, subst}
use mathlib.Core.Bool.{Bool, true, false, cond}
use mathlib.Core.List.{List, [], ◌∷◌, ◌++◌, foldl-append}
use Prim.Native.Nat.{ℕ, ◌*◌, ◌<◌}
use native.Mathlib.Omega.{arith}
use lib.Dec.{eqb}
use lib.ListN.{get_or, get_or-replicate, get_or-map}
use lib.Seq.{get_or-set_same, get_or-set_other}
use borrow.Author.Tests.{eqb-true, eqb-false}
use Rattle.kept.specs.declared.Registers.{Registers}
use Rattle.steps.specs.Deciding.{decided, outcome_of}
use Rattle.kept.specs.Keeping.{empty, kept_of}
use Rattle.steps.proofs.Bounds.{outcome_sets}
use Rattle.mesh.specs.Mesh.{Chip, Mesh, fresh}
use Rattle.mesh.specs.Lending.{Tables, tables_at}
use Rattle.mesh.specs.Steps.{Arrival, set_out, setting_at, emptied_chip, pass_at}
use Rattle.mesh.specs.Calls.{with_empty}
use Rattle.mesh.specs.Sound.{Arrives, SoundMesh}
use Rattle.lists.proofs.Changed.{set_keeps}
use Rattle.promises.specs.History.{Tag, Event, packet_passed, registers_emptied, turned}
use Rattle.promises.specs.Told.{dropped_units, noted, drops_since, first_of_units}
use Rattle.promises.specs.Demand3 as demand
use Rattle.promises.proofs.Dropped.{length_dropped, first_dropped, keeps_first}
use Rattle.promises.proofs.Runs.{passage, always_steady}

-- ---- one chip

abbrev registers_at : List (Chip Tag) → ℕ → Registers
registers_at chips chip = (get_or chips chip fresh).registers

abbrev Registered : Mesh Tag → List Event → Type 0
Registered m es = (chip : ℕ) → chip < m.height * m.width → registers_at m.chips chip ≡ first_of_units (drops_since chip es)

-- one event more
drops_later : (chip : ℕ) (es : List Event) (e : Event) → drops_since chip (es ++ e ∷ []) ≡ noted chip (drops_since chip es) e
unfolding drops_since
drops_later chip es e = foldl-append (noted chip) [] es (e ∷ [])

module _ (t : Tables) (n : ℕ) (m : Mesh Tag) (a : Arrival Tag) (es : List Event) (sound : SoundMesh m) (h : Arrives (m.height * m.width) a) (before : Registered m es) where
  abbrev later : List Event
  later = es ++ packet_passed (passage t n m a) ∷ []

  abbrev left : List (Chip Tag)
  left = (pass_at t turned (set_out m) a).mesh.chips

  -- what a pass did tells its source and its phase
  source_told : (passage t n m a).outcome.source ≡ a.source
  unfolding outcome_of decided
  source_told = refl

  phase_told : (passage t n m a).outcome.phase ≡ (setting_at m a.chip).phase
  unfolding outcome_of decided
  phase_told = refl

  kept_here : registers_at left a.chip ≡ first_of_units (drops_since a.chip es ++ dropped_units (passage t n m a))
  kept_here =
      let p = passage t n m a in
      let sets = outcome_sets a.flight.packet a.source (tables_at t (m.height * m.width) a.chip) (setting_at m a.chip) in
      ap (λ (x : Chip Tag). x.registers) (get_or-set_same m.chips a.chip _ fresh (omega (arith, sound.many, h.there)))
      ∙ ap (λ (r : Registers). kept_of r p.outcome) (before a.chip h.there)
      ∙ keeps_first p.outcome (drops_since a.chip es) (dropped_units p) (length_dropped p sets) (first_dropped p sets source_told phase_told)

  registered_pass : Registered (pass_at t turned (set_out m) a).mesh later
  registered_pass chip c = rw (drops_later chip es (packet_passed (passage t n m a))) (go (eqb a.chip chip) refl)
    where
      go : (b : Bool) → eqb a.chip chip ≡ b → registers_at left chip ≡ first_of_units (cond b (drops_since chip es ++ dropped_units (passage t n m a)) (drops_since chip es))
      go true e = subst (λ (x : ℕ). registers_at left x ≡ first_of_units (drops_since x es ++ dropped_units (passage t n m a))) (eqb-true _ _ e) kept_here
      go false e = ap (λ (x : Chip Tag). x.registers) (get_or-set_other m.chips a.chip chip _ fresh (λ z. eqb-false _ _ e (sym z))) ∙ before chip c

module _ (m : Mesh Tag) (chip : ℕ) (es : List Event) (sound : SoundMesh m) (there : chip < m.height * m.width) (before : Registered m es) where
  registered_read : Registered (with_empty m chip) (es ++ registers_emptied chip ∷ [])
  registered_read x c = rw (drops_later x es (registers_emptied chip)) (go (eqb chip x) refl)
    where
      go : (b : Bool) → eqb chip x ≡ b → registers_at (with_empty m chip).chips x ≡ first_of_units (cond b [] (drops_since x es))
      go true e =
          subst (λ (y : ℕ). registers_at (with_empty m chip).chips y ≡ empty) (eqb-true _ _ e)
          (ap (λ (y : Chip Tag). y.registers) (get_or-set_same m.chips chip _ fresh (omega (arith, sound.many))))
      go false e = ap (λ (y : Chip Tag). y.registers) (get_or-set_other m.chips chip x _ fresh (λ z. eqb-false _ _ e (sym z))) ∙ before x c

pub registers_told : demand.Registers
unfolding drops_since
registers_told =
    always_steady (λ m es log. Registered m es)
    (record {
      opens = λ w h f monitor chip c. ap (λ (x : Chip Tag). x.registers) (get_or-replicate (h * w) chip fresh fresh c);
      aside = λ m es log p chip c. ap (λ (x : Chip Tag). x.registers) (get_or-map emptied_chip m.chips chip fresh) ∙ p chip c;
      passes = λ t n m a es log sound codes h p. registered_pass t n m a es sound h p;
      over = λ m es log p. p;
      links = λ m chip link up es log p x c. set_keeps (λ (y : Chip Tag). y.registers) m.chips chip x _ fresh refl ∙ p x c;
      reads = λ m chip es log sound h p. registered_read m chip es sound h p;
    })
