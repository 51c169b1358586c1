-- Passes one after the other, in a history: what each single thing that happens keeps is kept throughout. Single things are a pass, a mesh's
-- packets set aside, the end of a round, a link change, registers read.
use mathlib.Core.Path.{◌≡◌, refl, subst}
use mathlib.Core.Logic.{inr}
use mathlib.Core.Bool.{Bool}
use mathlib.Core.List.{List, [], ◌∷◌, ◌++◌, foldl, append-nil, append_assoc}
use Prim.Native.Nat.{ℕ, ◌*◌, ◌<◌}
use native.Mathlib.Omega.{arith}
use lib.ListN.{get_or}
use lib.Seq.{get_or-set_same}
use Rattle.mesh.specs.Mesh.{Mesh, fresh, opened}
use Rattle.mesh.specs.Lending.{Tables, tables_at}
use Rattle.mesh.specs.Steps.{Arrival, Going, set_out, setting_at, outcome_at, log_of, chip_after, set_aside, arrivals, round_over, pass_at}
use Rattle.mesh.specs.Calls.{with_link, with_empty}
use Rattle.lists.specs.Lists.{All}
use Rattle.mesh.specs.Sound.{Arrives, SoundMesh}
use Rattle.mesh.proofs.SoundArrivals.{sound_arrivals}
use Rattle.mesh.proofs.SoundSteps.{CodesFor, sound_aside, sound_pass}
use Rattle.promises.specs.History.{Tag, Passage, Event, packet_passed, registers_emptied, turned, passages}
use Rattle.promises.specs.Told.{EachPass}
use Rattle.promises.specs.Demand3.{Always}
use Rattle.promises.proofs.Told.{each_append}
use Rattle.promises.proofs.Accepts.{arrival_now}
use Rattle.promises.proofs.Histories.{Kept, always_kept}

-- The record of one pass.
abbrev pub passage : Tables → ℕ → Mesh Tag → Arrival Tag → Passage
passage t n m a =
    record {
      arrival = a;
      accepted = n;
      here = get_or m.chips a.chip fresh;
      left = get_or (pass_at t turned (set_out m) a).mesh.chips a.chip fresh;
      tables = tables_at t (m.height * m.width) a.chip;
      setting = setting_at m a.chip;
      outcome = outcome_at t m a.chip a.source a.flight.packet;
    }

-- The chip as a pass leaves it.
pub left_after : (t : Tables) (n : ℕ) (m : Mesh Tag) (a : Arrival Tag) → SoundMesh m → Arrives (m.height * m.width) a
    → (passage t n m a).left ≡ chip_after (passage t n m a).outcome (turned a.flight.tag) (passage t n m a).here
left_after t n m a sound h = get_or-set_same m.chips a.chip _ fresh (omega (arith, sound.many, h.there))

-- What is to be shown of each single thing that happens, where P speaks of a mesh, of what happened before, and of the log.
pub record Steady (P : Mesh Tag → List Event → List ℕ → Type 0) : Type 0 where
  pub opens : (w h f monitor : ℕ) → P (opened w h f monitor) [] []
  pub aside : (m : Mesh Tag) (es : List Event) (log : List ℕ) → P m es log → P (set_aside m) es log
  pub passes : (t : Tables) (n : ℕ) (m : Mesh Tag) (a : Arrival Tag) (es : List Event) (log : List ℕ) → SoundMesh m → CodesFor t m → Arrives (m.height * m.width) a → P m es log
      → P (pass_at t turned (set_out m) a).mesh (es ++ packet_passed (passage t n m a) ∷ []) (log ++ log_of a.chip (outcome_at t m a.chip a.source a.flight.packet))
  pub over : (m : Mesh Tag) (es : List Event) (log : List ℕ) → P m es log → P (round_over m) es log
  pub links : (m : Mesh Tag) (chip link : ℕ) (up : Bool) (es : List Event) (log : List ℕ) → P m es log → P (with_link m chip link up) es log
  pub reads : (m : Mesh Tag) (chip : ℕ) (es : List Event) (log : List ℕ) → SoundMesh m → chip < m.height * m.width → P m es log
      → P (with_empty m chip) (es ++ registers_emptied chip ∷ []) log

module _ (P : Mesh Tag → List Event → List ℕ → Type 0) (steady : Steady P) where
  -- the passes of some arrivals; `log` is what the log had before them
  run : (t : Tables) (n : ℕ) (g : Going Tag) (later : List (Arrival Tag)) (es : List Event) (log : List ℕ) → SoundMesh g.mesh → CodesFor t g.mesh
      → All (Arrives (g.mesh.height * g.mesh.width)) later
      → P g.mesh es (log ++ g.log)
      → P (foldl (pass_at t turned) g later).mesh (es ++ passages t n g later) (log ++ (foldl (pass_at t turned) g later).log)
  unfolding All passages
  run t n g [] es log sound codes h p = rw append-nil p
  run t n g (a ∷ later) es log sound codes h p =
      let o = outcome_at t g.mesh a.chip a.source a.flight.packet in
      let e = packet_passed (passage t n g.mesh a) in
      let q = steady.passes t n g.mesh a es (log ++ g.log) sound codes h.0 p in
      let q' = subst (λ (l : List ℕ). P (pass_at t turned g a).mesh (es ++ e ∷ []) l) (append_assoc log g.log (log_of a.chip o)) q in
      subst (λ (l : List Event). P (foldl (pass_at t turned) g (a ∷ later)).mesh l (log ++ (foldl (pass_at t turned) g (a ∷ later)).log))
      (append_assoc es (e ∷ []) (passages t n (pass_at t turned g a) later))
      (run t n (pass_at t turned g a) later (es ++ e ∷ []) log (sound_pass t turned g a sound codes h.0) codes h.1 q')

  kept : Kept (λ f s. P s.mesh s.events s.log)
  unfolding All
  kept =
      record {
        opens = λ w h f monitor o. steady.opens w h f monitor;
        injects = λ f s chip bytes t sound h p.
            run t s.accepted (set_out s.mesh) (arrival_now s chip bytes ∷ []) s.events s.log sound h.codes
            (record { there = h.there; from = inr refl; passable = h.passable }, tt)
            (rw append-nil p);
        rounds = λ f s t sound codes p.
            steady.over _ _ _
            (run t s.accepted (set_out (set_aside s.mesh)) (arrivals s.mesh) s.events s.log (sound_aside sound) codes (sound_arrivals sound)
            (rw append-nil (steady.aside s.mesh s.events s.log p)));
        links = λ f s chip link up sound h k p. steady.links s.mesh chip link up s.events s.log p;
        reads = λ f s chip sound h p. steady.reads s.mesh chip s.events s.log sound h p;
      }

  pub always_steady : Always (λ f s. P s.mesh s.events s.log)
  always_steady = always_kept (λ f s. P s.mesh s.events s.log) kept

-- What the record of every pass shows by itself.
pub always_each : (R : Passage → Type 0)
    → ((t : Tables) (n : ℕ) (m : Mesh Tag) (a : Arrival Tag) → SoundMesh m → CodesFor t m → Arrives (m.height * m.width) a → R (passage t n m a))
    → Always (λ f s. EachPass R s.events)
unfolding EachPass
always_each R shows =
    always_steady (λ m es log. EachPass R es)
    (record {
      opens = λ w h f monitor. tt;
      aside = λ m es log p. p;
      passes = λ t n m a es log sound codes h p. each_append R es (packet_passed (passage t n m a) ∷ []) p (shows t n m a sound codes h, tt);
      over = λ m es log p. p;
      links = λ m chip link up es log p. p;
      reads = λ m chip es log sound h p. each_append R es (registers_emptied chip ∷ []) p tt;
    })
