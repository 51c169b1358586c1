-- Each copy in a history, in flight or where it passed, is tied to the injection that it came from: a sending keeps the injection's number, packet and rounds, and a later
-- injection changes none before it.
use mathlib.Core.Path.{refl, ◌∙◌}
use mathlib.Core.Logic.{inr}
use mathlib.Core.List.{List, [], ◌∷◌, ◌++◌}
use Prim.Native.Nat.{ℕ, ◌<◌}
use native.Mathlib.Omega.{arith}
use lib.ListN.{length, length-append, get_or-append}
use lib.Seq.{get_or_at}
use Rattle.packet.specs.Bytes.{packet_at}
use Rattle.steps.specs.declared.Outcome.{Outcome}
use Rattle.links.specs.Link.{Flight}
use Rattle.mesh.specs.Lending.{Tables}
use Rattle.mesh.specs.Steps.{Arrival, set_out, set_aside, arrivals}
use Rattle.mesh.specs.Sound.{SoundMesh}
use Rattle.mesh.proofs.SoundArrivals.{sound_arrivals}
use Rattle.mesh.proofs.SoundSteps.{CodesFor, sound_aside}
use Rattle.promises.specs.History.{Tag, Passage, Given, State, turned, none_given, passages}
use Rattle.promises.specs.Told.{EachFlight, EachPass}
use Rattle.promises.specs.Demand3.{Belongs, Belonging}
use Rattle.promises.proofs.Told.{each_append, each_pass_weaken}
use Rattle.promises.proofs.Accepts as accepts
use Rattle.promises.proofs.Histories.{always_kept}
use Rattle.promises.proofs.Flights.{Sends, each_weaken, each_opened, each_aside, each_arrival, each_linked, each_emptied, each_after_pass, each_after_passes, each_passage}

-- ---- injections that follow

module _ (given : List Given) where
  belongs_still : (more : List Given) (tag : Tag) → Belongs given tag → Belongs (given ++ more) tag
  belongs_still more tag b = (simp length-append (omega (arith, b.0)), get_or-append given more none_given tag.injection b.0 ∙ b.1)

  belongs_new : (g : Given) (crossed : ℕ) → Belongs (given ++ g ∷ []) (record { injection = length given; packet = g.packet; before = g.before; crossed = crossed })
  belongs_new g crossed = (simp length-append (omega arith), get_or_at given g [] none_given (length given) refl)

-- ---- every history

abbrev Copy : State → Flight Tag → Type 0
Copy s x = Belongs s.given x.tag

abbrev Came : State → Passage → Type 0
Came s p = Belongs s.given p.arrival.flight.tag

-- what is sent has the tag of what passed
sends_belong : (given : List Given) (o : Outcome) (tag : Tag) → Belongs given tag → Sends (λ x. Belongs given x.tag) o (turned tag)
sends_belong given o tag b = record { links = λ i hi sent. b; leg = λ i hi sent. b }

abbrev Tied : ℕ → State → Type 0
Tied f s = EachFlight (Copy s) s.mesh × EachPass (Came s) s.events

module _ (f : ℕ) (s : State) (t : Tables) (sound : SoundMesh s.mesh) (codes : CodesFor t s.mesh) (tied : Tied f s) where
  injected_ties : (chip : ℕ) (bytes : List ℕ) → accepts.Injects s.mesh chip bytes t → Tied f (accepts.after_injection s chip bytes t)
  unfolding EachPass passages
  injected_ties chip bytes h =
      let a = accepts.arrival_now s chip bytes in
      let g : Given = record { packet = packet_at bytes; before = s.accepted } in
      let later = accepts.after_injection s chip bytes t in
      let new = belongs_new s.given g 0 in (
        each_after_pass t turned (Copy later) (set_out s.mesh) a sound (record { there = h.there; from = inr refl; passable = h.passable }) (sends_belong later.given _ a.flight.tag new)
            (each_weaken (Copy s) (Copy later) (λ x. belongs_still s.given (g ∷ []) x.tag) s.mesh tied.0),
        each_append (Came later) s.events _ (each_pass_weaken (Came s) (Came later) (λ p. belongs_still s.given (g ∷ []) p.arrival.flight.tag) s.events tied.1) (new, tt),
      )

  round_ties : Tied f (accepts.after_round s t)
  round_ties =
      let g = set_out (set_aside s.mesh) in
      let comes = each_arrival (Copy s) s.mesh tied.0 in (
        each_after_passes t turned (Copy s) Comes s.mesh.phase (λ m now sound' codes' a arrives come. sends_belong s.given _ a.flight.tag come.1) g (arrivals s.mesh) refl (sound_aside sound) codes (sound_arrivals sound) comes
            (each_aside (Copy s) s.mesh),
        each_append (Came s) s.events _ tied.1
            (each_passage t Comes (Came s) s.accepted s.mesh.phase (λ m now sound' codes' a arrives come. come.1) g (arrivals s.mesh) refl (sound_aside sound) codes (sound_arrivals sound) comes),
      )
    where
      Comes : Arrival Tag → Type 0
      Comes a = (a.source < 6) × Belongs s.given a.flight.tag

pub belonging : Belonging
unfolding EachPass
belonging =
    always_kept Tied
    (record {
      opens = λ w h f monitor o. (each_opened _ w h f monitor, tt);
      injects = λ f s chip bytes t sound h tied. injected_ties f s t sound h.codes tied chip bytes h;
      rounds = λ f s t sound codes tied. round_ties f s t sound codes tied;
      links = λ f s chip link up sound there six tied. (each_linked (Copy s) s.mesh chip link up tied.0, tied.1);
      reads = λ f s chip sound there tied. (each_emptied (Copy s) s.mesh chip tied.0, each_append (Came s) s.events _ tied.1 tt);
    })
