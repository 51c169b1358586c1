-- In every history each copy of an MC or P2P packet in flight has an age within its span. So the links that it crosses are bounded, it is gone in time,
-- and age does not stop it before.
use mathlib.Core.Path.{◌≡◌, refl, ◌∙◌}
use mathlib.Core.Logic.{inr}
use mathlib.Core.List.{List}
use Prim.Native.Nat.{ℕ, ◌+◌, ◌*◌, ◌/◌, ◌%◌, ◌≤◌, ◌<◌}
use native.Mathlib.Omega.{arith}
use Rattle.packet.specs.Bytes.{packet_at}
use Rattle.steps.specs.Deciding.{Checked}
use Rattle.mesh.specs.Mesh.{Mesh}
use Rattle.mesh.specs.Lending.{Tables, tables_at}
use Rattle.mesh.specs.Steps.{Arrival, Going, setting_at, set_aside, arrivals, set_out}
use Rattle.lists.specs.Lists.{All}
use Rattle.mesh.specs.Sound.{Arrives, SoundMesh}
use Rattle.mesh.proofs.SoundArrivals.{sound_arrivals}
use Rattle.mesh.proofs.SoundSteps.{CodesFor, checked, sound_aside, pass_head, passed_head}
use Rattle.promises.specs.History.{Tag, Passage, State, turned, tag_of, passages}
use Rattle.promises.specs.Sequence.{sequence}
use Rattle.promises.specs.Told.{Stamped, EachFlight, EachPass}
use Rattle.promises.specs.Demand3.{Always, span, LinksCrossed, CrossingsCounted, GoneInTime, NotBeforeItsTime}
use Rattle.promises.proofs.Told.{each_append}
use Rattle.promises.proofs.Accepts as accepts
use Rattle.promises.proofs.Histories.{Kept, always_kept}
use Rattle.promises.proofs.Runs.{passage}
use Rattle.promises.proofs.Flights.{Arriving, HandsOn, InPhase, each_weaken, each_opened, each_aside, each_arrival, each_linked, each_emptied, each_after_pass, each_after_passes, each_passage}
use Rattle.promises.proofs.Clock.{Clock, clock_opened, clock_chips, clock_same, clock_over, rounds_some}
use Rattle.promises.proofs.Aged.{Ages, aged_copy, aged_crossing, aged_sent, aged_injected, old_late}

-- what a pass's record says of links and of age
abbrev Crossing : ℕ → Passage → Type 0
Crossing f p = Stamped p.arrival.flight.tag.packet → p.arrival.flight.tag.crossed ≤ span f p.arrival.flight.tag.before + 1

abbrev Timely : ℕ → Passage → Type 0
Timely f p = p.outcome.errors / 2 % 2 ≡ 1 → p.arrival.flight.tag.before + span f p.arrival.flight.tag.before ≤ p.accepted

pub record Ageing (f : ℕ) (s : State) : Type 0 where
  pub clock : Clock f s.accepted s.mesh
  pub flights : EachFlight (Ages f s.accepted) s.mesh
  pub crossings : EachPass (Crossing f) s.events
  pub times : EachPass (Timely f) s.events

-- F is at least 1
pub clock_some : {A : Type 0} {f n : ℕ} {m : Mesh A} → SoundMesh m → Clock f n m → 0 < f
clock_some {m = m} sound c = omega (arith, rounds_some m.rounds sound.rounds, c.rounds)

module _ (f : ℕ) (s : State) (t : Tables) (sound : SoundMesh s.mesh) (codes : CodesFor t s.mesh) (ageing : Ageing f s) where
  some : 0 < f
  some = clock_some sound ageing.clock

  injected_keeps : (chip : ℕ) (bytes : List ℕ) → accepts.Injects s.mesh chip bytes t → Ageing f (accepts.after_injection s chip bytes t)
  unfolding EachPass passages
  injected_keeps chip bytes h =
      record {
        clock = clock_same (pass_head t turned g a) ageing.clock;
        flights = each_after_pass t turned (Ages f s.accepted) g a sound arrives (aged_injected f s.accepted some _ _ _ _ able (inr refl) ageing.clock.phase (tag_of s (packet_at bytes)) refl refl refl refl) ageing.flights;
        crossings = each_append (Crossing f) s.events _ ageing.crossings ((λ low. omega arith), tt);
        times = each_append (Timely f) s.events _ ageing.times (old_late f s.accepted some _ _ _ _ able (inr refl) ageing.clock.phase (tag_of s (packet_at bytes)) (λ near. absurd (omega arith)), tt);
      }
    where
      g : Going Tag
      g = set_out s.mesh

      a : Arrival Tag
      a = accepts.arrival_now s chip bytes

      arrives : Arrives (s.mesh.height * s.mesh.width) (accepts.arrival_now s chip bytes)
      arrives = record { there = h.there; from = inr refl; passable = h.passable }

      able : Checked (packet_at bytes) 7 (tables_at t (s.mesh.height * s.mesh.width) chip) (setting_at s.mesh chip)
      able = checked t s.mesh (accepts.arrival_now s chip bytes) sound codes arrives

  round_keeps : Ageing f (accepts.after_round s t)
  round_keeps =
      record {
        clock = clock_over some (clock_same (passed_head t turned g (arrivals s.mesh)) (clock_chips _ ageing.clock));
        flights = each_after_passes t turned (Ages f (s.accepted + 1)) Comes s.mesh.phase sends g (arrivals s.mesh) refl (sound_aside sound) codes (sound_arrivals sound) comes (each_aside (Ages f (s.accepted + 1)) s.mesh);
        crossings = each_append (Crossing f) s.events _ ageing.crossings
            (each_passage t Comes (Crossing f) s.accepted s.mesh.phase crosses g (arrivals s.mesh) refl (sound_aside sound) codes (sound_arrivals sound) comes);
        times = each_append (Timely f) s.events _ ageing.times
            (each_passage t Comes (Timely f) s.accepted s.mesh.phase stops g (arrivals s.mesh) refl (sound_aside sound) codes (sound_arrivals sound) comes);
      }
    where
      g : Going Tag
      g = set_out (set_aside s.mesh)

      Comes : Arrival Tag → Type 0
      Comes = Arriving (Ages f s.accepted)

      comes : All (Arriving (Ages f s.accepted)) (arrivals s.mesh)
      comes = each_arrival (Ages f s.accepted) s.mesh ageing.flights

      sends : InPhase t s.mesh.phase (Arriving (Ages f s.accepted)) (HandsOn t turned (Ages f (s.accepted + 1)))
      sends m now sound' codes' a arrives come =
          aged_sent f s.accepted some _ _ _ _ (checked t m a sound' codes' arrives) arrives.from (now ∙ ageing.clock.phase) a.flight.tag come.0 come.1

      crosses : InPhase t s.mesh.phase (Arriving (Ages f s.accepted)) (λ m a. Crossing f (passage t s.accepted m a))
      crosses m now sound' codes' a arrives come = aged_crossing f s.accepted a.flight come.1

      stops : InPhase t s.mesh.phase (Arriving (Ages f s.accepted)) (λ m a. Timely f (passage t s.accepted m a))
      stops m now sound' codes' a arrives come =
          old_late f s.accepted some _ _ _ _ (checked t m a sound' codes' arrives) arrives.from (now ∙ ageing.clock.phase) a.flight.tag (λ near. come.1)

pub ageing_kept : Kept Ageing
unfolding EachPass
ageing_kept =
    record {
      opens = λ w h f monitor o. record { clock = clock_opened w h f monitor; flights = each_opened (Ages f 0) w h f monitor; crossings = tt; times = tt };
      injects = λ f s chip bytes t sound h ageing. injected_keeps f s t sound h.codes ageing chip bytes h;
      rounds = λ f s t sound codes ageing. round_keeps f s t sound codes ageing;
      links = λ f s chip link up sound there six ageing.
          record {
            clock = clock_chips _ ageing.clock;
            flights = each_linked (Ages f s.accepted) s.mesh chip link up ageing.flights;
            crossings = ageing.crossings;
            times = ageing.times;
          };
      reads = λ f s chip sound there ageing.
          record {
            clock = clock_chips _ ageing.clock;
            flights = each_emptied (Ages f s.accepted) s.mesh chip ageing.flights;
            crossings = each_append (Crossing f) s.events _ ageing.crossings tt;
            times = each_append (Timely f) s.events _ ageing.times tt;
          };
    }

pub ages_always : Always Ageing
ages_always = always_kept Ageing ageing_kept

pub links_crossed : LinksCrossed
links_crossed w h f monitor o xs =
    let s = sequence w h f monitor xs in
    let a = ages_always w h f monitor o xs in
    (each_weaken (Ages f s.accepted) _ (λ x ages. aged_crossing f s.accepted x ages) s.mesh a.flights, a.crossings)

pub crossings_counted : CrossingsCounted
crossings_counted w h f monitor o xs =
    let s = sequence w h f monitor xs in
    each_weaken (Ages f s.accepted) _ (λ x ages low. (aged_copy ages low).crossed) s.mesh (ages_always w h f monitor o xs).flights

pub gone_in_time : GoneInTime
gone_in_time w h f monitor o xs =
    let s = sequence w h f monitor xs in
    each_weaken (Ages f s.accepted) _ (λ x ages low. omega (arith, (aged_copy ages low).due)) s.mesh (ages_always w h f monitor o xs).flights

pub not_before_its_time : NotBeforeItsTime
not_before_its_time w h f monitor o xs = (ages_always w h f monitor o xs).times
