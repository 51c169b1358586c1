-- The account of units closes throughout every history: each pass's own account closes, what it sends lands on the links, and a round takes all that
-- is in flight.
use mathlib.Core.Path.{◌≡◌, refl, sym, ap, ◌∙◌}
use mathlib.Core.Logic.{inr}
use mathlib.Core.List.{List, [], ◌∷◌, ◌++◌, foldl}
use Prim.Native.Nat.{ℕ, ◌+◌, ◌*◌}
use native.Mathlib.Omega.{arith}
use lib.ListN.{length, replicate, length-append}
use borrow.Author.Tests.{lt-ltb}
use Rattle.kept.specs.Units.{weight_in, extra, weight_sent, settled}
use Rattle.packet.specs.Bytes.{packet_at}
use Rattle.kept.proofs.OnePass as pass
use Rattle.mesh.specs.Mesh.{Chip, Mesh, fresh, opened, chip_of}
use Rattle.mesh.specs.Lending.{Tables, tables_at}
use Rattle.mesh.specs.Steps.{Arrival, Going, set_out, setting_at, outcome_at, set_aside, arrivals, pass_at}
use Rattle.lists.specs.Lists.{total, All}
use Rattle.mesh.specs.Weights.{on_chip, on_mesh}
use Rattle.mesh.specs.Sound.{Arrives, SoundMesh}
use Rattle.lists.proofs.Alls.{all_replicate}
use Rattle.mesh.proofs.SoundArrivals.{sound_arrivals}
use Rattle.mesh.proofs.SoundSteps.{CodesFor, checked, sound_aside, sound_pass}
use Rattle.lists.proofs.Totals.{total_same, total_none}
use Rattle.promises.specs.History.{Tag, State, Event, turned, passages, registers_emptied as read}
use Rattle.promises.specs.Told.{sum_of}
use Rattle.promises.specs.Demand3.{Account}
use Rattle.promises.proofs.Told.{sum_append}
use Rattle.promises.proofs.Accepts as accepts
use Rattle.mesh.proofs.SoundChanges.{chip_sound}
use Rattle.promises.proofs.Histories.{Kept, always_kept}
use Rattle.promises.proofs.Flights.{Arriving, each_any, each_arrival}
use Rattle.promises.proofs.InFlight.{aside_weighs, arrivals_weigh_in, more_weighs, linked_weighs, emptied_weighs}
use Rattle.promises.proofs.Weighs.{weighed, chip_weighs_sent}

-- an open mesh has nothing in flight
opened_weighs : (w h f monitor : ℕ) → on_mesh weighed (opened {A = Tag} w h f monitor) ≡ 0
unfolding total
opened_weighs w h f monitor =
    let chips : List (Chip Tag) = replicate (h * w) fresh in
    total_same (on_chip weighed) (λ c. 0) (λ c. on_chip weighed c ≡ 0) (λ c e. e) chips (all_replicate _ (h * w) fresh refl) ∙ total_none (λ c. 0) (λ c. refl) chips

abbrev weight_of : {A : Type 0} → Arrival A → ℕ
weight_of a = weight_in a.flight.packet a.source

-- what arrives in a round weighs what was in flight
units_arrive : {A : Type 0} (m : Mesh A) → SoundMesh m → total weight_of (arrivals m) ≡ on_mesh weighed m
units_arrive m sound =
    total_same weight_of (λ a. weighed a.flight) (Arriving (λ x. Unit {0})) (λ a h. simp (lt-ltb _ _ h.0)) (arrivals m) (each_arrival (λ x. Unit {0}) m (each_any (λ x. Unit {0}) (λ x. tt) m))
    ∙ arrivals_weigh_in weighed m sound

-- ---- passes

-- extra branches, and the units that end, over some passes
abbrev extras : List Event → ℕ
extras es = sum_of (λ p. extra p.outcome) es

abbrev ends : List Event → ℕ
ends es = sum_of (λ p. settled p.outcome p.arrival.source) es

pass_weighs : {A : Type 0} (t : Tables) (turn : A → A) (g : Going A) (a : Arrival A) → SoundMesh g.mesh → CodesFor t g.mesh → Arrives (g.mesh.height * g.mesh.width) a
    → on_mesh weighed (pass_at t turn g a).mesh ≡ on_mesh weighed g.mesh + weight_sent (outcome_at t g.mesh a.chip a.source a.flight.packet)
pass_weighs t turn g a sound codes h =
    more_weighs weighed g.mesh sound a.chip h.there _ _
    (chip_weighs_sent _ _ _ _ (checked t g.mesh a sound codes h) h.from (turn a.flight.tag) (chip_of g.mesh a.chip) (chip_sound sound a.chip h.there).six)

passes_account : (t : Tables) (n : ℕ) (g : Going Tag) (later : List (Arrival Tag)) → SoundMesh g.mesh → CodesFor t g.mesh → All (Arrives (g.mesh.height * g.mesh.width)) later
    → total weight_of later + extras (passages t n g later) + on_mesh weighed g.mesh ≡ ends (passages t n g later) + on_mesh weighed (foldl (pass_at t turned) g later).mesh
unfolding total sum_of passages All
passes_account t n g [] sound codes h = omega arith
passes_account t n g (a ∷ later) sound codes h =
    omega (
      arith,
      passes_account t n (pass_at t turned g a) later (sound_pass t turned g a sound codes h.0) codes h.1,
      pass_weighs t turned g a sound codes h.0,
      pass.account a.flight.packet a.source (tables_at t (g.mesh.height * g.mesh.width) a.chip) (setting_at g.mesh a.chip) (checked t g.mesh a sound codes h.0) h.0.from,
    )

-- ---- every history

abbrev Closes : ℕ → State → Type 0
Closes f s = length s.given + extras s.events ≡ ends s.events + on_mesh weighed s.mesh

extras_append : (es later : List Event) → extras (es ++ later) ≡ extras es + extras later
extras_append es later = sum_append _ es later

ends_append : (es later : List Event) → ends (es ++ later) ≡ ends es + ends later
ends_append es later = sum_append _ es later

account_kept : Kept Closes
unfolding sum_of All total
account_kept =
    record {
      opens = λ w h f monitor o. ap (λ (n : ℕ). 0 + n) (sym (opened_weighs w h f monitor));
      injects = λ f s chip bytes t sound h closes.
          let a = accepts.arrival_now s chip bytes in
          let g = set_out s.mesh in
          omega (
            arith,
            closes,
            length-append s.given (record { packet = packet_at bytes; before = s.accepted } ∷ []),
            extras_append s.events (passages t s.accepted g (a ∷ [])),
            ends_append s.events (passages t s.accepted g (a ∷ [])),
            passes_account t s.accepted g (a ∷ []) sound h.codes (record { there = h.there; from = inr refl; passable = h.passable }, tt),
          );
      rounds = λ f s t sound codes closes.
          let g = set_out (set_aside s.mesh) in
          omega (
            arith,
            closes,
            extras_append s.events (passages t s.accepted g (arrivals s.mesh)),
            ends_append s.events (passages t s.accepted g (arrivals s.mesh)),
            passes_account t s.accepted g (arrivals s.mesh) (sound_aside sound) codes (sound_arrivals sound),
            aside_weighs weighed s.mesh,
            units_arrive s.mesh sound,
          );
      links = λ f s chip link up sound there six closes. closes ∙ ap (λ (n : ℕ). ends s.events + n) (sym (linked_weighs weighed s.mesh sound chip there link up six));
      reads = λ f s chip sound there closes.
          omega (arith, closes, extras_append s.events (read chip ∷ []), ends_append s.events (read chip ∷ []), emptied_weighs weighed s.mesh sound chip there);
    }

pub account : Account
account = always_kept Closes account_kept
