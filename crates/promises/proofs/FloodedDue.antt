-- A P2P packet on its way by flooded codes arrives without error while it has crossed at most F links: it is sound in flight, and its stamp is not too old.
use mathlib.Core.Path.{◌≡◌, sym, ap, ◌∙◌}
use mathlib.Core.Bool.{not, and-eq-true_iff}
use mathlib.Core.List.{List, [], ◌∷◌}
use Prim.Native.Nat.{ℕ, ◌-◌, ◌/◌, ◌≤◌, ◌<◌}
use native.Mathlib.Nat.{mod-lt}
use native.Mathlib.Omega.{arith}
use lib.Dec.{eqb}
use borrow.Author.Tests.{eq-eqb}
use Rattle.packet.specs.Types.{is_stamped}
use Rattle.lists.specs.Lists.{All}
use Rattle.lists.proofs.Alls.{all_weaken}
use Rattle.mesh.specs.Mesh.{Mesh}
use Rattle.mesh.specs.Steps.{Arrival, arrivals}
use Rattle.mesh.specs.Sound.{SoundPacket, SoundLink, SoundChip, SoundMesh}
use Rattle.flood.proofs.WholeWay.{no_error}
use Rattle.promises.specs.History.{Tag}
use Rattle.promises.specs.Told.{Stamped, EachFlight}
use Rattle.promises.proofs.Flights.{Arriving, each_arrival}
use Rattle.promises.proofs.Clock.{Clock, code, young_before}
use Rattle.promises.proofs.Aged.{Aged, Ages}
use Rattle.promises.proofs.Towards.{EachTo, ArrivesAt, to_arrival}
use Rattle.promises.proofs.FloodedStage.{Trip, Comes, Ours, Due}

all_both : {X : Type 0} (P Q : X → Type 0) (xs : List X) → All P xs → All Q xs → All (λ x. P x × Q x) xs
unfolding All
all_both P Q [] p q = tt
all_both P Q (x ∷ xs) p q = ((p.0, q.0), all_both P Q xs p.1 q.1)

pub sound_flights : {A : Type 0} {m : Mesh A} → SoundMesh m → EachFlight (λ x. SoundPacket x.packet) m
sound_flights {m = m} sound = all_weaken SoundChip _ (λ c s. all_weaken SoundLink _ (λ l k. k.fine) c.links s.links) m.chips sound.chips

module _ (w : Trip) (f r : ℕ) (some : 0 < f) (j : ℕ) (few : j ≤ f) where
  due : (phase : ℕ) → phase ≡ code (r / f) → (a : Arrival Tag) → a.source < 6 → SoundPacket a.flight.packet → Ages f r a.flight → Comes w j a.chip a.flight → Due w j phase a
  unfolding is_stamped
  due phase now a near sound ages comes =
      let b = a.flight.tag.before in
      let fine : _ = simp and-eq-true_iff at sound.fine in
      let stamped : Stamped a.flight.packet = ap (λ (k : ℕ). not (eqb k 2)) comes.kind in
      let aged : Aged f r a.flight = ages.aged stamped in
      let young : code (b / f) ≡ 3 - phase → ⊥ = λ e.
      young_before f some b r aged.begun (omega (arith, aged.crossed, comes.crossed, mod-lt b some)) (e ∙ ap (λ (k : ℕ). 3 - k) now) in
      record {
        comes = comes;
        errors = no_error a.flight.packet a.source (code (b / f)) phase near (record { odd = fine.0.1; long = ap not (eq-eqb _ _ (sym sound.right)); stamp = aged.stamp }) young;
      }

  pub all_due : (k : Mesh Tag) → SoundMesh k → Clock f r k → EachFlight (Ages f r) k → EachTo (Ours w j) k → All (λ a. a.flight.tag.injection ≡ w.number → Due w j k.phase a) (arrivals k)
  all_due k sound clock ages each =
      all_weaken _ _ (λ a h own. due k.phase clock.phase a h.0.0 h.0.1 h.1.0.1 (h.1.1 own)) (arrivals k)
      (all_both _ _ (arrivals k) (each_arrival (λ x. SoundPacket x.packet) k (sound_flights sound))
      (all_both (Arriving (Ages f r)) (ArrivesAt (Ours w j)) (arrivals k) (each_arrival (Ages f r) k ages) (to_arrival (Ours w j) k sound each)))
