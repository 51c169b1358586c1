-- A round by a grown tree, chip by chip: from one copy on each link of the chips at one depth to one on each link of the chips one deeper.
use Prim.Native.Nat.{ℕ, zero, suc, ◌+◌, ◌*◌, ◌/◌, ◌≤◌, ◌<◌}
use mathlib.Core.Path.{◌≡◌, refl, sym, ap, ◌∙◌, subst}
use mathlib.Core.Bool.{true}
use mathlib.Core.List.{List, [], ◌∷◌, ◌++◌, foldl, append-nil, append_assoc}
use mathlib.Core.Logic.{inl, inr}
use native.Mathlib.Decide.{ℕ_discrete, dec_lt}
use native.Mathlib.Omega.{arith}
use lib.ListN.{get_or, get_or-map}
use Rattle.links.specs.Link.{Link, idle}
use Rattle.links.specs.Across.{opposite}
use Rattle.mesh.specs.Mesh.{Chip, Mesh, fresh, many, chip_of, link_of}
use Rattle.mesh.specs.Lending.{Tables}
use Rattle.mesh.specs.Steps.{Arrival, Going, emptied, emptied_chip, set_aside, arriving_at, arriving_from, pass_at}
use Rattle.mesh.specs.Sound.{SoundPacket, Arrives, SoundMesh}
use Rattle.links.proofs.Crossing.{opposite_there}
use Rattle.mesh.proofs.SoundArrivals.{sound_passable}
use Rattle.mesh.proofs.SoundSteps.{CodesFor, sound_pass}
use Rattle.flood.proofs.SameLinks.{many_same}
use Rattle.promises.specs.History.{Tag, Event, packet_passed, turned, passages}
use Rattle.promises.specs.Told.{EachFlight}
use Rattle.promises.specs.GrownTree.{Only, AtMostDeep}
use Rattle.promises.proofs.Runs.{passage}
use Rattle.promises.proofs.Clock.{code}
use Rattle.promises.proofs.Aged.{Ages}
use Rattle.promises.proofs.LinkStates.{Alike, alike_pass}
use Rattle.promises.proofs.TreeShape as shape
use Rattle.promises.proofs.TreeStep.{Trip, Passes, passes_by_tree}
use Rattle.promises.proofs.TreeArrivals.{all, depth, entered, Full, Due, ArrivesOne, no_errors, none_arrives, one_arrives, was_each}
use Rattle.promises.proofs.TreeMidway.{Midway, nothing_comes, copy_comes}

-- after all is set aside no link holds anything
pub aside_holds : (m : Mesh Tag) (c i : ℕ) → (link_of (set_aside m) c i).held ≡ []
aside_holds m c i =
    ap (λ (x : Chip Tag). (get_or x.links i idle).held) (get_or-map emptied_chip m.chips c fresh)
    ∙ ap (λ (l : Link Tag). l.held) (get_or-map emptied (chip_of m c).links i idle)

-- a chip of the tree's, in a mesh like the one that the injection found
module _ (w : Trip) (k : Mesh Tag) (alike : Alike w.mesh k) where
  pub as_many : many k ≡ all w
  as_many = many_same w.mesh k alike.same ∙ (λ i. w.high i * w.wide i)

  pub still_up : (c i : ℕ) → c < all w → i < 6 → (link_of k c i).up ≡ true
  still_up c i there near =
      let here : c < many w.mesh = omega (arith, as_many, many_same w.mesh k alike.same) in
      alike.same.links c i here near ∙ w.up c i here near

module _ (w : Trip) (f : ℕ) (deep : AtMostDeep w.asked f) (t : Tables) (only : Only w.asked t) (r j : ℕ) (round : r ≡ w.before + j) (m : Mesh Tag) (like : Alike w.mesh m) (full : Full w j m) (some : 0 < f)
    (now : m.phase ≡ code (r / f)) (ages : EachFlight (Ages f r) m) (packets : EachFlight (λ x. SoundPacket x.packet) m) where
  wide : m.width ≡ w.asked.width
  wide = like.same.width ∙ w.wide

  high : m.height ≡ w.asked.height
  high = like.same.height ∙ w.high

  -- the pass of the copy that comes to a chip
  module _ (g : Going Tag) (sound : SoundMesh g.mesh) (codes : CodesFor t g.mesh) (alike : Alike w.mesh g.mesh) (phase : g.mesh.phase ≡ m.phase) (c : ℕ) (there : c < all w)
      (free : (i : ℕ) → i < 6 → (link_of g.mesh c i).held ≡ []) (due : Due w j c) where
    one : ArrivesOne w j m wide high full c there
    one = one_arrives w j m wide high full c there due

    abbrev a : Arrival Tag
    a = record { chip = c; source = opposite (entered w c); flight = one.copy }

    packet : SoundPacket one.copy.packet
    packet = was_each w j m wide high full c there one (λ x. SoundPacket x.packet) packets

    arrives : Arrives (g.mesh.height * g.mesh.width) a
    arrives = record { there = omega (arith, as_many w g.mesh alike); from = inl (opposite_there (entered w c)); passable = sound_passable packet }

    within_f : depth w c ≤ f
    within_f = shape.at_most w.asked w.none f deep c there (λ e. omega (arith, due.0))

    passes : Passes w c g.mesh (pass_at t turned g a).mesh (passage t r g.mesh a)
    passes =
        passes_by_tree w t only r g a sound codes arrives there (inr (due.0, refl)) one.good
        (no_errors w f r g.mesh.phase (opposite (entered w c)) some (phase ∙ now) (opposite_there (entered w c)) one.copy packet (was_each w j m wide high full c there one (Ages f r) ages) one.good (omega (arith, within_f, due.1)))
        (λ i near. still_up w g.mesh alike c i there near) free

  Ended : Going Tag → List Event → List (Arrival Tag) → Type 0
  Ended g es later = Midway w j (all w) (foldl (pass_at t turned) g later).mesh (es ++ passages t r g later)

  chip_by_chip : (n k : ℕ) → k + n ≡ all w → (g : Going Tag) (es : List Event) → SoundMesh g.mesh → CodesFor t g.mesh → Alike w.mesh g.mesh → g.mesh.phase ≡ m.phase → Midway w j k g.mesh es
      → Ended g es (arriving_from m k n)
  unfolding arriving_from passages Ended
  chip_by_chip zero k e g es sound codes alike phase mid =
      let last : k ≡ all w = omega arith in
      subst (λ (l : List Event). Midway w j (all w) g.mesh l) (sym (append-nil es)) (subst (λ (k : ℕ). Midway w j k g.mesh es) last mid)
  chip_by_chip (suc n) k e g es sound codes alike phase mid = go (dec_lt (entered w k) 6) (ℕ_discrete (depth w k) (suc j)) (λ g' es'. chip_by_chip n (suc k) (omega arith) g' es')
    where
      More : Type 0
      More = (g' : Going Tag) (es' : List Event) → SoundMesh g'.mesh → CodesFor t g'.mesh → Alike w.mesh g'.mesh → g'.mesh.phase ≡ m.phase → Midway w j (suc k) g'.mesh es'
          → Midway w j (all w) (foldl (pass_at t turned) g' (arriving_from m (suc k) n)).mesh (es' ++ passages t r g' (arriving_from m (suc k) n))

      here : k < all w
      here = omega arith

      nothing : (Due w j k → ⊥) → More → Ended g es (arriving_at m k ++ arriving_from m (suc k) n)
      nothing idle more =
          subst (λ (l : List (Arrival Tag)). Ended g es (l ++ arriving_from m (suc k) n)) (sym (none_arrives w j m wide high full k here idle))
          (more g es sound codes alike phase (nothing_comes w j k here g.mesh es mid idle))

      comes : Due w j k → More → Ended g es (arriving_at m k ++ arriving_from m (suc k) n)
      comes due more =
          let free : (i : ℕ) → i < 6 → (link_of g.mesh k i).held ≡ [] = λ i near. mid.todo k i (omega arith) here near in
          let x : Arrival Tag = a g sound codes alike phase k here free due in
          let p = passage t r g.mesh x in
          subst (λ (l : List (Arrival Tag)). Ended g es (l ++ arriving_from m (suc k) n)) (sym (one g sound codes alike phase k here free due).alone)
          (subst (Midway w j (all w) (foldl (pass_at t turned) (pass_at t turned g x) (arriving_from m (suc k) n)).mesh) (append_assoc es (packet_passed p ∷ []) (passages t r (pass_at t turned g x) (arriving_from m (suc k) n)))
          (more (pass_at t turned g x) (es ++ packet_passed p ∷ []) (sound_pass t turned g x sound codes (arrives g sound codes alike phase k here free due)) codes (alike_pass t turned g x alike) phase
          (copy_comes w j k here g.mesh es mid due.1 (pass_at t turned g x).mesh p (passes g sound codes alike phase k here free due))))

      go : Dec (entered w k < 6) → Dec (depth w k ≡ suc j) → More → Ended g es (arriving_at m k ++ arriving_from m (suc k) n)
      go (yes h) (yes l) more = comes (h, l) more
      go (yes h) (no l) more = nothing (λ due. l due.1) more
      go (no h) l more = nothing (λ due. h due.0) more

  pub whole_round : (g : Going Tag) (es : List Event) → SoundMesh g.mesh → CodesFor t g.mesh → Alike w.mesh g.mesh → g.mesh.phase ≡ m.phase → Midway w j 0 g.mesh es
      → Midway w j (all w) (foldl (pass_at t turned) g (arriving_from m 0 (m.height * m.width))).mesh (es ++ passages t r g (arriving_from m 0 (m.height * m.width)))
  unfolding Ended
  whole_round g es sound codes alike phase mid = chip_by_chip (m.height * m.width) 0 (omega (arith, as_many w m like)) g es sound codes alike phase mid
