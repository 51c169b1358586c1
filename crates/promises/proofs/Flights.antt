-- What holds of every packet in flight, over passes: what holds of each arrival, and is handed on by a pass, holds of all that is in flight after
-- them; and what each such pass shows, every record of them shows.
use mathlib.Core.Path.{◌≡◌, refl, sym, subst}
use mathlib.Core.Bool.{Bool, true, false}
use mathlib.Core.List.{List, [], ◌∷◌, ◌++◌, foldl}
use Prim.Native.Nat.{ℕ, zero, suc, ◌+◌, ◌*◌, ◌≤◌, ◌<◌}
use native.Mathlib.Omega.{arith}
use lib.Dec.{lit<}
use lib.ListN.{length, get_or}
use Rattle.packet.specs.declared.Packet.{Packet}
use Rattle.steps.specs.declared.Outcome.{Outcome}
use Rattle.steps.specs.Links.{has}
use Rattle.steps.specs.Deciding.{packet_on, leg_packet}
use Rattle.links.specs.Link.{Flight, Link, idle, sent, link_after}
use Rattle.links.specs.Across.{across, opposite}
use Rattle.mesh.specs.Mesh.{Chip, Mesh, fresh, opened, chip_of}
use Rattle.mesh.specs.Lending.{Tables}
use Rattle.mesh.specs.Steps.{Arrival, Going, outcome_at, links_after, emptied, emptied_chip, set_aside, arriving_by, arriving_at, arriving_from, arrivals, pass_at}
use Rattle.mesh.specs.Calls.{with_link, with_empty}
use Rattle.lists.specs.Lists.{All}
use Rattle.mesh.specs.Sound.{Arrives, SoundChip, SoundMesh}
use Rattle.lists.proofs.Alls.{all_nil, all_any, all_append, all_get_d, all_or, all_set, all_map, all_weaken, all_replicate}
use Rattle.mesh.proofs.SoundSteps.{CodesFor, sound_pass}
use Rattle.promises.specs.History.{Tag, Passage, turned, passages}
use Rattle.promises.specs.Told.{EachFlight, EachPass}
use Rattle.promises.proofs.Runs.{passage}

-- what holds of all that arrives at each chip by each link holds of all arrivals of a round
module _ {A : Type 0} (P : Arrival A → Type 0) (m : Mesh A) (by : (chip source : ℕ) → chip < m.height * m.width → source < 6 → All P (arriving_by m chip source)) where
  at_chip : (chip : ℕ) → chip < m.height * m.width → All P (arriving_at m chip)
  at_chip chip h =
      join _ _ (join _ _ (join _ _ (join _ _ (join _ _ (by chip 0 h (lit< tt)) (by chip 1 h (lit< tt))) (by chip 2 h (lit< tt))) (by chip 3 h (lit< tt))) (by chip 4 h (lit< tt))) (by chip 5 h (lit< tt))
    where
      join : (xs ys : List (Arrival A)) → All P xs → All P ys → All P (xs ++ ys)
      join = all_append P

  from_chip : (n chip : ℕ) → chip + n ≤ m.height * m.width → All P (arriving_from m chip n)
  unfolding arriving_from
  from_chip zero chip h = all_nil P
  from_chip (suc n) chip h = all_append P _ _ (at_chip chip (omega arith)) (from_chip n (suc chip) (omega arith))

  pub all_arrivals : All P (arrivals m)
  all_arrivals = from_chip (m.height * m.width) 0 (omega arith)

module _ {A : Type 0} (Q : Flight A → Type 0) where
  abbrev EachHeld : Link A → Type 0
  EachHeld l = All Q l.held

  abbrev EachOn : Chip A → Type 0
  EachOn c = All EachHeld c.links

  -- ---- one pass

  -- of each packet that a pass sends, with the tag of the sending
  pub record Sends (o : Outcome) (tag : A) : Type 0 where
    pub links : (i : ℕ) → i < 6 → has o.sent i ≡ true → Q (record { packet = packet_on o i; tag = tag })
    pub leg : (i : ℕ) → i < 6 → has o.leg_sent i ≡ true → Q (record { packet = leg_packet o; tag = tag })

  each_sent : (b : Bool) (p : Packet) (tag : A) → (b ≡ true → Q (record { packet = p; tag = tag })) → All Q (sent b p tag)
  unfolding All
  each_sent true p tag h = (h refl, tt)
  each_sent false p tag h = tt

  -- a link with what it gets
  pub each_link_gets : (o : Outcome) (tag : A) (i : ℕ) (l : Link A) → (has o.sent i ≡ true → Q (record { packet = packet_on o i; tag = tag }))
      → (has o.leg_sent i ≡ true → Q (record { packet = leg_packet o; tag = tag }))
      → EachHeld l
      → EachHeld (link_after o tag i l)
  each_link_gets o tag i l packet leg a =
      all_append Q _ _ (all_append Q _ _ a (each_sent (has o.sent i) (packet_on o i) tag packet)) (each_sent (has o.leg_sent i) (leg_packet o) tag leg)

  each_links_after : (o : Outcome) (tag : A) (i : ℕ) (ls : List (Link A)) → i + length ls ≤ 6 → Sends o tag → All EachHeld ls → All EachHeld (links_after o tag i ls)
  unfolding All links_after
  each_links_after o tag i [] few h a = tt
  each_links_after o tag i (l ∷ ls) few h a = (each_link_gets o tag i l (h.links i (omega arith)) (h.leg i (omega arith)) a.0, each_links_after o tag (suc i) ls (omega arith) h a.1)

  fresh_each : EachOn fresh
  fresh_each = all_replicate EachHeld 6 idle (all_nil Q)

  pub each_any : ((x : Flight A) → Q x) → (m : Mesh A) → EachFlight Q m
  each_any h m = all_any EachOn (λ c. all_any EachHeld (λ l. all_any Q h l.held) c.links) m.chips

  pub each_opened : (w h f monitor : ℕ) → EachFlight Q (opened w h f monitor)
  each_opened w h f monitor = all_replicate EachOn (h * w) fresh fresh_each

  -- ---- what a round begins with

  pub each_aside : (m : Mesh A) → EachFlight Q (set_aside m)
  each_aside m =
      all_map EachOn emptied_chip m.chips
      (all_any _ (λ c. all_map EachHeld emptied c.links (all_any _ (λ l. all_nil Q) c.links)) m.chips)

  -- ---- arrivals

  -- a packet that comes by a link
  abbrev pub Arriving : Arrival A → Type 0
  Arriving a = (a.source < 6) × Q a.flight

  each_by : (m : Mesh A) → EachFlight Q m → (chip source : ℕ) → source < 6 → All Arriving (arriving_by m chip source)
  each_by m each chip source near = all_map Arriving _ _ (all_weaken Q _ (λ f q. (near, q)) _ link)
    where
      sender : EachOn (get_or m.chips (across m.width m.height chip source) fresh)
      sender = all_or EachOn m.chips _ fresh each fresh_each

      link : EachHeld (get_or (get_or m.chips (across m.width m.height chip source) fresh).links (opposite source) idle)
      link = all_or EachHeld _ (opposite source) idle sender (all_nil Q)

  -- what is in flight arrives in the next round
  pub each_arrival : (m : Mesh A) → EachFlight Q m → All Arriving (arrivals m)
  each_arrival m each = all_arrivals Arriving m (λ chip source there near. each_by m each chip source near)

  -- ---- the calls that pass nothing

  pub each_here : (m : Mesh A) (chip : ℕ) → EachFlight Q m → EachOn (chip_of m chip)
  each_here m chip each = all_or EachOn m.chips chip fresh each fresh_each

  pub each_linked : (m : Mesh A) (chip link : ℕ) (up : Bool) → EachFlight Q m → EachFlight Q (with_link m chip link up)
  each_linked m chip link up each =
      let here = each_here m chip each in
      all_set EachOn m.chips chip _ each (all_set EachHeld (chip_of m chip).links link _ here (all_or EachHeld (chip_of m chip).links link idle here (all_nil Q)))

  pub each_emptied : (m : Mesh A) (chip : ℕ) → EachFlight Q m → EachFlight Q (with_empty m chip)
  each_emptied m chip each = all_set EachOn m.chips chip _ each (each_here m chip each)

pub each_weaken : {A : Type 0} (P Q : Flight A → Type 0) → ((x : Flight A) → P x → Q x) → (m : Mesh A) → EachFlight P m → EachFlight Q m
each_weaken P Q f m = all_weaken (EachOn P) (EachOn Q) (λ c. all_weaken (EachHeld P) (EachHeld Q) (λ l. all_weaken P Q f l.held) c.links) m.chips

-- ---- passes, one after the other

-- what holds of a pass of arrival a, in any sound mesh of a phase
abbrev pub InPhase : {A : Type 0} → Tables → ℕ → (Arrival A → Type 0) → (Mesh A → Arrival A → Type 0) → Type 0
InPhase t phase P R = (m : Mesh _) → m.phase ≡ phase → SoundMesh m → CodesFor t m → (a : Arrival _) → Arrives (m.height * m.width) a → P a → R m a

module _ {A : Type 0} (t : Tables) (turn : A → A) (Q : Flight A → Type 0) where
  -- all that the pass of an arrival sends
  abbrev pub HandsOn : Mesh A → Arrival A → Type 0
  HandsOn m a = Sends Q (outcome_at t m a.chip a.source a.flight.packet) (turn a.flight.tag)

  pub each_after_pass : (g : Going A) (a : Arrival A) → SoundMesh g.mesh → Arrives (g.mesh.height * g.mesh.width) a → HandsOn g.mesh a → EachFlight Q g.mesh
      → EachFlight Q (pass_at t turn g a).mesh
  each_after_pass g a sound h sends each =
      all_set (EachOn Q) g.mesh.chips a.chip _ each (each_links_after Q _ _ 0 here.links (omega (arith, six)) sends links)
    where
      there : a.chip < length g.mesh.chips
      there = subst (λ (n : ℕ). a.chip < n) (sym sound.many) h.there

      here : Chip A
      here = get_or g.mesh.chips a.chip fresh

      six : length (get_or g.mesh.chips a.chip fresh).links ≡ 6
      six = (all_get_d SoundChip g.mesh.chips a.chip fresh sound.chips there).six

      links : EachOn Q (get_or g.mesh.chips a.chip fresh)
      links = all_get_d (EachOn Q) g.mesh.chips a.chip fresh each there

  pub each_after_passes : (P : Arrival A → Type 0) (phase : ℕ) → InPhase t phase P HandsOn → (g : Going A) (later : List (Arrival A)) → g.mesh.phase ≡ phase → SoundMesh g.mesh → CodesFor t g.mesh
      → All (Arrives (g.mesh.height * g.mesh.width)) later → All P later → EachFlight Q g.mesh → EachFlight Q (foldl (pass_at t turn) g later).mesh
  unfolding All
  each_after_passes P phase hands g [] now sound codes h p each = each
  each_after_passes P phase hands g (a ∷ later) now sound codes h p each =
      each_after_passes P phase hands (pass_at t turn g a) later now (sound_pass t turn g a sound codes h.0) codes h.1 p.1
      (each_after_pass g a sound h.0 (hands g.mesh now sound codes a h.0 p.0) each)

pub each_passage : (t : Tables) (P : Arrival Tag → Type 0) (R : Passage → Type 0) (n phase : ℕ) → InPhase t phase P (λ m a. R (passage t n m a)) → (g : Going Tag) (later : List (Arrival Tag))
    → g.mesh.phase ≡ phase → SoundMesh g.mesh → CodesFor t g.mesh → All (Arrives (g.mesh.height * g.mesh.width)) later → All P later → EachPass R (passages t n g later)
unfolding All EachPass passages
each_passage t P R n phase shows g [] now sound codes h p = tt
each_passage t P R n phase shows g (a ∷ later) now sound codes h p =
    (shows g.mesh now sound codes a h.0 p.0, each_passage t P R n phase shows (pass_at t turned g a) later now (sound_pass t turned g a sound codes h.0) codes h.1 p.1)
