-- The whole way of a P2P packet by these codes: "with the links as given and room on them, a P2P packet without error, following the codes, crosses the fewest links possible, if that
-- number is at most F."
use Rattle.std.specs.Prelude.{ℕ, zero, suc, ◌≤◌, ◌<◌, ◌≡◌, true, List}
use Rattle.packet.specs.declared.Packet.{Packet}
use Rattle.steps.specs.Links.{has}
use Rattle.steps.specs.Deciding.{packet_on}
use Rattle.links.specs.Across.{opposite}
use Rattle.mesh.specs.Mesh.{Mesh, ready_of, many}
use Rattle.mesh.specs.Lending.{Tables}
use Rattle.mesh.specs.Steps.{outcome_at, round_over}
use Rattle.mesh.specs.Sound.{SoundMesh}
use Rattle.flood.specs.Ways.{is_up, beyond, Way, fewest}
use Rattle.flood.specs.Codes.{code_of}
use Rattle.flood.specs.OnItsWay.{Follows, SentOn, HandedOver}

-- The mesh as each pass of a packet finds it, up to the last: an injection first, then a pass in every round. What else happens in it is left open, but for the links' states, which stay as
-- they are given.
pub record InTurn {A : Type 0} (at : ℕ → Mesh A) (last : ℕ) : Type 0 where
  pub sound : (k : ℕ) → k ≤ last → SoundMesh (at k)
  pub width : (k : ℕ) → k ≤ last → (at k).width ≡ (at 0).width
  pub height : (k : ℕ) → k ≤ last → (at k).height ≡ (at 0).height
  pub rounds : (k : ℕ) → k ≤ last → (at k).rounds ≡ (at 0).rounds
  pub links : (k chip i : ℕ) → k ≤ last → chip < many (at 0) → i < 6 → is_up (at k) chip i ≡ is_up (at 0) chip i
  -- the round after the injection
  pub phase : 1 ≤ last → (at 1).phase ≡ (at 0).phase
  pub elapsed : 1 ≤ last → (at 1).elapsed ≡ (at 0).elapsed
  -- and each after that
  pub next_phase_lem : (k : ℕ) → suc (suc k) ≤ last → (at (suc (suc k))).phase ≡ (round_over (at (suc k))).phase
  pub next_elapsed : (k : ℕ) → suc (suc k) ≤ last → (at (suc (suc k))).elapsed ≡ (round_over (at (suc k))).elapsed

-- Where a packet passes, from which source, and as it comes there.
pub record Place : Type 0 where
  pub chip : ℕ
  pub source : ℕ
  pub packet : Packet

module _ {A : Type 0} (t : Tables) (at : ℕ → Mesh A) (to : ℕ) where
  -- "A packet sent by link i arrives by link (i+3) mod 6."
  abbrev pub sent_to : Mesh A → Place → Place
  sent_to m a =
      let i = code_of m a.chip to in
      record { chip = beyond m a.chip i; source = opposite i; packet = packet_on (outcome_at t m a.chip a.source a.packet) i }

  -- After so many passes, each by its code's link.
  unfoldable pub place_after : Place → ℕ → Place
  place_after a zero = a
  place_after a (suc k) = sent_to (at k) (place_after a k)

  -- Each pass before the last sends it by its code's link and does nothing else with it; the last is at its destination and hands it, without error, to the monitor alone.
  pub record Crosses (a : Place) (links : ℕ) : Type 0 where
    pub sent : (k : ℕ) → k < links
        → SentOn (outcome_at t (at k) (place_after a k).chip (place_after a k).source (place_after a k).packet) (place_after a k).packet (code_of (at k) (place_after a k).chip to)
    pub there : (place_after a links).chip ≡ to
    pub handed : HandedOver (outcome_at t (at links) to (place_after a links).source (place_after a links).packet) (at links).monitor
    pub right : (outcome_at t (at links) to (place_after a links).source (place_after a links).packet).errors ≡ 0

-- A local packet, `links` any way that it could go.
abbrev pub local : ℕ → Packet → Place
local from p = record { chip = from; source = 7; packet = p }

abbrev pub WholeWay : Type 1
WholeWay = (A : Type 0) (at : ℕ → Mesh A) (t : Tables) (p : Packet) (from to : ℕ) → InTurn at (fewest (at 0) from to) → Follows (at 0) t p 7 from to → (links : List ℕ) → Way (at 0) from to links
    → fewest (at 0) from to ≤ (at 0).rounds
    → ((k : ℕ) → k < fewest (at 0) from to → has (ready_of (at k) (place_after t at to (local from p) k).chip) (code_of (at k) (place_after t at to (local from p) k).chip to) ≡ true)
    → Crosses t at to (local from p) (fewest (at 0) from to)
