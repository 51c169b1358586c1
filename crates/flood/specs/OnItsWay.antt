-- A P2P packet on its way by these codes, pass by pass: "with the links as given and room on them, a P2P packet without error, following the codes,
-- crosses the fewest links possible". What one pass of it does.
use Rattle.std.specs.Prelude.{ℕ, suc, ◌+◌, ◌*◌, ◌/◌, ◌%◌, ◌^◌, ◌<◌, ◌≡◌, true, List}
use Rattle.packet.specs.declared.Packet.{Packet}
use Rattle.packet.specs.Control.{kind_of}
use Rattle.steps.specs.declared.Outcome.{Outcome}
use Rattle.steps.specs.Links.{has, processors_of}
use Rattle.steps.specs.Errors.{errors_of}
use Rattle.steps.specs.Deciding.{packet_on}
use Rattle.mesh.specs.Mesh.{Mesh, ready_of, many}
use Rattle.mesh.specs.Lending.{Tables}
use Rattle.mesh.specs.Steps.{outcome_at}
use Rattle.mesh.specs.Sound.{SoundMesh}
use Rattle.flood.specs.Ways.{Way, beyond, fewest}
use Rattle.flood.specs.Codes.{code_of, codes_of}

-- "An ID is x in its high byte, y in its low byte"; chips are numbered y * W + x.
abbrev pub id_of : {A : Type 0} → Mesh A → ℕ → ℕ
id_of m chip = chip % m.width * 256 + chip / m.width

-- A P2P packet without error at a chip, with its destination, and tables that hold these codes.
pub record Follows {A : Type 0} (m : Mesh A) (t : Tables) (p : Packet) (source from to : ℕ) : Type 0 where
  pub codes : t.codes ≡ codes_of m
  pub control : p.control < 256
  pub kind : kind_of p.control ≡ 1
  pub errors : errors_of p source m.phase ≡ 0
  pub destination : p.word % 65536 ≡ id_of m to
  pub at : from < many m
  pub there : to < many m

-- A pass that sends one packet by one link and does nothing else: no processor gets it, nothing is dropped, and what is sent has the same type and destination.
pub record SentOn (o : Outcome) (p : Packet) (i : ℕ) : Type 0 where
  pub sent : o.sent ≡ 2 ^ i
  pub processors : processors_of o.wanted ≡ 0
  pub carried : o.carried ≡ 0
  pub dropped : o.dropped ≡ 0
  pub leg_sent : o.leg_sent ≡ 0
  pub leg_dropped : o.leg_dropped ≡ 0
  pub kind : kind_of (packet_on o i).control ≡ kind_of p.control
  pub word : (packet_on o i).word ≡ p.word

-- Over its code's link, which leads to a chip one link nearer.
pub record Nearer {A : Type 0} (m : Mesh A) (from to : ℕ) (o : Outcome) (p : Packet) : Type 0 where
  pub link : code_of m from to < 6
  pub sent : SentOn o p (code_of m from to)
  pub at : beyond m from (code_of m from to) < many m
  pub nearer : suc (fewest m (beyond m from (code_of m from to)) to) ≡ fewest m from to

-- A pass that hands the packet to one processor and sends nothing.
pub record HandedOver (o : Outcome) (processor : ℕ) : Type 0 where
  pub processors : processors_of o.wanted ≡ 2 ^ processor
  pub sent : o.sent ≡ 0
  pub carried : o.carried ≡ 0
  pub dropped : o.dropped ≡ 0
  pub leg_sent : o.leg_sent ≡ 0
  pub leg_dropped : o.leg_dropped ≡ 0

module _ (A : Type 0) (m : Mesh A) (t : Tables) (p : Packet) (source : ℕ) where
  -- At a chip with a way to another, where the code's link is ready.
  abbrev pub OneLinkNearerAt : ℕ → ℕ → Type 0
  OneLinkNearerAt from to =
      Follows m t p source from to → (from ≡ to → ⊥) → (links : List ℕ) → Way m from to links → has (ready_of m from) (code_of m from to) ≡ true → Nearer m from to (outcome_at t m from source p) p

  -- At its destination, the monitor's alone.
  abbrev pub HandedOverAt : ℕ → Type 0
  HandedOverAt to = Follows m t p source to to → HandedOver (outcome_at t m to source p) m.monitor

abbrev pub OneLinkNearer : Type 1
OneLinkNearer = (A : Type 0) (m : Mesh A) → SoundMesh m → (t : Tables) (p : Packet) (source from to : ℕ) → OneLinkNearerAt A m t p source from to

abbrev pub HandedToTheMonitor : Type 1
HandedToTheMonitor = (A : Type 0) (m : Mesh A) → SoundMesh m → (t : Tables) (p : Packet) (source to : ℕ) → HandedOverAt A m t p source to
