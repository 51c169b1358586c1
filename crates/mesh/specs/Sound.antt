-- What holds of every mesh that a buffer may hold, said of the mesh and not of its words: the ranges of the rules, at most 8 packets a link,
-- each packet in flight right in length and parity, not NN with T = 1.
use Rattle.std.specs.Prelude.{ℕ, ◌*◌, ◌≤◌, ◌<◌, ◌≡◌, ◌⊎◌, true, false, Bool, ◌&&◌, ◌||◌, not, length, eqb, ltb, leb}
use Rattle.packet.specs.declared.Packet.{Packet}
use Rattle.packet.specs.Control.{is_direct}
use Rattle.packet.specs.Parity.{is_odd}
use Rattle.tables.specs.Sizes.{size_fine}
use Rattle.links.specs.Link.{Flight, Link, Right}
use Rattle.mesh.specs.Mesh.{Chip, Mesh, rounds_fine}
use Rattle.mesh.specs.Steps.{Arrival}
use Rattle.kept.specs.declared.Registers.{Registers}
use Rattle.kept.specs.Keeping.{is_empty, most_units, more_of}
use Rattle.lists.specs.Lists.{All}

-- A packet in flight; its length is right as it is read, and a payload that is not there is 0.
abbrev pub packet_fine : Packet → Bool
packet_fine p =
    ltb p.control 256 && not (is_direct p.control) && is_odd p && (eqb p.nine 1 || eqb p.payload 0)

-- Each number but that of the units is 0.
abbrev pub all_zeros : Registers → Bool
all_zeros r =
    eqb r.control 0 && eqb r.word 0 && eqb r.payload 0 && eqb r.link 0 && eqb r.leg 0 && eqb r.more 0 && eqb r.source 0 && eqb r.phase 0

-- Registers, number by number; "empty ones are all zeros".
abbrev pub registers_fine : Registers → Bool
registers_fine r =
    ltb r.control 256 && ltb r.link 6 && leb r.leg 1 && eqb r.more (more_of r.units) && (ltb r.source 6 || eqb r.source 7) && leb r.phase 3
    && leb r.units most_units
    && (not (is_empty r) || all_zeros r)

-- A packet that may pass: one in flight, or one that an injection has accepted.
pub record Passable (p : Packet) : Type 0 where
  pub control : p.control < 256
  pub plain : is_direct p.control ≡ false
  pub nine : p.nine < 2
  pub absent : p.nine ≡ 0 → p.payload ≡ 0

-- Such a packet where it arrives: at a chip that is there, by a link or from the chip itself.
pub record Arrives {A : Type 0} (chips : ℕ) (a : Arrival A) : Type 0 where
  pub there : a.chip < chips
  pub from : (a.source < 6) ⊎ (a.source ≡ 7)
  pub passable : Passable a.flight.packet

pub record SoundPacket (p : Packet) : Type 0 where
  pub fine : packet_fine p ≡ true
  pub right : Right p

module _ {A : Type 0} where
  pub record SoundLink (l : Link A) : Type 0 where
    pub few : length l.held ≤ 8
    pub fine : All (λ (f : Flight A). SoundPacket f.packet) l.held

  pub record SoundChip (c : Chip A) : Type 0 where
    pub six : length c.links ≡ 6
    pub registers : registers_fine c.registers ≡ true
    pub links : All SoundLink c.links

  pub record SoundMesh (m : Mesh A) : Type 0 where
    pub size : size_fine m.width m.height ≡ true
    pub rounds : rounds_fine m.rounds ≡ true
    pub monitor : m.monitor ≤ 19
    pub phase : m.phase ≤ 3
    pub elapsed : m.elapsed < m.rounds
    pub many : length m.chips ≡ m.height * m.width
    pub chips : All SoundChip m.chips
