-- The calls on a mesh that only look: what each refuses and answers. The mesh stays as it is.
use Rattle.std.specs.Prelude.{ℕ, Bool, cond, map, eqb, ltb, length, get_or}
use Rattle.packet.specs.Bytes.{nothing}
use Rattle.packet.specs.Refusal.{first_of}
use Rattle.steps.specs.Errors.{flag}
use Rattle.links.specs.Link.{Flight, Link, is_ready}
use Rattle.mesh.specs.declared.CountRead.{CountRead}
use Rattle.mesh.specs.declared.MeshRead.{MeshRead}
use Rattle.mesh.specs.declared.LinkRead.{LinkRead}
use Rattle.mesh.specs.declared.FlightRead.{FlightRead}
use Rattle.mesh.specs.Mesh.{Mesh, many, chip_of, link_of}
use Rattle.mesh.specs.Weights.{in_flight}
use Rattle.mesh.specs.Refusals.{link_refusals, counter_refusals}

-- "A refusal returns its number and zeros elsewhere".
abbrev pub no_flight : ℕ → FlightRead
no_flight refusal = record { refusal = refusal; packet = nothing }

module _ {A : Type 0} where
  abbrev pub count_read : Bool → Mesh A → ℕ → ℕ → CountRead
  count_read holds m chip counter =
      let refusal = first_of (counter_refusals holds (many m) chip counter) in
      record { refusal = refusal; count = cond (eqb refusal 0) (get_or (chip_of m chip).counters.count counter 0) 0 }

  -- A mesh as a look shows it, with so many packets in flight.
  abbrev pub mesh_shown : Mesh A → ℕ → MeshRead
  mesh_shown m flying =
      record {
        refusal = 0;
        width = m.width;
        height = m.height;
        rounds_per_phase = m.rounds;
        monitor = m.monitor;
        phase = m.phase;
        rounds_in_phase = m.elapsed;
        in_flight = flying;
      }

  abbrev pub mesh_read : Bool → Mesh A → MeshRead
  mesh_read holds m =
      cond holds (mesh_shown m (in_flight m))
      (record { refusal = 8; width = 0; height = 0; rounds_per_phase = 0; monitor = 0; phase = 0; rounds_in_phase = 0; in_flight = 0 })

  abbrev pub link_shown : Link A → LinkRead
  link_shown l = record { refusal = 0; up = flag l.up 1; held = length l.held; ready = flag (is_ready l) 1 }

  abbrev pub link_read : Bool → Mesh A → ℕ → ℕ → LinkRead
  link_read holds m chip link =
      let refusal = first_of (link_refusals holds (many m) chip link) in
      cond (eqb refusal 0) (link_shown (link_of m chip link)) (record { refusal = refusal; up = 0; held = 0; ready = 0 })

  -- The packets of a link, the oldest first, and the one at a place; 9 where the link holds none there.
  abbrev pub place_read : Link A → ℕ → FlightRead
  place_read l place =
      cond (ltb place (length l.held))
      (record { refusal = 0; packet = get_or (map (λ (f : Flight A). f.packet) l.held) place nothing })
      (no_flight 9)

  abbrev pub flight_read : Bool → Mesh A → ℕ → ℕ → ℕ → FlightRead
  flight_read holds m chip link place =
      let refusal = first_of (link_refusals holds (many m) chip link) in
      cond (eqb refusal 0) (place_read (link_of m chip link) place) (no_flight refusal)
