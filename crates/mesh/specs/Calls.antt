-- The calls that change a mesh: what each answers, and the mesh and the records that it leaves.
use Rattle.std.specs.Prelude.{ℕ, ◌/◌, Bool, cond, List, [], ◌++◌, eqb, length, drop, set}
use Rattle.packet.specs.Bytes.{packet_at}
use Rattle.packet.specs.Refusal.{first_of}
use Rattle.kept.specs.Keeping.{empty}
use Rattle.mesh.specs.declared.Added.{Added}
use Rattle.mesh.specs.declared.RegistersRead.{RegistersRead}
use Rattle.links.specs.Link.{Link}
use Rattle.mesh.specs.Mesh.{Mesh, many, chip_of, link_of}
use Rattle.mesh.specs.Lending.{Tables}
use Rattle.mesh.specs.Refusals.{place_in, inject_refusals, round_refusals, chip_refusals, link_refusals}
use Rattle.mesh.specs.Steps.{Going, set_out, with_chip, injected, rounded}
use Rattle.mesh.specs.Weights.{in_flight}

-- The refusal or 0, its place, the mesh, and the records added to the log.
pub record Left (A : Type 0) : Type 0 where
  pub refusal : ℕ
  pub place : ℕ
  pub mesh : Mesh A
  pub log : List ℕ

-- "Injection and round answer how many were added."
abbrev pub added_of : {A : Type 0} → Left A → Added
added_of r = record { refusal = r.refusal; added = length r.log / 6; place = r.place }

-- "Log beyond the records written is untouched."
abbrev pub logged_on : List ℕ → List ℕ → List ℕ
logged_on records log = records ++ drop (length records) log

module _ {A : Type 0} where
  -- "A refusal returns its number ..., and lent memory stays as it came."
  abbrev pub unless : ℕ → ℕ → Mesh A → Going A → Left A
  unless refusal place m g =
      cond (eqb refusal 0) (record { refusal = 0; place = 0; mesh = g.mesh; log = g.log }) (record { refusal = refusal; place = place; mesh = m; log = [] })

  -- ---- injection and round; a sending turns the tag of a packet, and an injected one begins with the tag that is given

  module _ (holds : Bool) (t : Tables) (turn : A → A) (m : Mesh A) (room : ℕ) where
    abbrev pub injecting : ℕ → List ℕ → A → Left A
    injecting chip bytes tag =
        let refusal = first_of (inject_refusals holds (many m) chip t room bytes) in
        unless refusal (place_in t (many m) refusal) m (injected t turn m chip (record { packet = packet_at bytes; tag = tag }))

    abbrev pub rounding : Left A
    rounding =
        let refusal = first_of (round_refusals holds (many m) (in_flight m) t room) in
        unless refusal (place_in t (many m) refusal) m (rounded t turn m)

  -- ---- the calls that change one thing

  abbrev pub with_up : Bool → Link A → Link A
  with_up up l = record { up = up; held = l.held }

  abbrev pub with_link : Mesh A → ℕ → ℕ → Bool → Mesh A
  with_link m chip link up =
      let c = chip_of m chip in
      with_chip m chip (record { registers = c.registers; counters = c.counters; links = set c.links link (with_up up (link_of m chip link)) })

  -- "A link change sets the one directed link it names up or down, as asked, and nothing else".
  abbrev pub linking : Bool → Mesh A → ℕ → ℕ → Bool → Left A
  linking holds m chip link up =
      unless (first_of (link_refusals holds (many m) chip link)) 0 m (set_out (with_link m chip link up))

  abbrev pub with_empty : Mesh A → ℕ → Mesh A
  with_empty m chip = let c = chip_of m chip in with_chip m chip (record { registers = empty; counters = c.counters; links = c.links })

  -- "Reading hands them over and empties them; empty ones are all zeros."
  abbrev pub emptying : Bool → Mesh A → ℕ → Left A
  emptying holds m chip = unless (first_of (chip_refusals holds (many m) chip)) 0 m (set_out (with_empty m chip))

  abbrev pub registers_read : Bool → Mesh A → ℕ → RegistersRead
  registers_read holds m chip =
      let refusal = first_of (chip_refusals holds (many m) chip) in
      record { refusal = refusal; registers = cond (eqb refusal 0) (chip_of m chip).registers empty }
