-- What every kept call keeps: the mesh's size; records of six numbers; and where one is accepted there is a mesh, where one is refused no record.
use mathlib.Core.Path.{◌≡◌, refl}
use mathlib.Core.Bool.{Bool, true, false, cond, not}
use mathlib.Core.List.{List, [], ◌∷◌, foldl}
use Prim.Native.Nat.{ℕ, ◌%◌}
use native.Mathlib.Omega.{arith}
use lib.Dec.{eqb, ltb}
use lib.ListN.{length, length-append}
use borrow.Author.Tests.{eqb-true}
use Rattle.packet.specs.Refusal.{first_of}
use Rattle.packet.specs.Bytes.{packet_at}
use Rattle.steps.specs.declared.Outcome.{Outcome}
use Rattle.steps.specs.Links.{processors_of}
use Rattle.mesh.specs.Mesh.{Mesh, many}
use Rattle.mesh.specs.Lending.{Tables}
use Rattle.mesh.specs.Steps.{Arrival, Going, set_out, outcome_at, log_of, set_aside, arrivals, pass_at, injected, rounded}
use Rattle.mesh.specs.Weights.{in_flight}
use Rattle.mesh.specs.Refusals.{place_in, inject_refusals, round_refusals, link_refusals, chip_refusals}
use Rattle.mesh.specs.Calls.{Left, unless, with_link, with_empty}
use Rattle.records.specs.declared.Call.{Call}
use Rattle.records.specs.Records.{packet_of}
use Rattle.trace.specs.Replay.{making}

-- What is kept, of a mesh before and what a call leaves.
pub record Keeps {A : Type 0} (holds : Bool) (m : Mesh A) (x : Left A) : Type 0 where
  pub width : x.mesh.width ≡ m.width
  pub height : x.mesh.height ≡ m.height
  pub sixes : length x.log % 6 ≡ 0
  pub there : x.refusal ≡ 0 → holds ≡ true
  pub none : (x.refusal ≡ 0 → ⊥) → x.log ≡ []

-- a record has six numbers
record_six : (chip : ℕ) (o : Outcome) → length (log_of chip o) % 6 ≡ 0
record_six chip o = go (ltb o.wanted 64)
  where
    go : (b : Bool) → length (cond b [] (chip ∷ processors_of o.wanted ∷ o.errors ∷ o.packet.control ∷ o.packet.word ∷ o.packet.payload ∷ [])) % 6 ≡ 0
    go true = refl
    go false = refl

module _ {A : Type 0} where
  pub record Size (m : Mesh A) (g : Going A) : Type 0 where
    pub width : g.mesh.width ≡ m.width
    pub height : g.mesh.height ≡ m.height
    pub sixes : length g.log % 6 ≡ 0

  module _ (t : Tables) (turn : A → A) (m : Mesh A) where
    size_pass : (g : Going A) (a : Arrival A) → Size m g → Size m (pass_at t turn g a)
    size_pass g a h =
        let o = outcome_at t g.mesh a.chip a.source a.flight.packet in
        record { width = h.width; height = h.height; sixes = rw (length-append g.log (log_of a.chip o)) (omega (arith, h.sixes, record_six a.chip o)) }

    size_passes : (later : List (Arrival A)) (g : Going A) → Size m g → Size m (foldl (pass_at t turn) g later)
    size_passes [] g h = h
    size_passes (a ∷ later) g h = size_passes later (pass_at t turn g a) (size_pass g a h)

    pub size_injected : (chip : ℕ) (a : A) (bytes : List ℕ) → Size m (injected t turn m chip (record { packet = packet_at bytes; tag = a }))
    size_injected chip a bytes =
        size_pass (set_out m) (record { chip = chip; source = 7; flight = record { packet = packet_at bytes; tag = a } }) (record { width = refl; height = refl; sixes = refl })

    pub size_rounded : Size m (rounded t turn m)
    size_rounded =
        let h = size_passes (arrivals m) (set_out (set_aside m)) (record { width = refl; height = refl; sixes = refl }) in
        record { width = h.width; height = h.height; sixes = h.sixes }

  -- where a call is accepted there is a mesh
  module _ (holds : Bool) (n p : ℕ) (accepted : n ≡ 0 → holds ≡ true) (m : Mesh A) (g : Going A) (h : Size m g) where
    pub keeps_unless : Keeps holds m (unless n p m g)
    keeps_unless = go (eqb n 0) refl
      where
        go : (b : Bool) → eqb n 0 ≡ b → Keeps holds m (cond b (record { refusal = 0; place = 0; mesh = g.mesh; log = g.log }) (record { refusal = n; place = p; mesh = m; log = [] }))
        go true e = record { width = h.width; height = h.height; sixes = h.sixes; there = λ z. accepted (eqb-true n 0 e); none = λ some. absurd (some refl) }
        go false e = record { width = refl; height = refl; sixes = refl; there = accepted; none = λ some. refl }

  pub keeps_made : (holds : Bool) (t : Tables) (turn : A → A) (tag : A) (m : Mesh A) (room : ℕ) (c : Call) → Keeps holds m (making holds t turn tag m room c)
  keeps_made holds t turn tag m room c = go (eqb c.kind 1) (eqb c.kind 2) (eqb c.kind 3)
    where
      -- the numbers begin with 8 for want of a mesh
      mesh_there : (b : Bool) (rest : ℕ) → cond (not b) 8 rest ≡ 0 → b ≡ true
      mesh_there true rest e = refl
      mesh_there false rest e = absurd (omega arith)

      quiet : (n : Mesh A) → n.width ≡ m.width → n.height ≡ m.height → Size m (set_out n)
      quiet n w h = record { width = w; height = h; sixes = refl }

      first : ℕ
      first = first_of (inject_refusals holds (many m) c.chip t room (packet_of c))

      second : ℕ
      second = first_of (round_refusals holds (many m) (in_flight m) t room)

      one : Keeps holds m (unless first (place_in t (many m) first) m (injected t turn m c.chip (record { packet = packet_at (packet_of c); tag = tag })))
      one =
          keeps_unless holds first (place_in t (many m) first) (mesh_there holds _) m
          (injected t turn m c.chip (record { packet = packet_at (packet_of c); tag = tag }))
          (size_injected t turn m c.chip tag (packet_of c))

      two : Keeps holds m (unless second (place_in t (many m) second) m (rounded t turn m))
      two = keeps_unless holds second (place_in t (many m) second) (mesh_there holds _) m (rounded t turn m) (size_rounded t turn m)

      three : Keeps holds m (unless (first_of (link_refusals holds (many m) c.chip c.link)) 0 m (set_out (with_link m c.chip c.link (eqb c.up 1))))
      three =
          keeps_unless holds (first_of (link_refusals holds (many m) c.chip c.link)) 0 (mesh_there holds _) m (set_out (with_link m c.chip c.link (eqb c.up 1)))
          (quiet (with_link m c.chip c.link (eqb c.up 1)) refl refl)

      four : Keeps holds m (unless (first_of (chip_refusals holds (many m) c.chip)) 0 m (set_out (with_empty m c.chip)))
      four =
          keeps_unless holds (first_of (chip_refusals holds (many m) c.chip)) 0 (mesh_there holds _) m (set_out (with_empty m c.chip))
          (quiet (with_empty m c.chip) refl refl)

      go : (x y z : Bool)
          → Keeps holds m
          (cond x (unless first (place_in t (many m) first) m (injected t turn m c.chip (record { packet = packet_at (packet_of c); tag = tag })))
          (cond y (unless second (place_in t (many m) second) m (rounded t turn m))
          (cond z (unless (first_of (link_refusals holds (many m) c.chip c.link)) 0 m (set_out (with_link m c.chip c.link (eqb c.up 1))))
          (unless (first_of (chip_refusals holds (many m) c.chip)) 0 m (set_out (with_empty m c.chip))))))
      go true y z = one
      go false true z = two
      go false false true = three
      go false false false = four
