-- What is known of a call that is accepted: the numbers that it names are there, its tables are for this mesh, its packet may pass; and the
-- state that it leaves, by the kind of the call.
use mathlib.Core.Path.{◌≡◌, refl, ap, ◌∙◌}
use mathlib.Core.Bool.{Bool, true, false, cond, and-eq-true_iff}
use mathlib.Core.List.{List, [], ◌∷◌, ◌++◌, append-nil}
use Prim.Native.Nat.{ℕ, ◌+◌, ◌*◌, ◌<◌}
use native.Mathlib.Nat.{add-zero}
use lib.Dec.{eqb, ltb}
use borrow.Author.Tests.{ltb-true, eqb-true, not-false}
use Rattle.packet.specs.Bytes.{packet_at}
use Rattle.packet.specs.Refusal.{first_of}
use Rattle.packet.proofs.First.{not_refused}
use Rattle.mesh.specs.Mesh.{Mesh, many}
use Rattle.mesh.specs.Lending.{Tables}
use Rattle.mesh.specs.Steps.{Arrival, Going, set_out, set_aside, arrivals, injected, rounded}
use Rattle.mesh.specs.Refusals.{place_in, inject_refusals, round_refusals, chip_refusals, link_refusals}
use Rattle.mesh.specs.Calls.{Left, unless, with_link, with_empty}
use Rattle.mesh.specs.Weights.{in_flight}
use Rattle.mesh.specs.Sound.{Passable}
use Rattle.mesh.proofs.SoundSteps.{CodesFor}
use Rattle.mesh.proofs.Accepts.{inject_goes, round_goes}
use Rattle.mesh.specs.Asked.{Look, Call, inject, round, set_link, read_registers, change, look, left_by}
use Rattle.promises.specs.History.{Tag, Given, State, Event, registers_emptied, turned, tag_of, tag_now, passages, accepted}

-- ---- the tests that have passed

module _ {A : Type 0} where
  pub unless_accepts : (n p : ℕ) (m : Mesh A) (g : Going A) → (unless n p m g).refusal ≡ 0 → n ≡ 0
  unless_accepts n p m g e = go (eqb n 0) refl e
    where
      go : (b : Bool) → eqb n 0 ≡ b
          → (cond {A = Left A} b (record { refusal = 0; place = 0; mesh = g.mesh; log = g.log }) (record { refusal = n; place = p; mesh = m; log = [] })).refusal ≡ 0 → n ≡ 0
      go true h e = eqb-true n 0 h
      go false h e = e

  pub unless_leaves : (n p : ℕ) (m : Mesh A) (g : Going A) → (unless n p m g).refusal ≡ 0 → unless n p m g ≡ record { refusal = 0; place = 0; mesh = g.mesh; log = g.log }
  unless_leaves n p m g e = ap (λ (k : ℕ). unless k p m g) (unless_accepts n p m g e)

  -- an injection that is accepted
  pub record Injects (m : Mesh A) (chip : ℕ) (bytes : List ℕ) (t : Tables) : Type 0 where
    pub there : chip < m.height * m.width
    pub passable : Passable (packet_at bytes)
    pub codes : CodesFor t m

module _ {A : Type 0} where
  pub inject_accepts : (m : Mesh A) (chip : ℕ) (bytes : List ℕ) (t : Tables) (room : ℕ) → first_of (inject_refusals true (many m) chip t room bytes) ≡ 0 → Injects m chip bytes t
  inject_accepts m chip bytes t room e =
      let go = inject_goes true (many m) chip t room bytes e in
      record { there = go.there; codes = go.lent.codes; passable = go.passable }

  pub round_accepts : (m : Mesh A) (flying : ℕ) (t : Tables) (room : ℕ) → first_of (round_refusals true (many m) flying t room) ≡ 0 → CodesFor t m
  round_accepts m flying t room e = (round_goes true (many m) flying t room e).lent.codes

  pub chip_accepts : (m : Mesh A) (chip : ℕ) → first_of (chip_refusals true (many m) chip) ≡ 0 → chip < m.height * m.width
  chip_accepts m chip e = ltb-true _ _ (not-false _ (not_refused (chip_refusals true (many m) chip) refl e 9))

  pub link_accepts : (m : Mesh A) (chip link : ℕ) → first_of (link_refusals true (many m) chip link) ≡ 0 → (chip < m.height * m.width) × (link < 6)
  link_accepts m chip link e =
      let both = (and-eq-true_iff (ltb chip (many m)) (ltb link 6)).0 (not-false _ (not_refused (link_refusals true (many m) chip link) refl e 9)) in
      (ltb-true _ _ both.0, ltb-true _ _ both.1)

-- ---- the state that is left

module _ (s : State) where
  -- what an injection hands in
  abbrev pub arrival_now : ℕ → List ℕ → Arrival Tag
  arrival_now chip bytes = record { chip = chip; source = 7; flight = record { packet = packet_at bytes; tag = tag_of s (packet_at bytes) } }

  abbrev pub after_injection : ℕ → List ℕ → Tables → State
  after_injection chip bytes t =
      record {
        mesh = (injected t turned s.mesh chip (arrival_now chip bytes).flight).mesh;
        given = s.given ++ record { packet = packet_at bytes; before = s.accepted } ∷ [];
        accepted = s.accepted;
        events = s.events ++ passages t s.accepted (set_out s.mesh) (arrival_now chip bytes ∷ []);
        log = s.log ++ (injected t turned s.mesh chip (arrival_now chip bytes).flight).log;
      }

  abbrev pub after_round : Tables → State
  after_round t =
      record {
        mesh = (rounded t turned s.mesh).mesh;
        given = s.given;
        accepted = s.accepted + 1;
        events = s.events ++ passages t s.accepted (set_out (set_aside s.mesh)) (arrivals s.mesh);
        log = s.log ++ (rounded t turned s.mesh).log;
      }

  abbrev pub after_link : ℕ → ℕ → Bool → State
  after_link chip link up = record { mesh = with_link s.mesh chip link up; given = s.given; accepted = s.accepted; events = s.events; log = s.log }

  abbrev pub after_read : ℕ → State
  after_read chip =
      record { mesh = with_empty s.mesh chip; given = s.given; accepted = s.accepted; events = s.events ++ registers_emptied chip ∷ []; log = s.log }

  -- what a call leaves
  abbrev here : Call → Left Tag
  here c = left_by turned (tag_now s c) s.mesh c

  -- a state, field by field
  abbrev plainly : Mesh Tag → List Event → List ℕ → List Given → ℕ → State
  plainly m events log given r = record { mesh = m; given = given; accepted = r; events = events; log = log }

  pub inject_leaves : (chip : ℕ) (bytes : List ℕ) (t : Tables) (room : ℕ) → (here (change (inject chip bytes t room))).refusal ≡ 0
      → accepted s (here (change (inject chip bytes t room))) (change (inject chip bytes t room)) ≡ after_injection chip bytes t
  inject_leaves chip bytes t room e =
      let k = after_injection chip bytes t in
      ap (λ (r : Left Tag). accepted s r (change (inject chip bytes t room)))
      (unless_leaves (first_of (inject_refusals true (many s.mesh) chip t room bytes)) (place_in t (many s.mesh) (first_of (inject_refusals true (many s.mesh) chip t room bytes))) s.mesh (injected t turned s.mesh chip (arrival_now chip bytes).flight) e)
      ∙ ap (λ (n : ℕ). plainly k.mesh k.events k.log k.given n) (add-zero s.accepted)

  pub round_leaves : (t : Tables) (room : ℕ) → (here (change (round t room))).refusal ≡ 0 → accepted s (here (change (round t room))) (change (round t room)) ≡ after_round t
  round_leaves t room e =
      let k = after_round t in
      ap (λ (r : Left Tag). accepted s r (change (round t room)))
      (unless_leaves (first_of (round_refusals true (many s.mesh) (in_flight s.mesh) t room)) (place_in t (many s.mesh) (first_of (round_refusals true (many s.mesh) (in_flight s.mesh) t room))) s.mesh (rounded t turned s.mesh) e)
      ∙ ap (λ (given : List Given). plainly k.mesh k.events k.log given (s.accepted + 1)) (append-nil s.given)

  -- nothing but the mesh and the events is another
  still : (m : Mesh Tag) (events : List Event)
      → plainly m events (s.log ++ []) (s.given ++ []) (s.accepted + 0) ≡ plainly m events s.log s.given s.accepted
  still m events = λ i. plainly m events (append-nil s.log i) (append-nil s.given i) (add-zero s.accepted i)

  -- nothing but the mesh is another
  quiet : (m : Mesh Tag)
      → plainly m (s.events ++ []) (s.log ++ []) (s.given ++ []) (s.accepted + 0) ≡ plainly m s.events s.log s.given s.accepted
  quiet m = still m (s.events ++ []) ∙ ap (λ (events : List Event). plainly m events s.log s.given s.accepted) (append-nil s.events)

  pub link_leaves : (chip link : ℕ) (up : Bool) → (here (change (set_link chip link up))).refusal ≡ 0 → accepted s (here (change (set_link chip link up))) (change (set_link chip link up)) ≡ after_link chip link up
  link_leaves chip link up e =
      ap (λ (r : Left Tag). accepted s r (change (set_link chip link up)))
      (unless_leaves (first_of (link_refusals true (many s.mesh) chip link)) 0 s.mesh (set_out (with_link s.mesh chip link up)) e)
      ∙ quiet (with_link s.mesh chip link up)

  pub read_leaves : (chip : ℕ) → (here (change (read_registers chip))).refusal ≡ 0 → accepted s (here (change (read_registers chip))) (change (read_registers chip)) ≡ after_read chip
  read_leaves chip e =
      ap (λ (r : Left Tag). accepted s r (change (read_registers chip)))
      (unless_leaves (first_of (chip_refusals true (many s.mesh) chip)) 0 s.mesh (set_out (with_empty s.mesh chip)) e)
      ∙ still (with_empty s.mesh chip) (s.events ++ registers_emptied chip ∷ [])

  pub look_leaves : (l : Look) → accepted s (here (look l)) (look l) ≡ s
  look_leaves l = quiet s.mesh
