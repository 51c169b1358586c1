-- Forgetting the tags gives, call by call, the meshes, answers and logs of the calls' contracts; so a buffer that holds a state's mesh holds the
-- next state's after the call.
use mathlib.Core.Path.{◌≡◌, refl, sym, ap, ◌∙◌}
use mathlib.Core.Bool.{Bool, true, false, cond}
use mathlib.Core.List.{List, [], ◌∷◌, map}
use Prim.Native.Nat.{ℕ}
use lib.Dec.{eqb, ltb}
use lib.ListN.{length, get_or, set, length-map}
use borrow.Author.Tests.{eqb-true, eqb-false}
use Rattle.steps.specs.Errors.{flag}
use Rattle.packet.specs.declared.Packet.{Packet}
use Rattle.packet.specs.Bytes.{packet_at, nothing}
use Rattle.packet.specs.Refusal.{first_of}
use Rattle.kept.specs.Keeping.{empty}
use Rattle.mesh.specs.declared.LinkRead.{LinkRead}
use Rattle.mesh.specs.declared.FlightRead.{FlightRead}
use Rattle.links.specs.Link.{Flight, Link, idle, is_ready}
use Rattle.mesh.specs.Mesh.{Chip, Mesh, fresh, many, link_of}
use Rattle.buffer.specs.Layout.{mesh_of}
use Rattle.buffer.specs.Holding.{holds_mesh}
use Rattle.mesh.specs.Steps.{Going, with_chip, injected, rounded, same, set_out}
use Rattle.mesh.specs.Refusals as refusals
use Rattle.mesh.specs.Calls as calls
use Rattle.mesh.specs.Looks as looks
use Rattle.mesh.specs.Weights.{in_flight}
use Rattle.mesh.specs.Asked.{Look, Call, inject, round, set_link, read_registers, read_counter, look_mesh, look_link, look_flight, change, look, refusal_of, seen_by, of_added, of_refusal, of_registers, of_count, of_mesh, of_link, of_flight, left_by, answer_of, Seen, of_look}
use Rattle.promises.specs.History.{Tag, turned, tag_now, accepted, after}
use Rattle.promises.specs.Told.{plain_flight, plain_link, plain_chip, plain, plain_left}
use Rattle.promises.specs.Demand3.{Forgetting, Program}
use Rattle.lists.proofs.Changed.{map_set}
use Rattle.promises.proofs.Plains.{plain_going, plain_chip_lem, plain_link_lem, plain_ready, plain_flying, plain_with, plain_pass, plain_rounded}

module _ {A : Type 0} where
  plain_unless : (n p : ℕ) (m : Mesh A) (g : Going A) → plain_left (calls.unless n p m g) ≡ calls.unless n p (plain m) (plain_going g)
  plain_unless n p m g = go (eqb n 0)
    where
      go : (b : Bool)
          → plain_left (cond b (record { refusal = 0; place = 0; mesh = g.mesh; log = g.log }) (record { refusal = n; place = p; mesh = m; log = [] }))
          ≡ cond b (record { refusal = 0; place = 0; mesh = plain g.mesh; log = g.log }) (record { refusal = n; place = p; mesh = plain m; log = [] })
      go true = refl
      go false = refl

  plain_of : (m : Mesh A) (chip link : ℕ) → link_of (plain m) chip link ≡ plain_link (link_of m chip link)
  plain_of m chip link =
      ap (λ (c : Chip (Unit {0})). get_or c.links link idle) (plain_chip_lem m chip) ∙ plain_link_lem (get_or m.chips chip fresh) link

  plain_set : (m : Mesh A) (chip link : ℕ) (up : Bool) → plain (calls.with_link m chip link up) ≡ calls.with_link (plain m) chip link up
  plain_set m chip link up =
      let c = get_or m.chips chip fresh in
      let chip_with : Chip (Unit {0}) → List (Link (Unit {0})) → Chip (Unit {0}) = λ x links. record { registers = x.registers; counters = x.counters; links = links } in
      plain_with m chip _
      ∙ ap (λ (links : List (Link (Unit {0}))). with_chip (plain m) chip (chip_with (plain_chip c) links)) (map_set plain_link c.links link (calls.with_up up (link_of m chip link)))
      ∙ (λ k. with_chip (plain m) chip (chip_with (sym (plain_chip_lem m chip) k) (set (sym (plain_chip_lem m chip) k).links link (calls.with_up up (sym (plain_of m chip link) k)))))

  plain_empty : (m : Mesh A) (chip : ℕ) → plain (calls.with_empty m chip) ≡ calls.with_empty (plain m) chip
  plain_empty m chip =
      plain_with m chip _
      ∙ ap (λ (x : Chip (Unit {0})). with_chip (plain m) chip (record { registers = empty; counters = x.counters; links = x.links })) (sym (plain_chip_lem m chip))

  plain_looked : (m : Mesh A) (chip link : ℕ) → looks.link_read true m chip link ≡ looks.link_read true (plain m) chip link
  plain_looked m chip link =
      let n = first_of (refusals.link_refusals true (many m) chip link) in
      let l = link_of m chip link in
      let answer : Bool → ℕ → Bool → LinkRead =
      λ up held ready.
      cond (eqb n 0) (record { refusal = 0; up = flag up 1; held = held; ready = flag ready 1 })
      (record { refusal = n; up = 0; held = 0; ready = 0 }) in
      (λ k. answer l.up (sym (length-map l.held plain_flight) k) (sym (plain_ready l) k))
      ∙ ap (λ (x : Link (Unit {0})). answer x.up (length x.held) (is_ready x)) (sym (plain_of m chip link))

  plain_packets : (fs : List (Flight A)) → map (λ (f : Flight A). f.packet) fs ≡ map (λ (f : Flight (Unit {0})). f.packet) (map plain_flight fs)
  plain_packets [] = refl
  plain_packets (f ∷ fs) = ap (λ (ps : List Packet). f.packet ∷ ps) (plain_packets fs)

  plain_seen : (m : Mesh A) (chip link place : ℕ) → looks.flight_read true m chip link place ≡ looks.flight_read true (plain m) chip link place
  plain_seen m chip link place =
      let n = first_of (refusals.link_refusals true (many m) chip link) in
      let l = link_of m chip link in
      let answer : ℕ → List Packet → FlightRead =
      λ held packets.
      cond (eqb n 0) (cond (ltb place held) (record { refusal = 0; packet = get_or packets place nothing }) (looks.no_flight 9)) (looks.no_flight n) in
      (λ k. answer (sym (length-map l.held plain_flight) k) (plain_packets l.held k))
      ∙ ap (λ (x : Link (Unit {0})). answer (length x.held) (map (λ (f : Flight (Unit {0})). f.packet) x.held)) (sym (plain_of m chip link))

  forgets_seen : (m : Mesh A) (l : Look) → seen_by m l ≡ seen_by (plain m) l
  forgets_seen m (read_counter chip counter) =
      let n = first_of (refusals.counter_refusals true (many m) chip counter) in
      ap (λ (x : Chip (Unit {0})). of_count (record { refusal = n; count = cond (eqb n 0) (get_or x.counters.count counter 0) 0 })) (sym (plain_chip_lem m chip))
  forgets_seen m look_mesh = ap (λ (flying : ℕ). of_mesh (looks.mesh_shown m flying)) (sym (plain_flying m))
  forgets_seen m (look_link chip link) = ap of_link (plain_looked m chip link)
  forgets_seen m (look_flight chip link place) = ap of_flight (plain_seen m chip link place)

  module _ (turn : A → A) (tag : A) (m : Mesh A) where
    forgets_left : (c : Call) → plain_left (left_by turn tag m c) ≡ left_by same tt (plain m) c
    forgets_left (change (inject chip bytes t room)) =
        let n = first_of (refusals.inject_refusals true (many m) chip t room bytes) in
        let f : Flight A = record { packet = packet_at bytes; tag = tag } in
        plain_unless n (refusals.place_in t (many m) n) m (injected t turn m chip f)
        ∙ ap (λ (g : Going (Unit {0})). calls.unless n (refusals.place_in t (many m) n) (plain m) g)
        (plain_pass t turn (set_out m) (record { chip = chip; source = 7; flight = f }))
    forgets_left (change (round t room)) =
        let number : ℕ → ℕ = λ flying. first_of (refusals.round_refusals true (many m) flying t room) in
        plain_unless (number (in_flight m)) (refusals.place_in t (many m) (number (in_flight m))) m (rounded t turn m)
        ∙ (λ k. calls.unless (number (sym (plain_flying m) k)) (refusals.place_in t (many m) (number (sym (plain_flying m) k))) (plain m) (plain_rounded t turn m k))
    forgets_left (change (set_link chip link up)) =
        let n = first_of (refusals.link_refusals true (many m) chip link) in
        plain_unless n 0 m (set_out (calls.with_link m chip link up))
        ∙ ap (λ (x : Mesh (Unit {0})). calls.unless n 0 (plain m) (set_out x)) (plain_set m chip link up)
    forgets_left (change (read_registers chip)) =
        let n = first_of (refusals.chip_refusals true (many m) chip) in
        plain_unless n 0 m (set_out (calls.with_empty m chip))
        ∙ ap (λ (x : Mesh (Unit {0})). calls.unless n 0 (plain m) (set_out x)) (plain_empty m chip)
    forgets_left (look l) = ap (λ (r : Seen). record { refusal = refusal_of r; place = 0; mesh = plain m; log = [] }) (forgets_seen m l)

    forgets_answer : (c : Call) → answer_of turn tag m c ≡ answer_of same tt (plain m) c
    forgets_answer (change (inject chip bytes t room)) = ap (λ (r : calls.Left (Unit {0})). of_added (calls.added_of r)) (forgets_left (change (inject chip bytes t room)))
    forgets_answer (change (round t room)) = ap (λ (r : calls.Left (Unit {0})). of_added (calls.added_of r)) (forgets_left (change (round t room)))
    forgets_answer (change (set_link chip link up)) = ap (λ (r : calls.Left (Unit {0})). of_refusal r.refusal) (forgets_left (change (set_link chip link up)))
    forgets_answer (change (read_registers chip)) =
        let n = first_of (refusals.chip_refusals true (many m) chip) in
        ap (λ (x : Chip (Unit {0})). of_registers (record { refusal = n; registers = cond (eqb n 0) x.registers empty })) (sym (plain_chip_lem m chip))
    forgets_answer (look l) = ap of_look (forgets_seen m l)

pub forgetting : Forgetting
forgetting A turn tag m c = (forgets_left turn tag m c, forgets_answer turn tag m c)

pub program : Program
unfolding after
program s c before after' holds e leaves = go (eqb r.refusal 0) refl
  where
    r : calls.Left Tag
    r = left_by turned (tag_now s c) s.mesh c

    forgotten : left_by same tt (mesh_of before) c ≡ plain_left (left_by turned (tag_now s c) s.mesh c)
    forgotten = ap (λ (m : Mesh (Unit {0})). left_by same tt m c) e ∙ sym (forgets_left turned (tag_now s c) s.mesh c)

    refusal : (left_by same tt (mesh_of before) c).refusal ≡ (left_by turned (tag_now s c) s.mesh c).refusal
    refusal = ap (λ (x : calls.Left (Unit {0})). x.refusal) forgotten

    go : (b : Bool) → eqb (left_by turned (tag_now s c) s.mesh c).refusal 0 ≡ b
        → (holds_mesh after' ≡ true) × (mesh_of after' ≡ plain (cond b (accepted s (left_by turned (tag_now s c) s.mesh c) c) s).mesh)
    go true z =
        let none = refusal ∙ eqb-true _ _ z in
        (leaves.holds none, leaves.mesh none ∙ ap (λ (x : calls.Left (Unit {0})). x.mesh) forgotten)
    go false z =
        let kept : after' ≡ before = leaves.refused (λ none. eqb-false _ _ z (sym refusal ∙ none)) in
        (ap holds_mesh kept ∙ holds, ap mesh_of kept ∙ e)
