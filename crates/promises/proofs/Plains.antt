-- Forgetting the tags of a mesh goes with everything that happens in it: ready sets, outcomes, what is in flight, passes one after the other,
-- what a round begins and ends with.
use mathlib.Core.Path.{◌≡◌, refl, sym, ap, ◌∙◌, fun_ext}
use mathlib.Core.Bool.{Bool, true, false, ◌&&◌}
use mathlib.Core.List.{List, [], ◌∷◌, ◌++◌, map, foldl, map-map, map-append}
use Prim.Native.Nat.{ℕ, zero, suc, ◌*◌}
use lib.Dec.{leb}
use lib.ListN.{get_or, length-map, get_or-map}
use Rattle.packet.specs.declared.Packet.{Packet}
use Rattle.steps.specs.declared.Outcome.{Outcome}
use Rattle.steps.specs.Links.{has, set_of}
use Rattle.steps.specs.Deciding.{outcome_of, packet_on, leg_packet}
use Rattle.kept.specs.Keeping.{kept_of}
use Rattle.kept.specs.Counting.{counted_of}
use Rattle.links.specs.Link.{Flight, Link, idle, is_ready, sent, link_after, ready_links}
use Rattle.links.specs.Across.{across, opposite}
use Rattle.mesh.specs.Mesh.{Chip, Mesh, fresh}
use Rattle.mesh.specs.Lending.{Tables, tables_at}
use Rattle.mesh.specs.Steps.{Arrival, Going, outcome_at, log_of, links_after, chip_after, with_chips, with_chip, emptied, emptied_chip, set_aside, arriving_by, arriving_at, arriving_from, arrivals, round_over, pass_at, passed, rounded, same, set_out}
use Rattle.lists.specs.Lists.{total}
use Rattle.mesh.specs.Weights.{weight_on, on_chip, in_flight}
use Rattle.lists.proofs.Changed.{map_set}
use Rattle.lists.proofs.Totals.{total_map, total_ones}
use Rattle.promises.specs.Told.{plain_flight, plain_link, plain_chip, plain}

module _ {A : Type 0} where
  abbrev pub plain_arrival : Arrival A → Arrival (Unit {0})
  plain_arrival a = record { chip = a.chip; source = a.source; flight = plain_flight a.flight }

  abbrev pub plain_going : Going A → Going (Unit {0})
  plain_going g = record { mesh = plain g.mesh; log = g.log }

  -- ---- looking

  pub plain_chip_lem : (m : Mesh A) (chip : ℕ) → get_or (plain m).chips chip fresh ≡ plain_chip (get_or m.chips chip fresh)
  plain_chip_lem m chip = get_or-map plain_chip m.chips chip fresh

  pub plain_link_lem : (c : Chip A) (i : ℕ) → get_or (plain_chip c).links i idle ≡ plain_link (get_or c.links i idle)
  plain_link_lem c i = get_or-map plain_link c.links i idle

  pub plain_ready : (l : Link A) → is_ready (plain_link l) ≡ is_ready l
  plain_ready l = ap (λ (n : ℕ). l.up && leb n 6) (length-map l.held plain_flight)

  ready_links_lem : (c : Chip A) → ready_links (plain_chip c).links ≡ ready_links c.links
  ready_links_lem c = ap set_of (fun_ext (λ i. ap is_ready (plain_link_lem c i) ∙ plain_ready (get_or c.links i idle)))

  pub plain_outcome : (t : Tables) (m : Mesh A) (chip source : ℕ) (p : Packet) → outcome_at t (plain m) chip source p ≡ outcome_at t m chip source p
  plain_outcome t m chip source p =
      ap
      (λ (ready : ℕ).
      outcome_of p source (tables_at t (m.height * m.width) chip)
      (record { width = m.width; height = m.height; monitor = m.monitor; phase = m.phase; ready = ready }))
      (ap (λ (c : Chip (Unit {0})). ready_links c.links) (plain_chip_lem m chip) ∙ ready_links_lem (get_or m.chips chip fresh))

  on_link_lem : (l : Link A) → weight_on (λ f. 1) (plain_link l) ≡ weight_on (λ f. 1) l
  on_link_lem l = total_ones (map plain_flight l.held) ∙ length-map l.held plain_flight ∙ sym (total_ones l.held)

  on_chip_lem : (c : Chip A) → on_chip (λ f. 1) (plain_chip c) ≡ on_chip (λ f. 1) c
  on_chip_lem c = total_map (weight_on (λ f. 1)) plain_link c.links ∙ ap (λ (w : Link A → ℕ). total w c.links) (fun_ext on_link_lem)

  pub plain_flying : (m : Mesh A) → in_flight (plain m) ≡ in_flight m
  plain_flying m = total_map (on_chip (λ f. 1)) plain_chip m.chips ∙ ap (λ (w : Chip A → ℕ). total w m.chips) (fun_ext on_chip_lem)

  -- ---- one pass

  plain_sent : (b : Bool) (p : Packet) (tag : A) → map plain_flight (sent b p tag) ≡ sent b p tt
  plain_sent true p tag = refl
  plain_sent false p tag = refl

  link_after_lem : (o : Outcome) (tag : A) (i : ℕ) (l : Link A) → plain_link (link_after o tag i l) ≡ link_after o tt i (plain_link l)
  link_after_lem o tag i l =
      ap (λ (held : List (Flight (Unit {0}))). record { up = l.up; held = held })
      (map-append plain_flight (l.held ++ sent (has o.sent i) (packet_on o i) tag) (sent (has o.leg_sent i) (leg_packet o) tag)
      ∙ (λ k.
      (map-append plain_flight l.held (sent (has o.sent i) (packet_on o i) tag)
      ∙ ap (λ (x : List (Flight (Unit {0}))). map plain_flight l.held ++ x) (plain_sent (has o.sent i) (packet_on o i) tag))
      k
      ++ plain_sent (has o.leg_sent i) (leg_packet o) tag k))

  links_after_lem : (o : Outcome) (tag : A) (i : ℕ) (ls : List (Link A)) → map plain_link (links_after o tag i ls) ≡ links_after o tt i (map plain_link ls)
  unfolding links_after
  links_after_lem o tag i [] = refl
  links_after_lem o tag i (l ∷ ls) = λ k. link_after_lem o tag i l k ∷ links_after_lem o tag (suc i) ls k

  chip_after_lem : (o : Outcome) (tag : A) (c : Chip A) → plain_chip (chip_after o tag c) ≡ chip_after o tt (plain_chip c)
  chip_after_lem o tag c =
      ap (λ (links : List (Link (Unit {0}))). record { registers = kept_of c.registers o; counters = counted_of c.counters o; links = links })
      (links_after_lem o tag 0 c.links)

  pub plain_with : (m : Mesh A) (chip : ℕ) (c : Chip A) → plain (with_chip m chip c) ≡ with_chip (plain m) chip (plain_chip c)
  plain_with m chip c = ap (λ (chips : List (Chip (Unit {0}))). with_chips (plain m) chips) (map_set plain_chip m.chips chip c)

  module _ (t : Tables) (turn : A → A) where
    pub plain_pass : (g : Going A) (a : Arrival A) → plain_going (pass_at t turn g a) ≡ pass_at t same (plain_going g) (plain_arrival a)
    plain_pass g a =
        let m = g.mesh in
        let c = get_or m.chips a.chip fresh in
        let o = outcome_at t m a.chip a.source a.flight.packet in
        let e = sym (plain_outcome t m a.chip a.source a.flight.packet) in
        let mesh : plain (pass_at t turn g a).mesh ≡ (pass_at t same (plain_going g) (plain_arrival a)).mesh =
        plain_with m a.chip (chip_after o (turn a.flight.tag) c)
        ∙ ap (λ (x : Chip (Unit {0})). with_chip (plain m) a.chip x) (chip_after_lem o (turn a.flight.tag) c)
        ∙ (λ k. with_chip (plain m) a.chip (chip_after (e k) tt (sym (plain_chip_lem m a.chip) k))) in
        λ k. record { mesh = mesh k; log = g.log ++ log_of a.chip (e k) }

    pub plain_passes : (g : Going A) (later : List (Arrival A))
        → plain_going (foldl (pass_at t turn) g later) ≡ foldl (pass_at t same) (plain_going g) (map plain_arrival later)
    plain_passes g [] = refl
    plain_passes g (a ∷ later) =
        plain_passes (pass_at t turn g a) later
        ∙ ap (λ (h : Going (Unit {0})). foldl (pass_at t same) h (map plain_arrival later)) (plain_pass g a)

  -- ---- a round

  plain_emptied : (c : Chip A) → plain_chip (emptied_chip c) ≡ emptied_chip (plain_chip c)
  plain_emptied c =
      ap (λ (links : List (Link (Unit {0}))). record { registers = c.registers; counters = c.counters; links = links })
      (map-map plain_link emptied c.links ∙ sym (map-map emptied plain_link c.links))

  plain_aside : (m : Mesh A) → plain (set_aside m) ≡ set_aside (plain m)
  plain_aside m =
      ap (λ (chips : List (Chip (Unit {0}))). with_chips (plain m) chips)
      (map-map plain_chip emptied_chip m.chips
      ∙ ap (λ (f : Chip A → Chip (Unit {0})). map f m.chips) (fun_ext plain_emptied)
      ∙ sym (map-map emptied_chip plain_chip m.chips))

  arriving_by_lem : (m : Mesh A) (chip source : ℕ) → map plain_arrival (arriving_by m chip source) ≡ arriving_by (plain m) chip source
  arriving_by_lem m chip source =
      let c = get_or m.chips (across m.width m.height chip source) fresh in
      let l = get_or c.links (opposite source) idle in
      let arrive : Flight (Unit {0}) → Arrival (Unit {0}) = λ f. record { chip = chip; source = source; flight = f } in
      let link : get_or (get_or (plain m).chips (across m.width m.height chip source) fresh).links (opposite source) idle ≡ plain_link l =
      ap (λ (x : Chip (Unit {0})). get_or x.links (opposite source) idle) (plain_chip_lem m (across m.width m.height chip source)) ∙ plain_link_lem c (opposite source) in
      map-map plain_arrival _ l.held ∙ sym (map-map arrive plain_flight l.held) ∙ ap (λ (x : Link (Unit {0})). map arrive x.held) (sym link)

  arriving_at_lem : (m : Mesh A) (chip : ℕ) → map plain_arrival (arriving_at m chip) ≡ arriving_at (plain m) chip
  arriving_at_lem m chip =
      simp map-append
      (λ k.
      arriving_by_lem m chip 0 k ++ arriving_by_lem m chip 1 k ++ arriving_by_lem m chip 2 k ++ arriving_by_lem m chip 3 k ++ arriving_by_lem m chip 4 k
      ++ arriving_by_lem m chip 5 k)

  arriving_from_lem : (m : Mesh A) (chip n : ℕ) → map plain_arrival (arriving_from m chip n) ≡ arriving_from (plain m) chip n
  unfolding arriving_from
  arriving_from_lem m chip zero = refl
  arriving_from_lem m chip (suc n) =
      map-append plain_arrival (arriving_at m chip) (arriving_from m (suc chip) n) ∙ (λ k. arriving_at_lem m chip k ++ arriving_from_lem m (suc chip) n k)

  pub plain_rounded : (t : Tables) (turn : A → A) (m : Mesh A) → plain_going (rounded t turn m) ≡ rounded t same (plain m)
  plain_rounded t turn m =
      let all : plain_going (passed t turn m) ≡ passed t same (plain m) =
      plain_passes t turn (set_out (set_aside m)) (arrivals m)
      ∙ (λ k. foldl (pass_at t same) (set_out (plain_aside m k)) (arriving_from_lem m 0 (m.height * m.width) k)) in
      ap (λ (g : Going (Unit {0})). record { mesh = round_over g.mesh; log = g.log }) all
