-- What a look at a packet in flight finds in a mesh's words.
use Rattle.std.proofs.Common.{◌≡◌, ℕ, ◌+◌, ◌*◌, ◌<◌, ◌≤◌, Bool, cond, List, map, length, get_or, drop, sym, ap, ◌∙◌, arith, drop-drop, le-ltb, lt-ltb, eq-eqb, ne_eqb}
use lib.ListN.{get_or-map}
use Rattle.packet.specs.Bytes.{nothing}
use Rattle.packet.specs.Refusal.{first_of}
use Rattle.links.specs.Offsets.{held_at, places_at, place_long, link_long, chip_place, link_place}
use Rattle.links.specs.Link.{Flight, Link}
use Rattle.lists.specs.Lists.{part}
use Rattle.links.specs.Words.{packet_in, link_in}
use Rattle.links.proofs.Places.{length_places}
use Rattle.buffer.specs.Layout.{mesh_of, chips_of}
use Rattle.buffer.specs.Holding.{holds_mesh}
use Rattle.mesh.specs.Refusals.{number_refusals}
use Rattle.mesh.specs.Mesh.{link_of}
use Rattle.mesh.specs.Looks.{no_flight, place_read, flight_read}
use Rattle.buffer.proofs.HoldsMesh.{held_few}
use Rattle.buffer.proofs.LinkWords.{places_at_lem}
use Rattle.buffer.proofs.Looks.{number_there, link_part, link_of_lem}

module _ (w : List ℕ) (place : ℕ) where
  many : length (link_in w).held ≡ get_or w held_at 0
  many = length_places (get_or w held_at 0) (drop places_at w)

  pub place_empty : get_or w held_at 0 ≤ place → no_flight 9 ≡ place_read (link_in w) place
  place_empty h = simp (le-ltb place (length (link_in w).held) (omega (arith, many)))

  pub place_found : place < get_or w held_at 0 → record { refusal = 0; packet = packet_in (drop (places_at + place * place_long) w) } ≡ place_read (link_in w) place
  place_found h =
      let e : get_or (map (λ (f : Flight (Unit {0})). f.packet) (link_in w).held) place nothing ≡ packet_in (drop (places_at + place * place_long) w) =
      get_or-map (λ (f : Flight (Unit {0})). f.packet) (link_in w).held place (record { packet = nothing; tag = tt })
      ∙ ap (λ (f : Flight (Unit {0})). f.packet) (places_at_lem (get_or w held_at 0) place (drop places_at w) (record { packet = nothing; tag = tt }) h)
      ∙ ap packet_in (drop-drop (place * place_long) places_at w) in
      simp (lt-ltb place (length (link_in w).held) (omega (arith, many)), e)

module _ (l : List ℕ) (chip link place r : ℕ) (e : r ≡ first_of (number_refusals (holds_mesh l) (chips_of l) chip link 6)) where
  pub flight_refused : (r ≡ 0 → ⊥) → no_flight r ≡ flight_read (holds_mesh l) (mesh_of l) chip link place
  unfolding mesh_of
  flight_refused some =
      ap no_flight e
      ∙ sym (ap (λ (b : Bool). cond b (place_read (link_of (mesh_of l) chip link) place) (no_flight (first_of (number_refusals (holds_mesh l) (chips_of l) chip link 6)))) (ne_eqb _ 0 (λ z. some (e ∙ z))))

  module _ (none : r ≡ 0) where
    pub few_there : get_or (part (chip_place chip + link_place link) link_long l) held_at 0 ≤ 8
    few_there =
        let h = number_there l chip link 6 (sym e ∙ none) in
        rw (link_part chip link l h.1) at (held_few l h.0.holds chip link h.0.near h.1)

    pub flight_found : place_read (link_in (part (chip_place chip + link_place link) link_long l)) place ≡ flight_read (holds_mesh l) (mesh_of l) chip link place
    unfolding mesh_of
    flight_found =
        let zero_now : first_of (number_refusals (holds_mesh l) (chips_of l) chip link 6) ≡ 0 = sym e ∙ none in
        let h = number_there l chip link 6 zero_now in
        ap (λ (w : List ℕ). place_read (link_in w) place) (sym (link_part chip link l h.1))
        ∙ ap (λ (x : Link (Unit {0})). place_read x place) (sym (link_of_lem l chip link h.0.near h.1))
        ∙ sym (ap (λ (b : Bool). cond b (place_read (link_of (mesh_of l) chip link) place) (no_flight (first_of (number_refusals (holds_mesh l) (chips_of l) chip link 6)))) (eq-eqb _ 0 zero_now))
