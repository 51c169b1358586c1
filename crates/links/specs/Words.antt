-- How a directed link and the packets on it are read from the mesh buffer's words.
use Rattle.std.specs.Prelude.{ℕ, zero, suc, ◌+◌, List, [], ◌∷◌, eqb, get_or, drop}
use Rattle.packet.specs.declared.Packet.{Packet}
use Rattle.packet.specs.Control.{carries_of}
use Rattle.links.specs.Offsets.{state_at, held_at, places_at, place_long, aside_at, aside_places_at, chip_place, link_place}
use Rattle.links.specs.Link.{Flight, Link}
use Rattle.links.specs.Across.{across, opposite}

-- A packet in flight is three words: control byte, word, payload. It is right in length, so that bit 1 says how long it is.
abbrev pub packet_in : List ℕ → Packet
packet_in l = record { control = get_or l 0 0; nine = carries_of (get_or l 0 0); word = get_or l 1 0; payload = get_or l 2 0 }

-- The first n packets of a run of places.
unfoldable pub places_in : ℕ → List ℕ → List (Flight (Unit {0}))
places_in zero l = []
places_in (suc n) l = record { packet = packet_in l; tag = tt } ∷ places_in n (drop place_long l)

-- A directed link's words: 0 where it is up and 1 where it is down, how many packets it holds, eight places; how many are set aside, eight
-- places for those.
abbrev pub link_in : List ℕ → Link (Unit {0})
link_in l = record { up = eqb (get_or l state_at 0) 0; held = places_in (get_or l held_at 0) (drop places_at l) }

abbrev pub aside_in : List ℕ → List (Flight (Unit {0}))
aside_in l = places_in (get_or l aside_at 0) (drop aside_places_at l)

-- Where in the mesh's words it says how many packets were set aside for a chip on the link opposite to the one that they arrive by.
abbrev pub aside_place : ℕ → ℕ → ℕ → ℕ → ℕ
aside_place width height chip source = chip_place (across width height chip source) + link_place (opposite source) + aside_at
