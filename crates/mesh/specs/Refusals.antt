-- What each call on a mesh refuses, in order: "injection 8, 9, 15, 16, 17, 18, 11, 29, 10, 2, 4; round 8, 15, 16, 17, 18, 11, 29, 10". `holds` says whether the buffer holds a mesh.
use Rattle.std.specs.Prelude.{ℕ, ◌*◌, ◌/◌, Bool, true, cond, ◌&&◌, not, List, [], ◌∷◌, ◌++◌, ◌≡◌, eqb, ltb, length}
use Rattle.packet.specs.Refusal.{Refusal, refuse, packet_refusals}
use Rattle.tables.specs.Accept.{starts_right, rows_few, starts_fine, routes_fine, fixed_fine, codes_fine}
use Rattle.tables.specs.Places.{starts_place, crowd_place, route_place, fixed_place}
use Rattle.groups.specs.Room.{longest, room_short}
use Rattle.mesh.specs.Lending.{Tables}

-- "15 bad starts, 16 too many rows, 17 route bits, in 5's old place and that order; a bad fixed route .. 18, after 17"; 11: "P2P table of wrong size, or a code above 7";
-- "29 room under 257 numbers plus 256 for each row of the longest table".
abbrev pub tables_refusals : Tables → ℕ → List Refusal
tables_refusals t chips =
    refuse (not (starts_right t.starts chips (length t.rows / 3))) 15 ∷ refuse (not (rows_few t.starts)) 16 ∷ refuse (not (routes_fine t.rows)) 17
    ∷ refuse (not (fixed_fine t.fixed chips)) 18
    ∷ refuse (not (codes_fine t.codes (chips * chips))) 11
    ∷ refuse (room_short t.room (longest t.starts chips)) 29
    ∷ []

-- "Each with the first place where it holds": "0 but for 15 to 18".
abbrev pub place_in : Tables → ℕ → ℕ → ℕ
place_in t chips refusal =
    cond (eqb refusal 15) (starts_place t.starts chips (length t.rows / 3))
    (cond (eqb refusal 16) (crowd_place t.starts chips)
    (cond (eqb refusal 17) (route_place t.rows) (cond (eqb refusal 18) (fixed_place t.fixed chips) 0)))

-- Tables that were accepted.
pub record Lent (t : Tables) (chips : ℕ) : Type 0 where
  pub starts : starts_fine t.starts chips (length t.rows / 3) ≡ true
  pub codes : length t.codes ≡ chips * chips
  pub fixed : length t.fixed ≡ chips

-- 10: "log shorter than six numbers per packet in flight (per injection: six)". `room` is the log's length.
abbrev pub inject_refusals : Bool → ℕ → ℕ → Tables → ℕ → List ℕ → List Refusal
inject_refusals holds chips chip t room bytes =
    refuse (not holds) 8 ∷ refuse (not (ltb chip chips)) 9 ∷ (tables_refusals t chips ++ (refuse (ltb room 6) 10 ∷ packet_refusals bytes))

abbrev pub round_refusals : Bool → ℕ → ℕ → Tables → ℕ → List Refusal
round_refusals holds chips flying t room = refuse (not holds) 8 ∷ (tables_refusals t chips ++ (refuse (ltb room (flying * 6)) 10 ∷ []))

-- 9: "chip, link or counter number not there".
abbrev pub chip_refusals : Bool → ℕ → ℕ → List Refusal
chip_refusals holds chips chip = refuse (not holds) 8 ∷ refuse (not (ltb chip chips)) 9 ∷ []

abbrev pub number_refusals : Bool → ℕ → ℕ → ℕ → ℕ → List Refusal
number_refusals holds chips chip number end = refuse (not holds) 8 ∷ refuse (not (ltb chip chips && ltb number end)) 9 ∷ []

abbrev pub link_refusals : Bool → ℕ → ℕ → ℕ → List Refusal
link_refusals holds chips chip link = number_refusals holds chips chip link 6

abbrev pub counter_refusals : Bool → ℕ → ℕ → ℕ → List Refusal
counter_refusals holds chips chip counter = number_refusals holds chips chip counter 10
