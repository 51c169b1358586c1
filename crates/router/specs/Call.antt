-- The one-router call: what it refuses, in order, and what it answers.
use Rattle.std.specs.Prelude.{ℕ, ◌*◌, ◌/◌, Bool, cond, ◌&&◌, ◌||◌, not, List, [], ◌∷◌, ◌++◌, eqb, leb, length}
use Rattle.packet.specs.Bytes.{Taken, packet_at, not_taken}
use Rattle.packet.specs.Refusal.{Refusal, refuse, first_of, packet_refusals}
use Rattle.tables.specs.Sizes.{size_fine}
use Rattle.tables.specs.Accept.{few_rows, routes_fine, route_fine, codes_fine}
use Rattle.tables.specs.Places.{route_place}
use Rattle.tables.specs.Tables.{ChipTables}
use Rattle.groups.specs.Room.{room_short}
use Rattle.steps.specs.declared.Setting.{Setting}
use Rattle.router.specs.declared.Pass.{Pass}
use Rattle.steps.specs.Deciding.{outcome_of}
use Rattle.router.specs.Showing.{pass_from, no_pass}

-- "Phase above 3, ready set above 63, monitor above 19".
abbrev pub setting_fine : Setting → Bool
setting_fine t = leb t.phase 3 && leb t.ready 63 && leb t.monitor 19

-- "One-router call: source 6 or above 7".
abbrev pub source_fine : ℕ → Bool
source_fine source = leb source 5 || eqb source 7

-- The last number is the length of the room that is lent, 0 where none is.
abbrev pub setting_refusals : ℕ → ChipTables → Setting → ℕ → List Refusal
setting_refusals source tables t room =
    refuse (not (size_fine t.width t.height)) 7 ∷ refuse (not (setting_fine t)) 6 ∷ refuse (not (few_rows (length tables.rows / 3))) 16
    ∷ refuse (not (routes_fine tables.rows)) 17
    ∷ refuse (not (route_fine tables.fixed)) 18
    ∷ refuse (not (codes_fine tables.codes (t.height * t.width))) 11
    ∷ refuse (room_short room (length tables.rows / 3)) 29
    ∷ refuse (not (source_fine source)) 1
    ∷ []

-- "Pass 7, 6, 16, 17, 18, 11, 29, 1, 2, 4".
abbrev pub pass_refusals : List ℕ → ℕ → ChipTables → Setting → ℕ → List Refusal
pass_refusals bytes source tables t room = setting_refusals source tables t room ++ packet_refusals bytes

-- The packet where nothing is refused.
unfoldable pub checked_of : List ℕ → ℕ → ChipTables → Setting → ℕ → Taken
checked_of bytes source tables t room =
    cond (eqb (first_of (pass_refusals bytes source tables t room)) 0) (record { refusal = 0; packet = packet_at bytes })
    (not_taken (first_of (pass_refusals bytes source tables t room)))

-- "0 but for 15 to 18"; "the chip is 0 where one table is lent", so that only a bad route has a place of its own.
abbrev pub place_of : ℕ → List ℕ → ℕ
place_of refusal rows = cond (eqb refusal 17) (route_place rows) 0

abbrev pub answer : Taken → ℕ → ChipTables → Setting → Pass
answer taken source tables t =
    cond (eqb taken.refusal 0) (pass_from (outcome_of taken.packet source tables t)) (no_pass taken.refusal (place_of taken.refusal tables.rows))

-- "A refusal returns its number and zeros elsewhere ...", but for the place.
unfoldable pub pass_of : List ℕ → ℕ → ChipTables → Setting → ℕ → Pass
pass_of bytes source tables t room = answer (checked_of bytes source tables t room) source tables t
