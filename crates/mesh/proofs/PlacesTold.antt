-- The place that is told is the first where the tables are wrong: case by case of the number, by the one law of first places.
use mathlib.Core.Path.{◌≡◌, refl}
use mathlib.Core.Bool.{Bool, true, false, cond, not}
use Prim.Native.Nat.{ℕ, ◌*◌, ◌/◌}
use native.Mathlib.Omega.{arith}
use lib.ListN.{length}
use Rattle.tables.specs.Accept.{starts_right, rows_few, routes_fine, fixed_fine, codes_fine}
use Rattle.groups.specs.Room.{longest, room_short}
use Rattle.tables.proofs.WrongPlaces.{starts_exact, crowd_exact, route_exact, fixed_exact, right_long}
use Rattle.mesh.specs.Places.{FirstWrong, PlacesTold}

pub places_told : PlacesTold
places_told t chips number some e low high =
    go (starts_right t.starts chips rows) refl (rows_few t.starts) refl (routes_fine t.rows) refl (fixed_fine t.fixed chips) refl (codes_fine t.codes (chips * chips)) (room_short t.room (longest t.starts chips)) e
  where
    rows : ℕ
    rows = length t.rows / 3

    go : (a : Bool) → starts_right t.starts chips (length t.rows / 3) ≡ a → (b : Bool) → rows_few t.starts ≡ b → (c : Bool) → routes_fine t.rows ≡ c → (d : Bool) → fixed_fine t.fixed chips ≡ d → (f g : Bool)
        → number ≡ cond (not a) 15 (cond (not b) 16 (cond (not c) 17 (cond (not d) 18 (cond (not f) 11 (cond g 29 0)))))
        → FirstWrong t chips number
    go false ea b eb c ec d ed f g n =
        let x = starts_exact t.starts chips (length t.rows / 3) some in
        rw n (record { there = x.there ea; before = x.before ea })
    go true ea false eb c ec d ed f g n =
        let x = crowd_exact t.starts chips (right_long t.starts chips (length t.rows / 3) some ea) in
        rw n (record { there = x.there eb; before = x.before eb })
    go true ea true eb false ec d ed f g n = let x = route_exact t.rows in rw n (record { there = x.there ec; before = x.before ec })
    go true ea true eb true ec false ed f g n = let x = fixed_exact t.fixed chips some in rw n (record { there = x.there ed; before = x.before ed })
    go true ea true eb true ec true ed false g n = absurd (omega arith)
    go true ea true eb true ec true ed true true n = absurd (omega arith)
    go true ea true eb true ec true ed true false n = absurd (omega arith)
