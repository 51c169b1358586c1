-- Nothing but 29 looks at the room's length, and where 29 is not what is told it might as well not apply.
use Prim.Native.Nat.{ℕ, ◌-◌, ◌*◌, ◌/◌}
use mathlib.Core.Path.{◌≡◌, refl, sym, ap, ◌∙◌}
use mathlib.Core.Bool.{Bool, true, false, cond, not}
use mathlib.Core.List.{List, [], ◌∷◌, ◌++◌}
use native.Mathlib.Omega.{arith}
use lib.Dec.{eqb, ltb}
use lib.ListN.{length}
use borrow.Author.Tests.{eqb-true}
use Rattle.packet.specs.Bytes.{Taken, packet_at, not_taken}
use Rattle.packet.specs.Refusal.{Refusal, refuse, first_of, packet_refusals}
use Rattle.tables.specs.Accept.{starts_right, rows_few, few_rows, routes_fine, route_fine, fixed_fine, codes_fine}
use Rattle.tables.specs.Sizes.{size_fine}
use Rattle.groups.specs.Room.{longest, room_short}
use Rattle.router.specs.Call.{setting_fine, source_fine, checked_of, answer, pass_of}
use Rattle.mesh.specs.Mesh.{Mesh, many}
use Rattle.mesh.specs.Lending.{Tables}
use Rattle.mesh.specs.Steps.{Going, injected, rounded, same}
use Rattle.mesh.specs.Refusals.{place_in}
use Rattle.mesh.specs.Calls.{Left, unless, injecting, rounding, linking, emptying, added_of}
use Rattle.mesh.specs.Weights.{in_flight}
use Rattle.mesh.specs.Asked.{change, look, inject, round, set_link, read_registers, of_added}
use Rattle.records.specs.declared.Call.{Call}
use Rattle.records.specs.Records.{packet_of}
use Rattle.records.specs.Traces.{Trace, over, refused, then}
use Rattle.trace.specs.Replay.{making, Replay, stopped, behind, replaying}
use Rattle.promises.specs.RoomCountsForNothing.{without_room, AtACall, AtAReplay, AtOneRouter, RoomCountsForNothing}

-- ---- a refusal that is not told

-- whether a refusal applies that is not the first does not count
past : (xs ys : List Refusal) (b : Bool) (n : ℕ) → (first_of (xs ++ (refuse b n ∷ ys)) ≡ n → ⊥) → first_of (xs ++ (refuse b n ∷ ys)) ≡ first_of (xs ++ (refuse false n ∷ ys))
past [] ys true n other = absurd (other refl)
past [] ys false n other = refl
past (x ∷ xs) ys b n other = go x.when other (past xs ys b n)
  where
    go : (w : Bool) → (cond w x.number (first_of (xs ++ (refuse b n ∷ ys))) ≡ n → ⊥)
        → ((first_of (xs ++ (refuse b n ∷ ys)) ≡ n → ⊥) → first_of (xs ++ (refuse b n ∷ ys)) ≡ first_of (xs ++ (refuse false n ∷ ys)))
        → cond w x.number (first_of (xs ++ (refuse b n ∷ ys))) ≡ cond w x.number (first_of (xs ++ (refuse false n ∷ ys)))
    go true o later = refl
    go false o later = later o

-- ---- a call on a mesh

module _ {A : Type 0} (t : Tables) (m : Mesh A) where
  -- the refusals of the tables before that of the room
  abbrev before : List Refusal
  before =
      refuse (not (starts_right t.starts (many m) (length t.rows / 3))) 15 ∷ refuse (not (rows_few t.starts)) 16 ∷ refuse (not (routes_fine t.rows)) 17
      ∷ refuse (not (fixed_fine t.fixed (many m))) 18
      ∷ refuse (not (codes_fine t.codes (many m * many m))) 11
      ∷ []

  abbrev short : Bool
  short = room_short t.room (longest t.starts (many m))

  unless_told : (n p : ℕ) (g : Going A) → (unless n p m g).refusal ≡ n
  unless_told n p g = go (eqb n 0) refl
    where
      go : (b : Bool) → eqb n 0 ≡ b → (cond {A = Left A} b (record { refusal = 0; place = 0; mesh = g.mesh; log = g.log }) (record { refusal = n; place = p; mesh = m; log = [] })).refusal ≡ n
      go true e = sym (eqb-true n 0 e)
      go false e = refl

  -- told by the first of a list that has the room's among it
  told_same : (first back : List Refusal) (g : Going A)
      → let n : Bool → ℕ = λ b. first_of (first ++ (refuse b 29 ∷ back)) in
      ((unless (n short) (place_in t (many m) (n short)) m g).refusal ≡ 29 → ⊥) → unless (n short) (place_in t (many m) (n short)) m g ≡ unless (n false) (place_in t (many m) (n false)) m g
  told_same first back g other =
      ap (λ (n : ℕ). unless n (place_in t (many m) n) m g) (past first back short 29 (λ e. other (unless_told _ _ g ∙ e)))

  module _ (holds : Bool) (turn : A → A) (log : ℕ) where
    injection_same : (chip : ℕ) (bytes : List ℕ) (tag : A) → ((injecting holds t turn m log chip bytes tag).refusal ≡ 29 → ⊥)
        → injecting holds t turn m log chip bytes tag ≡ injecting holds (without_room t) turn m log chip bytes tag
    injection_same chip bytes tag =
        told_same (refuse (not holds) 8 ∷ refuse (not (ltb chip (many m))) 9 ∷ before) (refuse (ltb log 6) 10 ∷ packet_refusals bytes) (injected t turn m chip (record { packet = packet_at bytes; tag = tag }))

    round_same : ((rounding holds t turn m log).refusal ≡ 29 → ⊥) → rounding holds t turn m log ≡ rounding holds (without_room t) turn m log
    round_same = told_same (refuse (not holds) 8 ∷ before) (refuse (ltb log (in_flight m * 6)) 10 ∷ []) (rounded t turn m)

    made_same : (tag : A) (c : Call) → ((making holds t turn tag m log c).refusal ≡ 29 → ⊥) → making holds t turn tag m log c ≡ making holds (without_room t) turn tag m log c
    made_same tag c = go (eqb c.kind 1) (eqb c.kind 2)
      where
        rest : Left A
        rest = cond (eqb c.kind 3) (linking holds m c.chip c.link (eqb c.up 1)) (emptying holds m c.chip)

        go : (x y : Bool)
            → ((cond x (injecting holds t turn m log c.chip (packet_of c) tag) (cond y (rounding holds t turn m log) rest)).refusal ≡ 29 → ⊥)
            → cond x (injecting holds t turn m log c.chip (packet_of c) tag) (cond y (rounding holds t turn m log) rest)
            ≡ cond x (injecting holds (without_room t) turn m log c.chip (packet_of c) tag) (cond y (rounding holds (without_room t) turn m log) rest)
        go true y z = injection_same c.chip (packet_of c) tag z
        go false true z = round_same z
        go false false z = refl

at_a_call : AtACall
at_a_call A turn tag m (change (inject chip bytes t log)) z = let e = injection_same t m true turn log chip bytes tag z in (e, ap (λ (r : Left A). of_added (added_of r)) e)
at_a_call A turn tag m (change (round t log)) z = let e = round_same t m true turn log z in (e, ap (λ (r : Left A). of_added (added_of r)) e)
at_a_call A turn tag m (change (set_link chip link up)) z = (refl, refl)
at_a_call A turn tag m (change (read_registers chip)) z = (refl, refl)
at_a_call A turn tag m (look l) z = (refl, refl)

-- ---- record after record

module _ (holds : Bool) (t : Tables) (m : Mesh (Unit {0})) (log : ℕ) (c : Call) (n : ℕ) (rest : Trace) where
  abbrev r : Left (Unit {0})
  r = making holds t same tt m log c

  abbrev after : Tables → Left (Unit {0}) → Replay
  after u x = behind n x.log (replaying holds u x.mesh (log - length x.log) rest)

  abbrev whole : Left (Unit {0}) → Replay
  whole x = cond (eqb x.refusal 0) (after (without_room t) x) (stopped x.refusal x.place m)

  one_more : (((replaying holds t (making holds t same tt m log c).mesh (log - length (making holds t same tt m log c).log) rest).refusal ≡ 29 → ⊥)
      → replaying holds t (making holds t same tt m log c).mesh (log - length (making holds t same tt m log c).log) rest
      ≡ replaying holds (without_room t) (making holds t same tt m log c).mesh (log - length (making holds t same tt m log c).log) rest)
      → ((replaying holds t m log (then c n rest)).refusal ≡ 29 → ⊥) → replaying holds t m log (then c n rest) ≡ replaying holds (without_room t) m log (then c n rest)
  unfolding replaying
  one_more on = go (eqb r.refusal 0) refl
    where
      go : (b : Bool) → eqb r.refusal 0 ≡ b → ((cond b (after t r) (stopped r.refusal r.place m)).refusal ≡ 29 → ⊥)
          → cond b (after t r) (stopped r.refusal r.place m) ≡ whole (making holds (without_room t) same tt m log c)
      go true e f =
          ap (behind n r.log) (on f) ∙ ap (λ (b : Bool). cond b (after (without_room t) r) (stopped r.refusal r.place m)) (sym e)
          ∙ ap whole (made_same t m holds same log tt c (λ z. omega (arith, z, eqb-true r.refusal 0 e)))
      go false e f =
          ap (λ (b : Bool). cond b (after (without_room t) r) (stopped r.refusal r.place m)) (sym e) ∙ ap whole (made_same t m holds same log tt c f)

at_a_replay : AtAReplay
unfolding replaying
at_a_replay holds t m log over z = refl
at_a_replay holds t m log (refused n) z = refl
at_a_replay holds t m log (then c n rest) z = one_more holds t m log c n rest (at_a_replay holds t (making holds t same tt m log c).mesh (log - length (making holds t same tt m log c).log) rest) z

-- ---- one router

at_one_router : AtOneRouter
unfolding pass_of checked_of
at_one_router bytes source tables t room other =
    ap (λ (n : ℕ). answer (cond {A = Taken} (eqb n 0) (record { refusal = 0; packet = packet_at bytes }) (not_taken n)) source tables t)
    (past (refuse (not (size_fine t.width t.height)) 7 ∷ refuse (not (setting_fine t)) 6 ∷ refuse (not (few_rows (length tables.rows / 3))) 16
    ∷ refuse (not (routes_fine tables.rows)) 17
    ∷ refuse (not (route_fine tables.fixed)) 18
    ∷ refuse (not (codes_fine tables.codes (t.height * t.width))) 11
    ∷ []) (refuse (not (source_fine source)) 1 ∷ packet_refusals bytes) (room_short room (length tables.rows / 3)) 29 other)

pub room_counts_for_nothing : RoomCountsForNothing
room_counts_for_nothing = record { call = at_a_call; replay = at_a_replay; router = at_one_router }
