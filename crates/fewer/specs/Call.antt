-- The call: what it refuses, in order, what it answers, and every word of the room that it is lent.
use Rattle.std.specs.Prelude.{ℕ, ◌/◌, cond, not, ◌||◌, List, [], ◌∷◌, ◌++◌, eqb, ltb, length, drop}
use Rattle.packet.specs.Refusal.{Refusal, refuse, first_of}
use Rattle.tables.specs.Rows.{rows_of}
use Rattle.tables.specs.Accept.{routes_fine}
use Rattle.tables.specs.Places.{route_place}
use Rattle.fewer.specs.declared.Fewer.{Fewer}
use Rattle.fewer.specs.Process.{Numbered, Process, ended}

-- "Up to 16,384 go in here."
abbrev pub most_rows : ℕ
most_rows = 16384

-- "16 above 16,384 rows, 17, then 28 room for fewer rows or list entries than go in."
abbrev pub fewer_refusals : List ℕ → ℕ → ℕ → List Refusal
fewer_refusals rows leftRoom goneRoom =
    refuse (ltb most_rows (length rows / 3)) 16 ∷ refuse (not (routes_fine rows)) 17
    ∷ refuse (ltb leftRoom (length rows) || ltb goneRoom (length rows / 3)) 28
    ∷ []

-- Rows as they are lent, three numbers each.
unfoldable pub words_of : List Numbered → List ℕ
words_of [] = []
words_of (r ∷ rs) = r.entry.key ∷ r.entry.mask ∷ r.entry.route ∷ words_of rs

module _ (rows left gone : List ℕ) where
  abbrev pub refusal_of : ℕ
  refusal_of = first_of (fewer_refusals rows (length left) (length gone))

  abbrev pub end_of : Process
  end_of = ended (rows_of rows)

  -- The row is told with 17 alone.
  abbrev pub fewer_of : Fewer
  fewer_of =
      cond (eqb refusal_of 0) (record { refusal = 0; rows = length end_of.left; gone = length end_of.gone; place = 0 })
      (record { refusal = refusal_of; rows = 0; gone = 0; place = cond (eqb refusal_of 17) (route_place rows) 0 })

  -- What follows the answer stays as it was; where the call is refused all does.
  abbrev pub left_after : List ℕ
  left_after = cond (eqb refusal_of 0) (words_of end_of.left ++ drop (length (words_of end_of.left)) left) left

  abbrev pub gone_after : List ℕ
  gone_after = cond (eqb refusal_of 0) (end_of.gone ++ drop (length end_of.gone) gone) gone
