-- What is tested once of the memory that is lent, and the numbers of an injection and a round as they follow from it.
use Rattle.std.specs.Prelude.{◌≡◌, ℕ, ◌*◌, ◌≤◌, Bool, true, false, cond, not, List, ◌==◌, nat_lt, Option, Some, None, Result, Ok, Err}
use Rattle.tables.specs.Accept.{starts_right, rows_few}
use Rattle.packet.specs.Refusal.{first_of, packet_refusals}
use Rattle.packet.specs.Refused.{number_of}
use Rattle.buffer.specs.declared.testing.Wrong.{Wrong}
use Rattle.mesh.specs.Lending.{Tables}
use Rattle.buffer.specs.Holding.{holds_mesh}
use Rattle.mesh.specs.Refusals.{tables_refusals, place_in}
use Rattle.buffer.specs.Layout.{chips_of}

-- What was tested, in the numbers that the definitions speak of: whether there is a mesh, and the tables' number, or 0, with its place.
pub record Numbers : Type 0 where
  pub holds : Bool
  pub tables : ℕ
  pub place : ℕ

abbrev pub numbers_of : {A : Type 0} → Option (Result A Wrong) → Numbers
numbers_of None = record { holds = false; tables = 0; place = 0 }
numbers_of (Some (Ok x)) = record { holds = true; tables = 0; place = 0 }
numbers_of (Some (Err w)) = record { holds = true; tables = number_of w.refused; place = w.place }

-- Tables are held against the chips of a mesh, so that they are tested only where there is one: their number, and its place.
abbrev pub tested_of : List ℕ → Tables → Numbers
tested_of l t =
    let tables = first_of (tables_refusals t (chips_of l)) in
    record { holds = holds_mesh l; tables = cond (holds_mesh l) tables 0; place = cond (holds_mesh l) (place_in t (chips_of l) tables) 0 }

-- The place of a call's refusal: the tables' own number has theirs, every other number has none. The law `told-place` says so.
abbrev pub place_told : Numbers → ℕ → ℕ
place_told x refusal = cond (refusal == x.tables) x.place 0

-- `inject_refusals` and `round_refusals`, where the tables' own number is known: the laws `inject_number_lem` and `round_number_lem` say so.
abbrev pub inject_number : Numbers → ℕ → ℕ → ℕ → List ℕ → ℕ
inject_number x chips chip room bytes =
    cond (not x.holds) 8
    (cond (not (nat_lt chip chips)) 9 (cond (x.tables == 0) (cond (nat_lt room 6) 10 (first_of (packet_refusals bytes))) x.tables))

abbrev pub round_number : Numbers → ℕ → ℕ → ℕ
round_number x flying room = cond (not x.holds) 8 (cond (x.tables == 0) (cond (nat_lt room (flying * 6)) 10 0) x.tables)

-- No rule of the model, but what is known where a number of the tables applies: it comes after 15, or after 16 too.
pub record Sized (starts : List ℕ) (chips rows number : ℕ) : Type 0 where
  pub right : 16 ≤ number → starts_right starts chips rows ≡ true
  pub few : 17 ≤ number → rows_few starts ≡ true
