-- No rule of the model, but what the steps of a round promise each other of the room for groups.
use Rattle.std.specs.Prelude.{◌≡◌, ℕ, ◌/◌, ◌<◌, ◌≤◌, true, List, length, ◌≢◌}
use Rattle.tables.specs.Rows.{rows_of}
use Rattle.groups.specs.Groups.{top_of, GroupedFor, room_for}
use Rattle.mesh.specs.Steps.{Arrival}
use Rattle.lists.specs.Lists.{All}
use Rattle.buffer.specs.Layout.{chips_of, words_of}
use Rattle.buffer.specs.Holding.{head_fine}
use Rattle.buffer.specs.PassesInTurn.{AsideFew}

-- The room is empty, or holds each group of a chip's rows that one of some arrivals asks for.
abbrev pub GroupsFor : List ℕ → List ℕ → List (Arrival (Unit {0})) → Type 0
GroupsFor rows room xs = (length room ≢ 0) → (length rows / 3 ≤ 1024) × All (λ a. top_of a.flight.packet.word < 256 → GroupedFor (rows_of rows) room a.flight.packet.word) xs

-- Where some room is lent, it is enough for so many rows.
abbrev pub RoomFits : ℕ → ℕ → Type 0
RoomFits room rows = (room ≢ 0) → room_for rows ≤ room

-- What was set aside for a chip is in a mesh's words.
pub record AsideThere (l : List ℕ) (chip : ℕ) : Type 0 where
  pub there : chip < chips_of l
  pub head : head_fine l ≡ true
  pub long : words_of l ≤ length l
  pub few : AsideFew l
