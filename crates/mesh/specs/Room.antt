-- What the room for groups holds after a round: "each call that uses groups builds them afresh in lent room; what that held before counts for nothing, what it holds after stands in docs/".
use Rattle.std.specs.Prelude.{ℕ, zero, suc, ◌*◌, cond, List, map, eqb, length}
use Rattle.tables.specs.Rows.{rows_of}
use Rattle.groups.specs.Grouping.{groups_left}
use Rattle.mesh.specs.Mesh.{Mesh}
use Rattle.mesh.specs.Lending.{Tables, rows_at}
use Rattle.mesh.specs.Steps.{Arrival, arriving_at}

-- The words of all packets that arrive at a chip: what its groups are asked for by.
abbrev pub keys_of : {A : Type 0} → List (Arrival A) → List ℕ
keys_of xs = map (λ a. a.flight.packet.word) xs

-- The groups of a chip's own rows, "built afresh" for what arrives there. "No room is the plain search".
abbrev pub room_at : Tables → List ℕ → ℕ → List ℕ → List ℕ
room_at t keys chip room = cond (eqb (length room) 0) room (groups_left keys (rows_of (rows_at t chip)) room)

-- After the first chips, by number, each with its keys.
unfoldable pub room_upto : Tables → (ℕ → List ℕ) → ℕ → List ℕ → List ℕ
room_upto t keys zero room = room
room_upto t keys (suc chip) room = room_at t (keys chip) chip (room_upto t keys chip room)

abbrev pub room_after_round : {A : Type 0} → Tables → Mesh A → List ℕ → List ℕ
room_after_round t m room = room_upto t (λ chip. keys_of (arriving_at m chip)) (m.height * m.width) room
