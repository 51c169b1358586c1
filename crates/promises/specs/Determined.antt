-- What the calls answer and leave is determined by their inputs: two answers that meet one contract are equal.
use Rattle.std.specs.Prelude.{ℕ, ◌+◌, ◌*◌, ◌≤◌, ◌<◌, length, drop, ◌≡◌, refl, Bool, true, List, Result, Ok, Err}
use Rattle.std.proofs.Common.{arith, sym, ap, ◌∙◌}
use Rattle.packet.specs.Refusal.{first_of}
use Rattle.packet.proofs.Determined.{determined}
use Rattle.packet.proofs.Numbers.{same_reason, number_some}
use Rattle.packet.specs.Refused.{told}
use Rattle.packet.specs.declared.refused.Refused.{Refused}
use Rattle.tables.specs.declared.Row.{Row}
use Rattle.tables.specs.declared.RowFound.{RowFound}
use Rattle.tables.specs.Rows.{found_in}
use Rattle.tables.specs.Tables.{ChipTables}
use Rattle.router.specs.declared.Pass.{Pass}
use Rattle.steps.specs.declared.Setting.{Setting}
use Rattle.router.specs.Call.{pass_of}
use Rattle.links.specs.Link.{idle}
use Rattle.mesh.specs.declared.Added.{Added}
use Rattle.mesh.specs.declared.RegistersRead.{RegistersRead}
use Rattle.mesh.specs.declared.CountRead.{CountRead}
use Rattle.mesh.specs.declared.MeshRead.{MeshRead}
use Rattle.mesh.specs.declared.LinkRead.{LinkRead}
use Rattle.mesh.specs.declared.FlightRead.{FlightRead}
use Rattle.buffer.specs.declared.opening.SizeRead.{SizeRead}
use Rattle.buffer.specs.Layout.{mesh_of, words_for, words_of}
use Rattle.buffer.specs.Opening.{size_of, open_refusals, opening}
use Rattle.buffer.specs.Holding.{holds_mesh}
use Rattle.mesh.specs.Sound.{SoundLink}
use Rattle.mesh.specs.Lending.{Tables}
use Rattle.mesh.specs.Mesh.{many, chip_of, link_of}
use Rattle.mesh.specs.Calls.{Left, registers_read}
use Rattle.mesh.specs.Looks.{count_read, mesh_read, link_read, flight_read}
use Rattle.buffer.specs.Leaving.{Leaves, Moves, link_left, round_room}
use Rattle.flood.specs.Codes.{flood_refusal, flooded}
use Rattle.fewer.specs.declared.Fewer.{Fewer}
use Rattle.fewer.specs.Call.{fewer_of, left_after, gone_after}
use Rattle.tree.specs.declared.Tree.{Tree}
use Rattle.tree.specs.Call.{tree_of, rows_after, starts_after}
use Rattle.records.specs.declared.Call.{Call}
use Rattle.records.specs.declared.Written.{Written}
use Rattle.records.specs.declared.Record.{Record}
use Rattle.records.specs.Records.{written_of, written_on, record_read}
use Rattle.trace.specs.Replay.{replay_room}
use Rattle.trace.specs.Directly.{OneReplay}
use Rattle.trace.proofs.Directly.{one_replay}
use Rattle.lists.proofs.Alls.{all_get_d}
use Rattle.mesh.proofs.SoundChanges.{chip_sound}
use Rattle.buffer.proofs.SoundWords.{holds_sound}

pub pass_determined : (bytes : List ℕ) (source : ℕ) (tables : ChipTables) (t : Setting) (room : ℕ) (a b : Pass)
    → a ≡ pass_of bytes source tables t room → b ≡ pass_of bytes source tables t room → a ≡ b
pass_determined bytes source tables t room = determined

pub find_determined : (key : ℕ) (rows : List Row) (a b : RowFound) → a ≡ found_in key rows → b ≡ found_in key rows → a ≡ b
find_determined key rows = determined

pub size_determined : (width height : ℕ) (a b : SizeRead) → a ≡ size_of width height → b ≡ size_of width height → a ≡ b
size_determined width height = determined

-- "Its needed length, which W and H alone decide and which is at most 16,384 bytes a chip and 4,096 more": a word has four bytes.
pub needed_length_bounded : (width height : ℕ) → words_for width height * 4 ≤ height * width * 16384 + 4096
needed_length_bounded width height = omega arith

-- Opening: its answer, and every word of the buffer.
pub open_determined : (before : List ℕ) (width height rounds monitor r s : ℕ) (a b : List ℕ)
    → r ≡ first_of (open_refusals (length before) width height rounds monitor) → a ≡ opening r before width height rounds monitor
    → s ≡ first_of (open_refusals (length before) width height rounds monitor) → b ≡ opening s before width height rounds monitor
    → (r ≡ s) × (a ≡ b)
open_determined before width height rounds monitor r s a b e x f y =
    let same = determined r s e f in
    (same, x ∙ ap (λ (n : ℕ). opening n before width height rounds monitor) same ∙ sym y)

-- Two buffers that one call may leave: the same words where it is refused, the same mesh where it is accepted, and always the same words past the
-- needed length. What stands in places that a mesh does not use is left open.
pub record SameLeft (before a b : List ℕ) (r : Left (Unit {0})) : Type 0 where
  pub refused : (r.refusal ≡ 0 → ⊥) → a ≡ b
  pub mesh : r.refusal ≡ 0 → mesh_of a ≡ mesh_of b
  pub past : drop (words_of before) a ≡ drop (words_of before) b

pub left_determined : (before a b : List ℕ) (r : Left (Unit {0})) → Leaves before a r → Leaves before b r → SameLeft before a b r
left_determined before a b r x y =
    record { refused = λ some. x.refused some ∙ sym (y.refused some); mesh = λ none. x.mesh none ∙ sym (y.mesh none); past = x.past ∙ sym y.past }

-- An injection or a round.
pub moves_determined : (before log : List ℕ) (r : Left (Unit {0})) (x y : Added) (a b l k : List ℕ) → Moves before log r x a l → Moves before log r y b k
    → (x ≡ y) × (SameLeft before a b r × (l ≡ k))
moves_determined before log r x y a b l k m n =
    (determined x y m.answered n.answered, (left_determined before a b r m.buffer n.buffer, determined l k m.logged n.logged))

-- A link change answers a number, a read of registers what it hands over; of the buffers that they leave, `left_determined`.
pub set_link_determined : (before : List ℕ) (chip link : ℕ) (up : Bool) (r s : ℕ) → r ≡ (link_left before chip link up).refusal → s ≡ (link_left before chip link up).refusal → r ≡ s
set_link_determined before chip link up = determined

pub read_registers_determined : (before : List ℕ) (chip : ℕ) (a b : RegistersRead)
    → a ≡ registers_read (holds_mesh before) (mesh_of before) chip → b ≡ registers_read (holds_mesh before) (mesh_of before) chip → a ≡ b
read_registers_determined before chip = determined

-- The calls that only look are lent the buffer to read, and cannot change it.
pub read_counter_determined : (mesh : List ℕ) (chip counter : ℕ) (a b : CountRead)
    → a ≡ count_read (holds_mesh mesh) (mesh_of mesh) chip counter → b ≡ count_read (holds_mesh mesh) (mesh_of mesh) chip counter → a ≡ b
read_counter_determined mesh chip counter = determined

pub look_mesh_determined : (mesh : List ℕ) (a b : MeshRead) → a ≡ mesh_read (holds_mesh mesh) (mesh_of mesh) → b ≡ mesh_read (holds_mesh mesh) (mesh_of mesh) → a ≡ b
look_mesh_determined mesh = determined

pub look_link_determined : (mesh : List ℕ) (chip link : ℕ) (a b : LinkRead)
    → a ≡ link_read (holds_mesh mesh) (mesh_of mesh) chip link → b ≡ link_read (holds_mesh mesh) (mesh_of mesh) chip link → a ≡ b
look_link_determined mesh chip link = determined

pub look_flight_determined : (mesh : List ℕ) (chip link place : ℕ) (a b : FlightRead)
    → a ≡ flight_read (holds_mesh mesh) (mesh_of mesh) chip link place → b ≡ flight_read (holds_mesh mesh) (mesh_of mesh) chip link place → a ≡ b
look_flight_determined mesh chip link place = determined

-- A record: what writing answers, and every byte of the room; what reading answers.
pub write_record_determined : (room : List ℕ) (c : Call) (a b : Written) (x y : List ℕ) → a ≡ written_of (length room) c → b ≡ written_of (length room) c
    → x ≡ written_on c room → y ≡ written_on c room
    → (a ≡ b) × (x ≡ y)
write_record_determined room c a b x y e f g h = (determined a b e f, determined x y g h)

pub read_record_determined : (s : List ℕ) (a b : Record) → a ≡ record_read s → b ≡ record_read s → a ≡ b
read_record_determined s = determined

-- A replay: its answer, its log, the mesh; and every word where it stopped at its first record.
pub replay_determined : OneReplay
replay_determined = one_replay

-- And every word of the room for groups.
pub replay_room_determined : (l : List ℕ) (t : Tables) (log : ℕ) (s room a b : List ℕ) → a ≡ replay_room l t log s room → b ≡ replay_room l t log s room → a ≡ b
replay_room_determined l t log s room = determined

-- The room after a round; an injection and a pass leave it word for word as it came.
pub round_room_determined : (before : List ℕ) (t : Tables) (log : ℕ) (room a b : List ℕ) → a ≡ round_room before t log room → b ≡ round_room before t log room → a ≡ b
round_room_determined before t log room = determined

-- A flood: its answer, and every code.
pub flood_determined : (mesh codes : List ℕ) (r s : ℕ) (a b : List ℕ)
    → r ≡ flood_refusal (holds_mesh mesh) (mesh_of mesh) codes → s ≡ flood_refusal (holds_mesh mesh) (mesh_of mesh) codes
    → a ≡ flooded (holds_mesh mesh) (mesh_of mesh) codes → b ≡ flooded (holds_mesh mesh) (mesh_of mesh) codes
    → (r ≡ s) × (a ≡ b)
flood_determined mesh codes r s a b e f g h = (determined r s e f, determined a b g h)

-- A table made fewer: its answer, and every word of what it is lent.
pub fewer_determined : (rows left gone : List ℕ) (x y : Fewer) (a b c d : List ℕ) → x ≡ fewer_of rows left gone → y ≡ fewer_of rows left gone
    → a ≡ left_after rows left gone → b ≡ left_after rows left gone
    → c ≡ gone_after rows left gone → d ≡ gone_after rows left gone
    → (x ≡ y) × ((a ≡ b) × (c ≡ d))
fewer_determined rows left gone x y a b c d e f g h i j = (determined x y e f, (determined a b g h, determined c d i j))

-- A tree: its answer, and every word of the rows and the starts.
pub tree_determined : (width height source key mask : ℕ) (targets rows starts : List ℕ) (x y : Tree) (a b c d : List ℕ)
    → x ≡ tree_of width height source key mask targets rows starts → y ≡ tree_of width height source key mask targets rows starts
    → a ≡ rows_after width height source key mask targets rows starts → b ≡ rows_after width height source key mask targets rows starts
    → c ≡ starts_after width height source key mask targets rows starts → d ≡ starts_after width height source key mask targets rows starts
    → (x ≡ y) × ((a ≡ b) × (c ≡ d))
tree_determined width height source key mask targets rows starts x y a b c d e f g h i j = (determined x y e f, (determined a b g h, determined c d i j))

-- "Every directed link holds at most 8 packets", in every buffer that holds a mesh, as opening and every accepted call leave one.
pub no_link_above_8 : (l : List ℕ) → holds_mesh l ≡ true → (chip link : ℕ) → chip < many (mesh_of l) → link < 6 → length (link_of (mesh_of l) chip link).held ≤ 8
no_link_above_8 l holds chip link hc hl =
    let sound = holds_sound l holds in
    let c = chip_sound sound chip hc in
    (all_get_d SoundLink (chip_of (mesh_of l) chip).links link idle c.links (omega (arith, c.six))).few

-- ---- opening, a link change and a flood answer a Result

-- Where two tell one number, they are one.
pub results_alike : (a b : Result (Unit {0}) Refused) → told a ≡ told b → a ≡ b
results_alike (Ok x) (Ok y) e = refl
results_alike (Ok x) (Err s) e = absurd (number_some s (sym e))
results_alike (Err r) (Ok y) e = absurd (number_some r e)
results_alike (Err r) (Err s) e = ap Err (same_reason r s e)

pub open_answer_determined : (before : List ℕ) (width height rounds monitor : ℕ) (r s : Result (Unit {0}) Refused)
    → told r ≡ first_of (open_refusals (length before) width height rounds monitor)
    → told s ≡ first_of (open_refusals (length before) width height rounds monitor)
    → r ≡ s
open_answer_determined before width height rounds monitor r s e f = results_alike r s (e ∙ sym f)

pub set_link_answer_determined : (before : List ℕ) (chip link : ℕ) (up : Bool) (r s : Result (Unit {0}) Refused)
    → told r ≡ (link_left before chip link up).refusal → told s ≡ (link_left before chip link up).refusal → r ≡ s
set_link_answer_determined before chip link up r s e f = results_alike r s (e ∙ sym f)

pub flood_answer_determined : (mesh codes : List ℕ) (r s : Result (Unit {0}) Refused)
    → told r ≡ flood_refusal (holds_mesh mesh) (mesh_of mesh) codes → told s ≡ flood_refusal (holds_mesh mesh) (mesh_of mesh) codes
    → r ≡ s
flood_answer_determined mesh codes r s e f = results_alike r s (e ∙ sym f)
