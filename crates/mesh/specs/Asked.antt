-- What a caller may ask of a mesh, each call with all its inputs, and what it leaves and answers: by the definitions that the calls' contracts cite.
use Rattle.std.specs.Prelude.{ℕ, Bool, true, List, []}
use Rattle.packet.specs.declared.Packet.{Packet}
use Rattle.packet.specs.Bytes.{packet_at, nothing}
use Rattle.mesh.specs.declared.Added.{Added}
use Rattle.mesh.specs.declared.RegistersRead.{RegistersRead}
use Rattle.mesh.specs.declared.CountRead.{CountRead}
use Rattle.mesh.specs.declared.MeshRead.{MeshRead}
use Rattle.mesh.specs.declared.LinkRead.{LinkRead}
use Rattle.mesh.specs.declared.FlightRead.{FlightRead}
use Rattle.mesh.specs.Mesh.{Mesh}
use Rattle.mesh.specs.Lending.{Tables}
use Rattle.mesh.specs.Calls as calls
use Rattle.mesh.specs.Looks as looks

-- ---- each call that is lent a mesh, with all its inputs; of a log only its length counts

pub data Change : Type 0 where
  inject : (chip : ℕ) (bytes : List ℕ) (t : Tables) (room : ℕ) → Change
  round : (t : Tables) (room : ℕ) → Change
  set_link : (chip link : ℕ) (up : Bool) → Change
  read_registers : (chip : ℕ) → Change

-- "Reading a counter, like every call that is not said to change the mesh, leaves mesh and log as they were".
pub data Look : Type 0 where
  read_counter : (chip counter : ℕ) → Look
  look_mesh : Look
  look_link : (chip link : ℕ) → Look
  look_flight : (chip link place : ℕ) → Look

pub data Call : Type 0 where
  change : Change → Call
  look : Look → Call

-- What a look shows.
pub data Seen : Type 0 where
  of_count : CountRead → Seen
  of_mesh : MeshRead → Seen
  of_link : LinkRead → Seen
  of_flight : FlightRead → Seen

abbrev pub refusal_of : Seen → ℕ
refusal_of (of_count r) = r.refusal
refusal_of (of_mesh r) = r.refusal
refusal_of (of_link r) = r.refusal
refusal_of (of_flight r) = r.refusal

pub data Answer : Type 0 where
  of_added : Added → Answer
  of_refusal : ℕ → Answer
  of_registers : RegistersRead → Answer
  of_look : Seen → Answer

-- ---- what a call answers and leaves, of a buffer that holds a mesh

module _ {A : Type 0} where
  abbrev pub seen_by : Mesh A → Look → Seen
  seen_by m (read_counter chip counter) = of_count (looks.count_read true m chip counter)
  seen_by m look_mesh = of_mesh (looks.mesh_read true m)
  seen_by m (look_link chip link) = of_link (looks.link_read true m chip link)
  seen_by m (look_flight chip link place) = of_flight (looks.flight_read true m chip link place)

  abbrev pub left_by : (A → A) → A → Mesh A → Call → calls.Left A
  left_by turn tag m (change (inject chip bytes t room)) = calls.injecting true t turn m room chip bytes tag
  left_by turn tag m (change (round t room)) = calls.rounding true t turn m room
  left_by turn tag m (change (set_link chip link up)) = calls.linking true m chip link up
  left_by turn tag m (change (read_registers chip)) = calls.emptying true m chip
  left_by turn tag m (look l) = record { refusal = refusal_of (seen_by m l); place = 0; mesh = m; log = [] }

  abbrev pub answer_of : (A → A) → A → Mesh A → Call → Answer
  answer_of turn tag m (change (inject chip bytes t room)) = of_added (calls.added_of (calls.injecting true t turn m room chip bytes tag))
  answer_of turn tag m (change (round t room)) = of_added (calls.added_of (calls.rounding true t turn m room))
  answer_of turn tag m (change (set_link chip link up)) = of_refusal (calls.linking true m chip link up).refusal
  answer_of turn tag m (change (read_registers chip)) = of_registers (calls.registers_read true m chip)
  answer_of turn tag m (look l) = of_look (seen_by m l)

-- ---- what a history asks of a call

abbrev pub is_injection : Call → ℕ
is_injection (change (inject chip bytes t room)) = 1
is_injection (change (round t room)) = 0
is_injection (change (set_link chip link up)) = 0
is_injection (change (read_registers chip)) = 0
is_injection (look l) = 0

abbrev pub is_round : Call → ℕ
is_round (change (inject chip bytes t room)) = 0
is_round (change (round t room)) = 1
is_round (change (set_link chip link up)) = 0
is_round (change (read_registers chip)) = 0
is_round (look l) = 0

-- What a call injects; only an injection does.
abbrev pub handed_in : Call → Packet
handed_in (change (inject chip bytes t room)) = packet_at bytes
handed_in (change (round t room)) = nothing
handed_in (change (set_link chip link up)) = nothing
handed_in (change (read_registers chip)) = nothing
handed_in (look l) = nothing
