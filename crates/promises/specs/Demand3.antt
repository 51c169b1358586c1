-- Demand 3, and what goes with it: nothing wanders, every unit is accounted for. Each is said of every history: a mesh just opened, with F rounds
-- to a phase, and any sequence of calls and replays, whatever tables, packets, traces and logs they hand in.
use Rattle.std.specs.Prelude.{ℕ, ◌+◌, ◌-◌, ◌*◌, ◌/◌, ◌%◌, ◌^◌, ◌≤◌, ◌<◌, ◌≡◌, true, List, ◌++◌, length, get_or}
use Rattle.steps.specs.Links.{has}
use Rattle.steps.specs.Deciding.{outcome_of}
use Rattle.kept.specs.Units.{weight, extra, settled}
use Rattle.links.specs.Link.{Flight, idle, is_ready}
use Rattle.mesh.specs.Mesh.{Mesh, fresh, opened}
use Rattle.buffer.specs.Layout.{mesh_of}
use Rattle.buffer.specs.Holding.{holds_mesh}
use Rattle.mesh.specs.Lending.{Tables}
use Rattle.mesh.specs.Steps.{same}
use Rattle.mesh.specs.Weights.{on_mesh}
use Rattle.buffer.specs.Leaving.{Leaves}
use Rattle.lists.specs.Lists.{All}
use Rattle.mesh.specs.Asked.{Call, left_by, answer_of}
use Rattle.trace.specs.declared.Replayed.{Replayed}
use Rattle.trace.specs.Replay.{replay_of, Replays}
use Rattle.promises.specs.History.{Tag, Given, State, Opens, turned, none_given, after, begun, history}
use Rattle.promises.specs.Sequence.{Step, replay, stepped, sequence, made_in, Reply, answers_of, Run}
use Rattle.promises.specs.Told.{Stamped, EachFlight, EachPass, sum_of, count_at, drops_since, first_of_units, records_of, plain, plain_left}

-- 2F - (r mod F): the further rounds that a packet injected after r rounds has before it is too old.
abbrev pub span : ℕ → ℕ → ℕ
span f r = 2 * f - r % f

-- The tags are this history's alone: without them it has, call by call, the meshes, answers and logs that the calls' contracts name, so that what
-- follows is about the program. A call on a buffer that holds the state's mesh leaves a buffer that holds the next state's.
abbrev pub Forgetting : Type 1
Forgetting = (A : Type 0) (turn : A → A) (tag : A) (m : Mesh A) (c : Call)
    → (plain_left (left_by turn tag m c) ≡ left_by same tt (plain m) c) × (answer_of turn tag m c ≡ answer_of same tt (plain m) c)

abbrev pub Program : Type 0
Program = (s : State) (c : Call) (before after' : List ℕ) → holds_mesh before ≡ true → mesh_of before ≡ plain s.mesh
    → Leaves before after' (left_by same tt (mesh_of before) c) → (holds_mesh after' ≡ true) × (mesh_of after' ≡ plain (after s c).mesh)

-- The same of a replay: it leaves a buffer that holds the mesh of the state after the calls that it makes, and its log is theirs, joined.
abbrev pub ReplayIsItsCalls : Type 0
ReplayIsItsCalls = (s : State) (trace : List ℕ) (t : Tables) (before after' log written : List ℕ) (answer : Replayed) → holds_mesh before ≡ true → mesh_of before ≡ plain s.mesh
    → Replays before after' log written answer (replay_of before t (length log) trace)
    → (holds_mesh after' ≡ true) × ((mesh_of after' ≡ plain (stepped s (replay trace t (length log))).mesh)
    × ((stepped s (replay trace t (length log))).log ≡ s.log ++ (replay_of before t (length log) trace).log))

-- A sequence of calls and replays is the history of the calls that are made in it.
abbrev pub SequenceIsCalls : Type 0
SequenceIsCalls = (w h f monitor : ℕ) (xs : List Step) → sequence w h f monitor xs ≡ history w h f monitor (made_in (begun w h f monitor) xs)

-- So a buffer that was opened holds, after any run of the program, the mesh of its sequence; the records that were added to the logs, joined, are the sequence's log, and the
-- answers are those of the history.
abbrev pub WholeRun : Type 0
WholeRun = (w h f monitor : ℕ) (before behind log : List ℕ) (xs : List Step) (answers : List Reply) → holds_mesh before ≡ true → mesh_of before ≡ opened w h f monitor
    → Run before xs behind log answers
    → (holds_mesh behind ≡ true) × (mesh_of behind ≡ plain (sequence w h f monitor xs).mesh)
    × (log ≡ (sequence w h f monitor xs).log)
    × (answers ≡ answers_of (begun w h f monitor) xs)

-- What a theorem over histories says of one: a sequence of any calls, refused ones among them.
abbrev pub Always : (ℕ → State → Type 0) → Type 0
Always P = (w h f monitor : ℕ) → Opens w h f monitor → (xs : List Step) → P f (sequence w h f monitor xs)

-- 1. An MC, P2P or fixed-route packet injected after r rounds crosses at most 2F-(r mod F)+1 links: every copy, in flight or where it passed.
abbrev pub LinksCrossed : Type 0
LinksCrossed = Always (λ f s.
    EachFlight (λ x. Stamped x.tag.packet → x.tag.crossed ≤ span f x.tag.before + 1) s.mesh
    × EachPass (λ p. Stamped p.arrival.flight.tag.packet → p.arrival.flight.tag.crossed ≤ span f p.arrival.flight.tag.before + 1) s.events)

-- "Each sending is one crossing": such a copy in flight has crossed one link when it was injected and one in every round since, no fewer and no more.
abbrev pub CrossingsCounted : Type 0
CrossingsCounted = Always (λ f s. EachFlight (λ x. Stamped x.tag.packet → x.tag.crossed + x.tag.before ≡ s.accepted + 1) s.mesh)

-- 2. It is gone after that many rounds: what is in flight was injected fewer rounds ago.
abbrev pub GoneInTime : Type 0
GoneInTime = Always (λ f s. EachFlight (λ x. Stamped x.tag.packet → s.accepted < x.tag.before + (span f x.tag.before + 1)) s.mesh)

-- 3. It is not stopped for age in the first 2F-(r mod F): a pass that finds it too old is in a later further round.
abbrev pub NotBeforeItsTime : Type 0
NotBeforeItsTime = Always (λ f s.
    EachPass (λ p. p.outcome.errors / 2 % 2 ≡ 1 → p.arrival.flight.tag.before + span f p.arrival.flight.tag.before ≤ p.accepted) s.events)

-- 4. The account of units closes throughout: units injected plus extra branches equal units delivered, ended in error, dropped, swallowed and in
-- flight.
abbrev pub Account : Type 0
Account = Always (λ f s.
    length s.given + sum_of (λ p. extra p.outcome) s.events
    ≡ sum_of (λ p. settled p.outcome p.arrival.source) s.events + on_mesh (λ x. weight x.packet) s.mesh)

-- 5. The counters of each chip: "the counters equal theirs modulo their width", theirs being the sums over the history of passes.
abbrev pub Counts : Type 0
Counts = Always (λ f s. (chip k : ℕ) → chip < s.mesh.height * s.mesh.width → k < 10
    → get_or (get_or s.mesh.chips chip fresh).counters.count k 0 ≡ sum_of (count_at chip k) s.events % 2 ^ 32)

-- 6. The error registers of each chip: "the first dropped unit since they were last read", where it came in and in which phase, "the number of units dropped since the last
-- read, stopping at 65,535", and whether that is above 1.
abbrev pub Registers : Type 0
Registers = Always (λ f s. (chip : ℕ) → chip < s.mesh.height * s.mesh.width
    → (get_or s.mesh.chips chip fresh).registers ≡ first_of_units (drops_since chip s.events))

-- 7. The log: the records of all accepted calls, joined, are in order those of the passes that handed a packet to a processor.
abbrev pub Log : Type 0
Log = Always (λ f s. s.log ≡ records_of s.events)

-- 8. No block outlives its cause: the ready set of every pass is that of the links as they stand at that pass, so that a link that was down or full,
-- and no longer is, is ready.
abbrev pub NoStaleBlock : Type 0
NoStaleBlock = Always (λ f s. EachPass (λ p.
    (p.outcome ≡ outcome_of p.arrival.flight.packet p.arrival.source p.tables p.setting)
    × ((i : ℕ) → i < 6 → has p.setting.ready i ≡ is_ready (get_or p.here.links i idle))) s.events)

-- 9. "Every directed link holds at most 8 packets", after every call.
abbrev pub NoLinkAbove8 : Type 0
NoLinkAbove8 = Always (λ f s. (chip link : ℕ) → chip < s.mesh.height * s.mesh.width → link < 6
    → length (get_or (get_or s.mesh.chips chip fresh).links link idle).held ≤ 8)

-- 10. "Each copy there is tied to the injection it came from, so that equal bytes stay apart": it has the number of an accepted injection, with the packet that
-- was handed in and the rounds accepted before. A new injection takes the number of none before it: all before are below `length given`.
abbrev pub Belongs : List Given → Tag → Type 0
Belongs given tag = (tag.injection < length given) × (get_or given tag.injection none_given ≡ record { packet = tag.packet; before = tag.before })

abbrev pub Belonging : Type 0
Belonging = Always (λ f s. EachFlight (λ x. Belongs s.given x.tag) s.mesh × EachPass (λ p. Belongs s.given p.arrival.flight.tag) s.events)

-- What a pass adds to a link stands behind what the link held before, and each packet of it has the passing packet's own tag, turned.
pub record Behind (before after : List (Flight Tag)) (tag : Tag) : Type 0 where
  pub added : List (Flight Tag)
  pub joined : after ≡ before ++ added
  pub tagged : All (λ (x : Flight Tag). x.tag ≡ tag) added

abbrev pub CopiesApart : Type 0
CopiesApart = Always (λ f s. EachPass (λ p. (i : ℕ) → i < 6
    → Behind (get_or p.here.links i idle).held (get_or p.left.links i idle).held (turned p.arrival.flight.tag)) s.events)
