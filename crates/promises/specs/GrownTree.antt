-- A packet that goes by a grown tree, over the mesh's own calls: "with only these rows, all links up, nothing else in flight and the tree at most F links deep, one matching packet, injected at the
-- source without error, reaches each named processor exactly once and no other, and nothing is dropped". It is said of any sequence that leaves nothing in flight, an accepted injection after it, and rounds.
use Rattle.std.specs.Prelude.{ℕ, ◌+◌, ◌*◌, ◌≤◌, ◌<◌, ◌≡◌, Bool, true, cond, ◌&&◌, eqb, length, take}
use mathlib.Core.List.{List, [], ◌∷◌, foldl}
use Rattle.packet.specs.declared.Packet.{Packet}
use Rattle.packet.specs.Bytes.{packet_at}
use Rattle.packet.specs.Control.{mark_of}
use Rattle.packet.specs.Types.{is_mc}
use Rattle.tables.specs.Rows.{matches}
use Rattle.steps.specs.Links.{has, processors_of}
use Rattle.steps.specs.Errors.{errors_of}
use Rattle.lists.specs.Lists.{All}
use Rattle.links.specs.Across.{across}
use Rattle.mesh.specs.Lending.{Tables}
use Rattle.mesh.specs.Mesh.{many, link_of}
use Rattle.mesh.specs.Weights.{in_flight}
use Rattle.mesh.specs.Asked.{Call, inject, round, set_link, read_registers, change, look, left_by}
use Rattle.tree.specs.Growing.{targets_of, Grown}
use Rattle.tree.specs.Call.{grown_tree, refusal_of, tree_of, rows_after, starts_after}
use Rattle.tree.specs.Rooted.{is_link, processors_on}
use Rattle.promises.specs.History.{Passage, State, Opens, turned, tag_now, after}
use Rattle.promises.specs.Sequence.{Step, sequence}
use Rattle.promises.specs.Told.{EachFlight, EachPass, sum_of}

-- What was grown: the call's inputs.
pub record Asked : Type 0 where
  pub width : ℕ
  pub height : ℕ
  pub source : ℕ
  pub key : ℕ
  pub mask : ℕ
  pub words : List ℕ
  pub rows : List ℕ
  pub starts : List ℕ

module _ (a : Asked) where
  abbrev pub refusal : ℕ
  refusal = refusal_of a.width a.height a.source a.key a.mask a.words a.rows a.starts

  abbrev pub tree : Grown
  tree = grown_tree a.width a.height a.source a.key a.mask a.words

  -- "Only these rows": as many as the call answers, and the starts.
  abbrev pub rows_written : List ℕ
  rows_written = take ((tree_of a.width a.height a.source a.key a.mask a.words a.rows a.starts).rows * 3) (rows_after a.width a.height a.source a.key a.mask a.words a.rows a.starts)

  abbrev pub starts_written : List ℕ
  starts_written = starts_after a.width a.height a.source a.key a.mask a.words a.rows a.starts

  -- Codes and fixed routes are open.
  pub record Only (t : Tables) : Type 0 where
    pub rows : t.rows ≡ rows_written
    pub starts : t.starts ≡ starts_written

  -- Whether links lead on from a chip along the tree.
  unfoldable pub along : ℕ → List ℕ → Bool
  along chip [] = true
  along chip (i ∷ is) = is_link a.width a.height a.source tree chip i && along (across a.width a.height chip i) is

  -- The tree at most so many links deep.
  abbrev pub AtMostDeep : ℕ → Type 0
  AtMostDeep d = (links : List ℕ) → All (λ i. i < 6) links → along a.source links ≡ true → length links ≤ d

  -- A round with only these rows, or a call that moves no packet and takes no link down.
  abbrev pub Keeps : Call → Type 0
  Keeps (change (inject chip bytes t room)) = ⊥
  Keeps (change (round t room)) = Only t
  Keeps (change (set_link chip link up)) = up ≡ true
  Keeps (change (read_registers chip)) = Unit {0}
  Keeps (look l) = Unit {0}

-- Whether a pass of an injection's copy hands it to a processor of a chip.
abbrev pub handed : ℕ → ℕ → ℕ → Passage → ℕ
handed n chip k p = cond (eqb p.arrival.flight.tag.injection n && eqb p.arrival.chip chip && has (processors_of p.outcome.wanted) k) 1 0

-- Each named processor once and no other, nothing in error, nothing dropped, and nothing left in flight.
pub record Delivers (a : Asked) (n : ℕ) (e : State) : Type 0 where
  pub once : (chip k : ℕ) → chip < a.height * a.width → k < 20 → sum_of (handed n chip k) e.events ≡ cond (has (processors_on chip 0 (targets_of a.words)) k) 1 0
  pub right : EachPass (λ p. p.arrival.flight.tag.injection ≡ n → p.outcome.errors ≡ 0) e.events
  pub none_dropped : EachPass (λ p. p.arrival.flight.tag.injection ≡ n → (p.outcome.dropped ≡ 0) × (p.outcome.leg_dropped ≡ 0)) e.events
  pub gone : EachFlight (λ x. x.tag.injection ≡ n → ⊥) e.mesh

-- A multicast packet without error and without a mark, whose key the rows match.
pub record Matching (a : Asked) (phase : ℕ) (p : Packet) : Type 0 where
  pub multicast : is_mc p.control ≡ true
  pub unmarked : mark_of p.control ≡ 0
  pub errors : errors_of p 7 phase ≡ 0
  pub matching : matches p.word a.key a.mask ≡ true

-- "The tree at most F links deep": at most d, which is at most F; and d rounds are over after the injection.
module _ (a : Asked) (s : State) (f d : ℕ) (bytes : List ℕ) (t : Tables) (room : ℕ) where
  abbrev pub injecting : Call
  injecting = change (inject a.source bytes t room)

  abbrev pub afterwards : List Call → State
  afterwards cs = foldl after (after s injecting) cs

  abbrev pub DeliversAfter : List Call → Type 0
  DeliversAfter cs =
      refusal a ≡ 0 → s.mesh.width ≡ a.width → s.mesh.height ≡ a.height → in_flight s.mesh ≡ 0
      → ((chip i : ℕ) → chip < many s.mesh → i < 6 → (link_of s.mesh chip i).up ≡ true)
      → (left_by turned (tag_now s injecting) s.mesh injecting).refusal ≡ 0
      → Only a t
      → Matching a s.mesh.phase (packet_at bytes)
      → AtMostDeep a d
      → d ≤ f
      → All (Keeps a) cs
      → s.accepted + d ≤ (afterwards cs).accepted
      → Delivers a (length s.given) (afterwards cs)

abbrev pub GrownTree : Type 0
GrownTree = (w h f monitor : ℕ) → Opens w h f monitor → (xs : List Step) (a : Asked) (d : ℕ) (bytes : List ℕ) (t : Tables) (room : ℕ) (cs : List Call)
    → DeliversAfter a (sequence w h f monitor xs) f d bytes t room cs
