-- The whole way of a P2P packet by flooded codes, over the mesh's own calls: "with the links as given and room on them, a P2P packet without error, following the codes, crosses the
-- fewest links possible, if that number is at most F". It is said of any sequence, an accepted injection after it, and any calls after that.
use Rattle.std.specs.Prelude.{ℕ, ◌+◌, ◌≤◌, ◌≡◌, true, cond, eqb, length}
use mathlib.Core.List.{List, [], ◌∷◌, ◌++◌, foldl}
use Rattle.packet.specs.Bytes.{packet_at}
use Rattle.steps.specs.Links.{has}
use Rattle.lists.specs.Lists.{All}
use Rattle.mesh.specs.Mesh.{Mesh}
use Rattle.mesh.specs.Lending.{Tables}
use Rattle.mesh.specs.Asked.{Call, inject, round, set_link, read_registers, change, look, left_by}
use Rattle.flood.specs.Ways.{Way, is_up, fewest}
use Rattle.flood.specs.Codes.{code_of, codes_of}
use Rattle.flood.specs.OnItsWay.{Follows, SentOn, HandedOver}
use Rattle.promises.specs.History.{Tag, Passage, Event, packet_passed, registers_emptied, State, Opens, turned, tag_now, after}
use Rattle.promises.specs.Sequence.{Step, sequence}
use Rattle.promises.specs.Told.{EachFlight, EachPass}

-- The passes of the copies of one injection, in order.
unfoldable pub passes_of : ℕ → List Event → List Passage
passes_of n [] = []
passes_of n (packet_passed p ∷ es) = cond (eqb p.arrival.flight.tag.injection n) (p ∷ passes_of n es) (passes_of n es)
passes_of n (registers_emptied c ∷ es) = passes_of n es

-- "With the links as given": a call that leaves every link in the state that it has in m and, where it is a round, is lent these codes. All else is open: other packets, rows and fixed routes,
-- looks, reads of registers, refused calls.
abbrev pub Keeps : Mesh Tag → Call → Type 0
Keeps m (change (inject chip bytes t room)) = Unit {0}
Keeps m (change (round t room)) = t.codes ≡ codes_of m
Keeps m (change (set_link chip link up)) = is_up m chip link ≡ up
Keeps m (change (read_registers chip)) = Unit {0}
Keeps m (look l) = Unit {0}

-- "And room on them": wherever the packet passes before its destination, its code's link is ready at that moment. Nothing is asked of any other link.
abbrev pub HasRoom : Mesh Tag → ℕ → ℕ → List Event → Type 0
HasRoom m n to es = EachPass (λ p. p.arrival.flight.tag.injection ≡ n → (p.arrival.chip ≡ to → ⊥) → has p.setting.ready (code_of m p.arrival.chip to) ≡ true) es

-- All passes of the packet: one for each of the fewest links, which sends it by its code's link and does nothing else with it, and one at its destination, which hands it to the monitor alone. None of them
-- is in error, and afterwards none of it is in flight.
pub record Reaches (m : Mesh Tag) (n from to : ℕ) (e : State) : Type 0 where
  pub on_way : List Passage
  pub last : Passage
  pub passes : passes_of n e.events ≡ on_way ++ (last ∷ [])
  pub many : length on_way ≡ fewest m from to
  pub sent : All (λ p. (p.outcome.errors ≡ 0) × SentOn p.outcome p.arrival.flight.packet (code_of m p.arrival.chip to)) on_way
  pub there : last.arrival.chip ≡ to
  pub right : last.outcome.errors ≡ 0
  pub handed : HandedOver last.outcome m.monitor
  pub crossed : last.arrival.flight.tag.crossed ≡ fewest m from to
  pub gone : EachFlight (λ x. x.tag.injection ≡ n → ⊥) e.mesh

module _ (s : State) (f from to : ℕ) (bytes : List ℕ) (t : Tables) (room : ℕ) where
  abbrev pub injecting : Call
  injecting = change (inject from bytes t room)

  -- The injection, and then the calls.
  abbrev pub afterwards : List Call → State
  afterwards cs = foldl after (after s injecting) cs

  -- Where the injection is accepted, a way leads from its chip to the packet's destination, and as many rounds as the fewest links were accepted after it.
  abbrev pub ReachesAfter : List ℕ → List Call → Type 0
  ReachesAfter links cs =
      (left_by turned (tag_now s injecting) s.mesh injecting).refusal ≡ 0 → Follows s.mesh t (packet_at bytes) 7 from to → Way s.mesh from to links → fewest s.mesh from to ≤ f → All (Keeps s.mesh) cs
      → HasRoom s.mesh (length s.given) to (afterwards cs).events
      → s.accepted + fewest s.mesh from to ≤ (afterwards cs).accepted
      → Reaches s.mesh (length s.given) from to (afterwards cs)

abbrev pub FloodedWay : Type 0
FloodedWay = (w h f monitor : ℕ) → Opens w h f monitor → (xs : List Step) (from to : ℕ) (bytes : List ℕ) (t : Tables) (room : ℕ) (links : List ℕ) (cs : List Call)
    → ReachesAfter (sequence w h f monitor xs) f from to bytes t room links cs
