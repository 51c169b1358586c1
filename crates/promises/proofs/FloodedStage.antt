-- How far a P2P packet has come by flooded codes: on its way, one copy of it in flight and a pass by its code's link for each link crossed; or there, handed to the monitor, with nothing
-- of it in flight.
use mathlib.Core.Path.{◌≡◌, sym, ◌∙◌, subst}
use mathlib.Core.List.{List, [], ◌∷◌, ◌++◌}
use mathlib.Core.Logic.{◌⊎◌, inl, inr}
use Prim.Native.Nat.{ℕ, ◌+◌, ◌%◌, ◌≤◌, ◌<◌}
use lib.ListN.{length}
use Rattle.packet.specs.Control.{kind_of}
use Rattle.steps.specs.Errors.{errors_of}
use Rattle.lists.specs.Lists.{All}
use Rattle.links.specs.Link.{Flight}
use Rattle.mesh.specs.Mesh.{Mesh, many}
use Rattle.mesh.specs.Steps.{Arrival}
use Rattle.flood.specs.Ways.{fewest}
use Rattle.flood.specs.Codes.{code_of}
use Rattle.flood.specs.OnItsWay.{id_of, SentOn, HandedOver}
use Rattle.promises.specs.History.{Tag, Passage, Event}
use Rattle.promises.specs.FloodedWay.{passes_of}
use Rattle.promises.proofs.Copies.{copies}
use Rattle.promises.proofs.Towards.{EachTo}

-- an injection by its number, the mesh that it found and the rounds before it, from a chip to another that it can reach
pub record Trip : Type 0 where
  pub mesh : Mesh Tag
  pub number : ℕ
  pub before : ℕ
  pub from : ℕ
  pub to : ℕ
  pub few : fewest mesh from to < many mesh
  pub reached : to < many mesh

-- the links that it has to cross
abbrev pub far : Trip → ℕ
far w = fewest w.mesh w.from w.to

module _ (w : Trip) where
  -- a copy that comes to a chip, after j links
  pub record Comes (j chip : ℕ) (x : Flight Tag) : Type 0 where
    pub left : fewest w.mesh chip w.to + j ≡ far w
    pub kind : kind_of x.packet.control ≡ 1
    pub destination : x.packet.word % 65536 ≡ id_of w.mesh w.to
    pub crossed : x.tag.crossed ≡ j

  abbrev pub Ours : ℕ → ℕ → Flight Tag → Type 0
  Ours j chip x = x.tag.injection ≡ w.number → Comes j chip x

  -- where it arrives, without error
  pub record Due (j phase : ℕ) (a : Arrival Tag) : Type 0 where
    pub comes : Comes j a.chip a.flight
    pub errors : errors_of a.flight.packet a.source phase ≡ 0

  abbrev pub Onward : Passage → Type 0
  Onward p = (p.outcome.errors ≡ 0) × SentOn p.outcome p.arrival.flight.packet (code_of w.mesh p.arrival.chip w.to)

  -- its passes so far, each by its code's link
  pub record Sent (j : ℕ) (ps : List Passage) : Type 0 where
    pub many : length ps ≡ j
    pub onward : All Onward ps

  pub record OnWay (j : ℕ) (k : Mesh Tag) : Type 0 where
    pub most : j ≤ far w
    pub each : EachTo (Ours j) k
    pub one : copies w.number k ≡ 1

  pub record Delivered (ps : List Passage) : Type 0 where
    pub on_way : List Passage
    pub last : Passage
    pub passes : ps ≡ on_way ++ (last ∷ [])
    pub sent : Sent (far w) on_way
    pub there : last.arrival.chip ≡ w.to
    pub right : last.outcome.errors ≡ 0
    pub handed : HandedOver last.outcome w.mesh.monitor
    pub crossed : last.arrival.flight.tag.crossed ≡ far w

  -- in a mesh, after some events
  abbrev pub Stage : ℕ → Mesh Tag → List Event → Type 0
  Stage j k es = (Sent j (passes_of w.number es) × OnWay j k) ⊎ (Delivered (passes_of w.number es) × (copies w.number k ≡ 0))

  -- in another mesh, with the same of it in flight, after events with the same passes of it
  pub moved : (j : ℕ) (k k' : Mesh Tag) (es es' : List Event) → (EachTo (Ours j) k → EachTo (Ours j) k') → copies w.number k' ≡ copies w.number k → passes_of w.number es' ≡ passes_of w.number es
      → Stage j k es
      → Stage j k' es'
  moved j k k' es es' each same passes (inl s) =
      inl (subst (Sent j) (sym passes) s.0, record { most = s.1.most; each = each s.1.each; one = same ∙ s.1.one })
  moved j k k' es es' each same passes (inr s) = inr (subst Delivered (sym passes) s.0, same ∙ s.1)
