-- The whole way of a P2P packet by flooded codes, over the mesh's calls: its injection is its first pass, of a number that no copy has yet, and then it goes on as the rounds do.
use mathlib.Core.Path.{◌≡◌, refl, sym, ◌∙◌, subst}
use mathlib.Core.List.{List, [], foldl}
use mathlib.Core.Logic.{inr}
use Prim.Native.Nat.{ℕ, ◌+◌, ◌-◌, ◌≤◌}
use native.Mathlib.Nat.{add-zero, le_refl}
use native.Mathlib.Omega.{arith}
use lib.ListN.{length, length-append}
use borrow.Author.Tests.{eq-eqb}
use Rattle.packet.specs.Bytes.{packet_at}
use Rattle.lists.proofs.Alls.{all_nil}
use Rattle.mesh.specs.Mesh.{Mesh}
use Rattle.mesh.specs.Lending.{Tables}
use Rattle.mesh.specs.Steps.{set_out, injected}
use Rattle.mesh.specs.Asked.{Call}
use Rattle.mesh.specs.Sound.{SoundMesh}
use Rattle.mesh.proofs.SoundSteps.{sound_injected}
use Rattle.flood.specs.Ways.{Way, fewest}
use Rattle.flood.specs.OnItsWay.{Follows}
use Rattle.flood.proofs.SixWhereNoWay.{few_links}
use Rattle.promises.specs.History.{Tag, State, Opens, passages, turned, after}
use Rattle.promises.specs.Sequence.{Step, sequence}
use Rattle.promises.specs.Told.{EachPass}
use Rattle.promises.specs.FloodedWay.{passes_of, injecting, FloodedWay}
use Rattle.promises.proofs.Told.{each_parts, each_pass_weaken}
use Rattle.promises.proofs.Accepts as accepts
use Rattle.promises.proofs.Sequences.{after_accepted}
use Rattle.promises.proofs.Histories.{sound_always}
use Rattle.promises.proofs.Flights.{each_weaken}
use Rattle.promises.proofs.Ages.{ageing_kept, ages_always}
use Rattle.promises.proofs.Belongs.{belonging}
use Rattle.promises.proofs.LinkStates.{alike_itself, alike_pass}
use Rattle.promises.proofs.Copies.{copies, OfOthers, no_copies, passes_none}
use Rattle.promises.proofs.FloodedStage.{Trip, Onward, Sent, Stage}
use Rattle.promises.proofs.FloodedPass.{passes_by_code}
use Rattle.promises.proofs.FloodedSince.{Since, after_calls, reaches}

module _ (w h f monitor : ℕ) (o : Opens w h f monitor) (xs : List Step) where
  abbrev s : State
  s = sequence w h f monitor xs

  abbrev m : Mesh Tag
  m = s.mesh

  abbrev n : ℕ
  n = length s.given

  sound : SoundMesh m
  sound = sound_always w h f monitor o xs

  -- no copy has the number of an injection that is still to come
  alone : copies n m ≡ 0
  alone = no_copies n m (each_weaken _ (OfOthers n) (λ x b e. omega (arith, b.0)) m (belonging w h f monitor o xs).0)

  no_passes : passes_of n s.events ≡ []
  no_passes = passes_none n s.events (each_pass_weaken _ (λ p. OfOthers n p.arrival.flight) (λ p b e. omega (arith, b.0)) s.events (belonging w h f monitor o xs).1)

  module _ (from to : ℕ) (bytes : List ℕ) (t : Tables) (follows : Follows m t (packet_at bytes) 7 from to) (links : List ℕ) (way : Way m from to links) (most : fewest m from to ≤ f) where
    abbrev trip : Trip
    trip =
        record {
          mesh = m;
          number = n;
          before = s.accepted;
          from = from;
          to = to;
          few = few_links m sound from to follows.at follows.there links way;
          reached = follows.there;
        }

    first_pass : accepts.Injects m from bytes t → Since trip f (accepts.after_injection s from bytes t)
    unfolding EachPass passages
    first_pass fine =
        let a = accepts.arrival_now s from bytes in
        let next = accepts.after_injection s from bytes t in
        let one : 1 ≡ s.accepted + 1 - s.accepted = omega arith in
        record {
          ageing = ageing_kept.injects f s from bytes t sound fine (ages_always w h f monitor o xs);
          alike = alike_pass t turned (set_out m) a (alike_itself m sound);
          given = simp length-append (omega arith);
          begun = le_refl s.accepted;
          stage = λ room.
              subst (λ (j : ℕ). Stage trip j next.mesh next.events) one
              (passes_by_code trip t follows.codes s.accepted (set_out m) (alike_itself m sound) sound a (record { there = fine.there; from = inr refl; passable = fine.passable }) refl 0
              (record {
                comes = record { left = add-zero (fewest m from to); kind = follows.kind; destination = follows.destination; crossed = refl };
                errors = follows.errors;
              })
              alone s.events
              (subst (Sent trip 0) (sym no_passes) (record { many = refl; onward = all_nil (Onward trip) }))
              ((each_parts _ s.events _ room).1.0 refl));
        }

pub flooded_way : FloodedWay
flooded_way w h f monitor o xs from to bytes t room links cs accepted follows way most keeps has_room enough =
    let s = sequence w h f monitor xs in
    let c : Call = injecting s f from to bytes t room in
    let x = (accepts.arrival_now s from bytes).flight in
    let here : Trip = trip w h f monitor o xs from to bytes t follows links way most in
    let fine = accepts.inject_accepts s.mesh from bytes t room (accepts.unless_accepts _ _ s.mesh (injected t turned s.mesh from x) accepted) in
    let first : accepts.after_injection s from bytes t ≡ after s c = sym (after_accepted s c (eq-eqb _ 0 accepted) ∙ accepts.inject_leaves s from bytes t room accepted) in
    let sound_first : SoundMesh (after s c).mesh =
    subst (λ (e : State). SoundMesh e.mesh) first (sound_injected t turned s.mesh from x (sound w h f monitor o xs) fine.there fine.passable fine.codes) in
    let since : Since here f (after s c) = subst (Since here f) first (first_pass w h f monitor o xs from to bytes t follows links way most fine) in
    reaches here f most (foldl after (after s c) cs) enough (after_calls here f most cs (after s c) keeps sound_first since) has_room
