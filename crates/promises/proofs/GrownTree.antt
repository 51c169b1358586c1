-- A packet that goes by a grown tree, over the mesh's calls: its injection is its pass at the source, in a mesh with nothing in flight, and then each round brings it one deeper.
use Prim.Native.Nat.{ℕ, ◌-◌, ◌/◌, ◌<◌}
use mathlib.Core.Path.{◌≡◌, refl, sym, ap, ◌∙◌, subst}
use mathlib.Core.Bool.{Bool, true, cond, ◌&&◌}
use mathlib.Core.List.{List, [], ◌∷◌, ◌++◌, foldl}
use mathlib.Core.Logic.{inl, inr}
use native.Mathlib.Decide.{ℕ_discrete}
use native.Mathlib.Omega.{arith}
use lib.Dec.{eqb}
use lib.ListN.{length}
use borrow.Author.Tests.{eq-eqb, ne_eqb, le-leb, lt-leb}
use Rattle.packet.specs.Bytes.{packet_at}
use Rattle.steps.specs.Links.{has, processors_of}
use Rattle.lists.specs.Lists.{total}
use Rattle.lists.proofs.Alls.{all_or}
use Rattle.links.specs.Link.{Flight, Link, idle}
use Rattle.mesh.specs.Mesh.{Chip, Mesh, fresh, many, chip_of, link_of}
use Rattle.mesh.specs.Lending.{Tables}
use Rattle.mesh.specs.Steps.{set_out, injected}
use Rattle.mesh.specs.Weights.{weight_on, on_chip, in_flight}
use Rattle.mesh.specs.Asked.{Call}
use Rattle.mesh.specs.Sound.{SoundMesh}
use Rattle.mesh.proofs.SoundSteps.{sound_injected}
use Rattle.promises.specs.History.{Tag, Event, packet_passed, registers_emptied, State, Opens, turned, passages, after}
use Rattle.promises.specs.Sequence.{Step, sequence}
use Rattle.promises.specs.Told.{EachPass, sum_of}
use Rattle.promises.specs.GrownTree.{Only, AtMostDeep, Matching, handed, injecting, GrownTree}
use Rattle.promises.proofs.Told.{sum_append, each_append, each_pass_weaken}
use Rattle.promises.proofs.Accepts as accepts
use Rattle.promises.proofs.Sequences.{after_accepted}
use Rattle.promises.proofs.Histories.{sound_always}
use Rattle.promises.proofs.Ages.{ageing_kept, ages_always}
use Rattle.promises.proofs.Belongs.{belonging}
use Rattle.promises.proofs.Runs.{passage}
use Rattle.promises.proofs.LinkStates.{Alike, alike_itself, alike_pass}
use Rattle.promises.proofs.Copies.{OfOthers, all_zero}
use Rattle.promises.proofs.TreeShape as shape
use Rattle.promises.proofs.TreeStep.{Trip, Holds, Passes, passes_by_tree}
use Rattle.promises.proofs.TreeArrivals.{all, depth, route, leaves, Full}
use Rattle.promises.proofs.TreeMidway.{OwnFaultless, handed_down, none_leaves, nobody, all_leave}
use Rattle.promises.proofs.TreeSince.{Since, after_calls, delivers}

-- ---- nothing in flight, and no pass yet

none_held : (l : List (Flight Tag)) → total (λ x. 1) l ≡ 0 → l ≡ []
unfolding total
none_held [] e = refl
none_held (x ∷ l) e = absurd (omega arith)

quiet_link : (m : Mesh Tag) → in_flight m ≡ 0 → (c i : ℕ) → (link_of m c i).held ≡ []
unfolding total
quiet_link m quiet c i =
    let chip : on_chip (λ x. 1) (chip_of m c) ≡ 0 = all_or (λ (x : Chip Tag). on_chip (λ x. 1) x ≡ 0) m.chips c fresh (all_zero (on_chip (λ x. 1)) m.chips quiet) refl in
    none_held _ (all_or (λ (l : Link Tag). weight_on (λ x. 1) l ≡ 0) (chip_of m c).links i idle (all_zero (weight_on (λ x. 1)) (chip_of m c).links chip) refl)

none_handed : (n c q : ℕ) (es : List Event) → EachPass (λ p. OfOthers n p.arrival.flight) es → sum_of (handed n c q) es ≡ 0
unfolding EachPass sum_of
none_handed n c q [] h = refl
none_handed n c q (packet_passed p ∷ es) h =
    let here : handed n c q p ≡ 0 = ap (λ (b : Bool). cond (b && eqb p.arrival.chip c && has (processors_of p.outcome.wanted) q) 1 0) (ne_eqb _ _ h.0) in
    omega (arith, here, none_handed n c q es h.1)
none_handed n c q (registers_emptied k ∷ es) h = none_handed n c q es h

-- ---- the pass at the source

module _ (w h f monitor : ℕ) (o : Opens w h f monitor) (xs : List Step) where
  abbrev s : State
  s = sequence w h f monitor xs

  abbrev m : Mesh Tag
  m = s.mesh

  sound : SoundMesh m
  sound = sound_always w h f monitor o xs

  module _ (trip : Trip) (found : trip.mesh ≡ m) (number : trip.number ≡ length s.given) (before : trip.before ≡ s.accepted) (quiet : in_flight m ≡ 0) (bytes : List ℕ) (t : Tables) (only : Only trip.asked t)
      (matching : Matching trip.asked m.phase (packet_at bytes)) (fine : accepts.Injects m trip.asked.source bytes t) where
    abbrev source : ℕ
    source = trip.asked.source

    abbrev next : State
    next = accepts.after_injection s source bytes t

    passes : Passes trip source m next.mesh (passage t s.accepted m (accepts.arrival_now s source bytes))
    passes =
        passes_by_tree trip t only s.accepted (set_out m) (accepts.arrival_now s source bytes) sound fine.codes (record { there = fine.there; from = inr refl; passable = fine.passable }) (shape.source_there trip.asked trip.none)
        (inl (refl, (shape.rooted trip.asked trip.none).root))
        (record { own = sym number; begun = sym before; fits = record { multicast = matching.multicast; unmarked = matching.unmarked; matching = matching.matching } }) matching.errors
        (λ i near. subst (λ (k : Mesh Tag). source < many k → (link_of k source i).up ≡ true) found (λ there. trip.up source i there near) fine.there) (λ i near. quiet_link m quiet source i)

    -- only the source is at depth 0
    off_source : (c : ℕ) → c < all trip → (c ≡ source → ⊥) → depth trip c ≡ 0 → route trip c ≡ 0
    off_source c there other e =
        shape.no_route trip.asked trip.none c there other (λ low. omega (arith, (shape.hangs trip.asked trip.none c there low).deeper))

    top : depth trip source ≡ 0
    top = (shape.rooted trip.asked trip.none).top

    full_first : Full trip 0 next.mesh
    full_first c i there near = go (ℕ_discrete c source)
      where
        go : Dec (c ≡ source) → Holds trip (leaves trip 0 c i) (link_of next.mesh c i).held
        go (yes e) =
            subst (λ (c : ℕ). Holds trip (leaves trip 0 c i) (link_of next.mesh c i).held) (sym e)
            (subst (λ (b : Bool). Holds trip b (link_of next.mesh source i).held) (sym (all_leave trip 0 source i top)) (passes.here i near))
        go (no other) =
            subst (λ (b : Bool). Holds trip b (link_of next.mesh c i).held) (sym (none_leaves trip 0 c i (off_source c there other))) (passes.elsewhere c i other ∙ quiet_link m quiet c i)

    no_passes : EachPass (λ p. OfOthers trip.number p.arrival.flight) s.events
    no_passes = each_pass_weaken _ (λ p. OfOthers trip.number p.arrival.flight) (λ p b e. omega (arith, b.0, number)) s.events (belonging w h f monitor o xs).1

    told_first : (c q : ℕ) → c < all trip → sum_of (handed trip.number c q) next.events ≡ handed_down trip 0 c q
    unfolding sum_of passages
    told_first c q there = go (ℕ_discrete c source)
      where
        sum : (c : ℕ) → sum_of (handed trip.number c q) (s.events ++ packet_passed (passage t s.accepted m (accepts.arrival_now s source bytes)) ∷ []) ≡ handed trip.number c q (passage t s.accepted m (accepts.arrival_now s source bytes))
        sum c = sum_append (handed trip.number c q) s.events (packet_passed (passage t s.accepted m (accepts.arrival_now s source bytes)) ∷ []) ∙ omega (arith, none_handed trip.number c q s.events no_passes)

        off : (c : ℕ) → c < all trip → (c ≡ source → ⊥) → Dec (depth trip c ≡ 0) → handed_down trip 0 c q ≡ 0
        off c there other (yes e) = nobody trip 0 c q (off_source c there other e)
        off c there other (no e) = ap (λ (b : Bool). cond (b && has (route trip c / 64) q) 1 0) (lt-leb (depth trip c) 0 (omega arith))

        go : Dec (c ≡ source) → sum_of (handed trip.number c q) next.events ≡ handed_down trip 0 c q
        go (yes e) =
            subst (λ (c : ℕ). sum_of (handed trip.number c q) next.events ≡ handed_down trip 0 c q) (sym e)
            (sum source ∙ passes.hands q ∙ sym (ap (λ (b : Bool). cond (b && has (route trip source / 64) q) 1 0) (le-leb (depth trip source) 0 (omega (arith, top)))))
        go (no other) = sum c ∙ passes.none_else c q other ∙ sym (off c there other (ℕ_discrete (depth trip c) 0))

    first_pass : Since trip f next
    unfolding EachPass passages
    first_pass =
        let none : 0 ≡ s.accepted - trip.before = omega (arith, before) in
        record {
          sound = sound_injected t turned m source (accepts.arrival_now s source bytes).flight sound fine.there fine.passable fine.codes;
          ageing = ageing_kept.injects f s source bytes t sound fine (ages_always w h f monitor o xs);
          alike = alike_pass t turned (set_out m) (accepts.arrival_now s source bytes) (subst (λ (k : Mesh Tag). Alike k m) (sym found) (alike_itself m sound));
          begun = omega (arith, before);
          full = subst (λ (j : ℕ). Full trip j next.mesh) none full_first;
          told = subst (λ (j : ℕ). (c q : ℕ) → c < all trip → sum_of (handed trip.number c q) next.events ≡ handed_down trip j c q) none told_first;
          faultless = each_append (OwnFaultless trip) s.events _ (each_pass_weaken _ (OwnFaultless trip) (λ p other own. absurd (other own)) s.events no_passes) ((λ own. passes.faultless), tt);
        }

pub grown_tree_lem : GrownTree
grown_tree_lem w h f monitor o xs a d bytes t room cs none wide high quiet up accepted only matching deep within keeps enough =
    let s = sequence w h f monitor xs in
    let c : Call = injecting a s f d bytes t room in
    let x = (accepts.arrival_now s a.source bytes).flight in
    let trip : Trip = record { asked = a; none = none; mesh = s.mesh; wide = wide; high = high; up = up; number = length s.given; before = s.accepted } in
    let fine = accepts.inject_accepts s.mesh a.source bytes t room (accepts.unless_accepts _ _ s.mesh (injected t turned s.mesh a.source x) accepted) in
    let first : accepts.after_injection s a.source bytes t ≡ after s c = sym (after_accepted s c (eq-eqb _ 0 accepted) ∙ accepts.inject_leaves s a.source bytes t room accepted) in
    let since : Since trip f (after s c) = subst (Since trip f) first (first_pass w h f monitor o xs trip refl refl refl quiet bytes t only matching fine) in
    let in_phase : AtMostDeep a f = λ links low on. omega (arith, deep links low on) in
    delivers trip f d deep (foldl after (after s c) cs) enough (after_calls trip f in_phase cs (after s c) keeps since.sound since)
