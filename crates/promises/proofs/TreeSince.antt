-- After an injection into a grown tree and any calls that keep to it, the packet is as deep as there were rounds: each round brings it one deeper, and no other call moves it. After as many rounds as the tree is deep every
-- named processor has it, and it is gone.
use Prim.Native.Nat.{ℕ, suc, ◌+◌, ◌-◌, ◌*◌, ◌/◌, ◌≤◌, ◌<◌}
use mathlib.Core.Path.{◌≡◌, refl, sym, ap, ◌∙◌, subst}
use mathlib.Core.Bool.{Bool, true, cond, ◌&&◌, and-eq-true_iff}
use mathlib.Core.List.{List, [], ◌∷◌, foldl}
use native.Mathlib.Decide.{ℕ_discrete}
use native.Mathlib.Nat.{add-zero}
use native.Mathlib.Omega.{arith}
use lib.Dec.{eqb}
use lib.ListN.{length, get_or}
use borrow.Author.Tests.{eqb-true, le-leb}
use Rattle.steps.specs.Links.{has}
use Rattle.steps.proofs.Sets.{has_none}
use Rattle.lists.specs.Lists.{All}
use Rattle.links.specs.Link.{Flight, idle}
use Rattle.mesh.specs.Mesh.{fresh, link_of}
use Rattle.mesh.specs.Lending.{Tables}
use Rattle.mesh.specs.Steps.{set_out, set_aside, arrivals}
use Rattle.mesh.specs.Asked.{Call}
use Rattle.mesh.specs.Sound.{SoundMesh}
use Rattle.mesh.proofs.SoundChanges.{chip_sound, sound_linked, sound_emptied}
use Rattle.mesh.proofs.SoundSteps.{CodesFor, sound_aside, sound_rounded}
use Rattle.tree.proofs.ATree.{a_tree}
use Rattle.promises.specs.History.{Tag, registers_emptied, State, turned, after}
use Rattle.promises.specs.Told.{EachPass, sum_of}
use Rattle.promises.specs.GrownTree.{Only, AtMostDeep, Keeps, handed, Delivers}
use Rattle.promises.proofs.Told.{sum_append, each_append, each_pass_weaken}
use Rattle.promises.proofs.Accepts as accepts
use Rattle.promises.proofs.Histories.{Steps, calls_keep}
use Rattle.promises.proofs.Ages.{Ageing, ageing_kept, clock_some}
use Rattle.promises.proofs.FloodedDue.{sound_flights}
use Rattle.promises.proofs.LinkStates.{Alike, alike_aside, alike_over, alike_linked, alike_emptied, alike_passes}
use Rattle.promises.proofs.Towards.{linked_held, emptied_held}
use Rattle.promises.proofs.TreeShape as shape
use Rattle.promises.proofs.TreeStep.{Trip, Holds}
use Rattle.promises.proofs.TreeArrivals.{all, depth, entered, route, leads, leaves, Full}
use Rattle.promises.proofs.TreeMidway.{OwnFaultless, handed_down, Midway, nobody}
use Rattle.promises.proofs.TreeRound.{aside_holds, as_many, still_up, whole_round}

-- the links that it has behind it where it is in flight
abbrev pub rounds_by : Trip → State → ℕ
rounds_by w s = s.accepted - w.before

pub record Since (w : Trip) (f : ℕ) (s : State) : Type 0 where
  pub sound : SoundMesh s.mesh
  pub ageing : Ageing f s
  pub alike : Alike w.mesh s.mesh
  pub begun : w.before ≤ s.accepted
  pub full : Full w (rounds_by w s) s.mesh
  pub told : (c q : ℕ) → c < all w → sum_of (handed w.number c q) s.events ≡ handed_down w (rounds_by w s) c q
  pub faultless : EachPass (OwnFaultless w) s.events

module _ (w : Trip) (f : ℕ) (deep : AtMostDeep w.asked f) where
  module _ (s : State) (h : Since w f s) where
    abbrev j : ℕ
    j = rounds_by w s

    -- ---- a round

    module _ (t : Tables) (only : Only w.asked t) (lent : CodesFor t s.mesh) where
      begins : Midway w j 0 (set_aside s.mesh) s.events
      begins =
          record {
            done = λ c i low. absurd (omega arith);
            todo = λ c i high there near. aside_holds s.mesh c i;
            told = λ c q low. absurd (omega arith);
            untold = λ c q high. h.told c q;
            faultless = h.faultless;
          }

      ended : Midway w j (all w) (accepts.after_round s t).mesh (accepts.after_round s t).events
      ended =
          let m = s.mesh in
          let mid =
          whole_round w f deep t only s.accepted j (omega (arith, h.begun)) m h.alike h.full (clock_some h.sound h.ageing.clock) h.ageing.clock.phase h.ageing.flights (sound_flights h.sound) (set_out (set_aside m))
          s.events (sound_aside h.sound) lent (alike_aside h.alike) refl begins in
          record { done = mid.done; todo = mid.todo; told = mid.told; untold = mid.untold; faultless = mid.faultless }

      since_round : Since w f (accepts.after_round s t)
      since_round =
          let later : suc j ≡ s.accepted + 1 - w.before = omega (arith, h.begun) in
          record {
            sound = sound_rounded t turned h.sound lent;
            ageing = ageing_kept.rounds f s t h.sound lent h.ageing;
            alike = alike_over (alike_passes t turned (set_out (set_aside s.mesh)) (arrivals s.mesh) (alike_aside h.alike));
            begun = omega (arith, h.begun);
            full = subst (λ (k : ℕ). Full w k (accepts.after_round s t).mesh) later (λ c i there near. ended.done c i there near);
            told = subst (λ (k : ℕ). (c q : ℕ) → c < all w → sum_of (handed w.number c q) (accepts.after_round s t).events ≡ handed_down w k c q) later (λ c q there. ended.told c q there);
            faultless = ended.faultless;
          }

    -- ---- the other calls

    module _ (chip : ℕ) (there : chip < s.mesh.height * s.mesh.width) where
      since_link : (link : ℕ) (up : Bool) → up ≡ true → link < 6 → Since w f (accepts.after_link s chip link up)
      since_link link up e near =
          record {
            sound = sound_linked h.sound chip link up there near;
            ageing = ageing_kept.links f s chip link up h.sound there near h.ageing;
            alike = alike_linked h.alike chip link up (still_up w s.mesh h.alike chip link (omega (arith, as_many w s.mesh h.alike)) near ∙ sym e);
            begun = h.begun;
            full = λ c i here low. subst (Holds w (leaves w j c i)) (sym (linked_held s.mesh chip link up c i)) (h.full c i here low);
            told = h.told;
            faultless = h.faultless;
          }

      since_read : Since w f (accepts.after_read s chip)
      unfolding sum_of EachPass
      since_read =
          record {
            sound = sound_emptied h.sound chip there;
            ageing = ageing_kept.reads f s chip h.sound there h.ageing;
            alike = alike_emptied h.alike chip;
            begun = h.begun;
            full = λ c i here low. subst (Holds w (leaves w j c i)) (sym (emptied_held s.mesh chip c i)) (h.full c i here low);
            told = λ c q here. sum_append (handed w.number c q) s.events (registers_emptied chip ∷ []) ∙ add-zero (sum_of (handed w.number c q) s.events) ∙ h.told c q here;
            faultless = each_append (OwnFaultless w) s.events (registers_emptied chip ∷ []) h.faultless tt;
          }

  pub after_calls : (cs : List Call) (s : State) → All (Keeps w.asked) cs → SoundMesh s.mesh → Since w f s → Since w f (foldl after s cs)
  after_calls = calls_keep (Keeps w.asked) (λ f' s. Since w f s) steps f
    where
      steps : Steps (Keeps w.asked) (λ f' s. Since w f s)
      steps =
          record {
            injects = λ f' s chip bytes t room allowed. absurd allowed;
            rounds = λ f' s t room only sound lent h. since_round s h t only lent;
            links = λ f' s chip link up e sound there near h. since_link s h chip there link up e near;
            reads = λ f' s chip allowed sound there h. since_read s h chip there;
          }

-- ---- after as many rounds as the tree is deep

module _ (w : Trip) (f d : ℕ) (deep : AtMostDeep w.asked d) where
  all_empty : (l : List (Flight Tag)) → l ≡ [] → All (λ x. x.tag.injection ≡ w.number → ⊥) l
  unfolding All
  all_empty l e = subst (All (λ x. x.tag.injection ≡ w.number → ⊥)) (sym e) tt

  each_place : {X : Type 0} (P : X → Type 0) (xs : List X) (d : X) → ((k : ℕ) → k < length xs → P (get_or xs k d)) → All P xs
  unfolding All
  each_place P [] d h = tt
  each_place P (x ∷ xs) d h = (h 0 (omega arith), each_place P xs d (λ k low. h (suc k) (omega arith)))

  module _ (s : State) (enough : w.before + d ≤ s.accepted) (h : Since w f s) where
    late : d ≤ rounds_by w s
    late = omega arith

    -- no link leads deeper
    none_left : (c i : ℕ) → c < all w → i < 6 → (link_of s.mesh c i).held ≡ []
    none_left c i there near =
        subst (λ (b : Bool). Holds w b (link_of s.mesh c i).held) (shape.not_both (leaves w (rounds_by w s) c i) (λ e.
        let both = (and-eq-true_iff (leads w c i) (eqb (depth w c) (rounds_by w s))).0 e in
        let r = shape.rooted w.asked w.none in
        let on : ℕ = shape.next w.asked w.none c i in
        let by : entered w on ≡ i = r.entered_once c i there near both.0 in
        let most : depth w on ≤ d = shape.at_most w.asked w.none d deep on (shape.next_there w.asked w.none c i) (λ out. omega arith) in
        omega (arith, late, r.deeper c i there near both.0, eqb-true (depth w c) (rounds_by w s) both.1))) (h.full c i there near)

    -- all processors of the routes have it
    all_handed : (c q : ℕ) → c < all w → handed_down w (rounds_by w s) c q ≡ cond (has (route w c / 64) q) 1 0
    all_handed c q there = go (ℕ_discrete (entered w c) 7)
      where
        go : Dec (entered w c ≡ 7) → handed_down w (rounds_by w s) c q ≡ cond (has (route w c / 64) q) 1 0
        go (yes out) =
            let no_route : route w c ≡ 0 = (shape.rooted w.asked w.none).outside c there out in
            nobody w (rounds_by w s) c q no_route ∙ sym (ap (λ (r : ℕ). cond (has (r / 64) q) 1 0) no_route ∙ ap (λ (b : Bool). cond b 1 0) (has_none q))
        go (no in_tree) =
            ap (λ (b : Bool). cond (b && has (route w c / 64) q) 1 0) (le-leb (depth w c) (rounds_by w s) (omega (arith, late, shape.at_most w.asked w.none d deep c there in_tree)))

    pub delivers : Delivers w.asked w.number s
    delivers =
        let a = w.asked in
        let grows = a_tree a.width a.height a.source a.key a.mask a.words a.rows a.starts w.none in
        record {
          once = λ c q there low. h.told c q there ∙ all_handed c q there ∙ ap (λ (r : ℕ). cond (has r q) 1 0) (grows.processors c there);
          right = each_pass_weaken (OwnFaultless w) _ (λ p k own. (k own).0) s.events h.faultless;
          none_dropped = each_pass_weaken (OwnFaultless w) _ (λ p k own. (k own).1) s.events h.faultless;
          gone =
              each_place _ s.mesh.chips fresh (λ c low.
              let here : c < all w = omega (arith, h.sound.many, as_many w s.mesh h.alike) in
              each_place _ (get_or s.mesh.chips c fresh).links idle (λ i near.
              all_empty _ (none_left c i here (omega (arith, (chip_sound h.sound c (omega (arith, h.sound.many))).six)))));
        }
