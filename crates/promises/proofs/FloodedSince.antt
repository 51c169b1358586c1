-- After the injection of a P2P packet and any calls that keep the links' states, the packet is as far by flooded codes as there were rounds: each round has one pass of it until it is there, and no
-- other call moves it.
use mathlib.Core.Path.{◌≡◌, refl, ◌∙◌, subst}
use mathlib.Core.Bool.{Bool}
use mathlib.Core.List.{List, [], ◌∷◌, ◌++◌, foldl}
use mathlib.Core.Logic.{inl, inr}
use Prim.Native.Nat.{ℕ, suc, ◌+◌, ◌-◌, ◌*◌, ◌≤◌, ◌<◌}
use native.Mathlib.Omega.{arith}
use lib.ListN.{length, length-append}
use Rattle.lists.specs.Lists.{All, total}
use Rattle.mesh.specs.Lending.{Tables}
use Rattle.mesh.specs.Steps.{Arrival, Going, set_out, set_aside, arrivals, pass_at}
use Rattle.mesh.specs.Asked.{Call}
use Rattle.mesh.specs.Sound.{SoundMesh}
use Rattle.mesh.proofs.SoundArrivals.{sound_arrivals}
use Rattle.mesh.proofs.SoundSteps.{CodesFor, sound_aside}
use Rattle.flood.specs.Ways.{is_up}
use Rattle.flood.specs.Codes.{codes_of}
use Rattle.flood.proofs.SameLinks.{many_same}
use Rattle.promises.specs.History.{Tag, State, passages, turned, after}
use Rattle.promises.specs.FloodedWay.{Keeps, HasRoom, Reaches}
use Rattle.promises.proofs.Told.{each_parts}
use Rattle.promises.proofs.Accepts as accepts
use Rattle.promises.proofs.Histories.{Steps, calls_keep}
use Rattle.promises.proofs.Ages.{Ageing, ageing_kept, clock_some}
use Rattle.promises.proofs.InFlight.{aside_weighs, arrivals_weigh_in, linked_weighs, emptied_weighs}
use Rattle.promises.proofs.LinkStates.{Alike, alike_aside, alike_over, alike_linked, alike_emptied, alike_pass, alike_passes}
use Rattle.promises.proofs.Towards.{to_linked, to_emptied}
use Rattle.promises.proofs.Copies.{copy_of, none_in_flight, no_copy, passes_read}
use Rattle.promises.proofs.FloodedStage.{Trip, far, Ours, Stage, moved}
use Rattle.promises.proofs.FloodedDue.{all_due}
use Rattle.promises.proofs.FloodedRound.{others_pass, own_passes}

-- the links that it has crossed where it passes next: one after its injection, and one more with each round
abbrev pub links_by : Trip → State → ℕ
links_by w s = s.accepted + 1 - w.before

pub record Since (w : Trip) (f : ℕ) (s : State) : Type 0 where
  pub ageing : Ageing f s
  pub alike : Alike w.mesh s.mesh
  pub given : w.number < length s.given
  pub begun : w.before ≤ s.accepted
  pub stage : HasRoom w.mesh w.number w.to s.events → Stage w (links_by w s) s.mesh s.events

module _ (w : Trip) (f : ℕ) (most : far w ≤ f) where
  abbrev n : ℕ
  n = w.number

  module _ (s : State) (sound : SoundMesh s.mesh) (h : Since w f s) where
    abbrev j : ℕ
    j = links_by w s

    abbrev aside : Going Tag
    aside = set_out (set_aside s.mesh)

    abbrev all : List (Arrival Tag)
    all = arrivals s.mesh

    -- ---- a round

    module _ (t : Tables) (codes : t.codes ≡ codes_of w.mesh) (lent : CodesFor t s.mesh) where
      passes_of_round : HasRoom w.mesh n w.to (passages t s.accepted aside all) → Stage w j s.mesh s.events
          → Stage w (suc j) (foldl (pass_at t turned) aside all).mesh (s.events ++ passages t s.accepted aside all)
      passes_of_round room (inl x) =
          own_passes w t s.accepted codes j s.events aside all (sound_aside sound) lent (alike_aside h.alike) (sound_arrivals sound)
          (all_due w f s.accepted (clock_some sound h.ageing.clock) j (omega (arith, most, x.1.most)) s.mesh sound h.ageing.clock h.ageing.flights x.1.each) room x.0
          (aside_weighs (copy_of n) s.mesh) (arrivals_weigh_in (copy_of n) s.mesh sound ∙ x.1.one)
      passes_of_round room (inr x) =
          others_pass w t s.accepted (suc j) s.events aside all (sound_aside sound) lent (sound_arrivals sound)
          (arrivals_weigh_in (copy_of n) s.mesh sound ∙ x.1) (inr (x.0, aside_weighs (copy_of n) s.mesh))

      since_round : Since w f (accepts.after_round s t)
      since_round =
          record {
            ageing = ageing_kept.rounds f s t sound lent h.ageing;
            alike = alike_over (alike_passes t turned aside all (alike_aside h.alike));
            given = h.given;
            begun = omega (arith, h.begun);
            stage = λ room.
                let parts = each_parts _ s.events _ room in
                let later : suc j ≡ s.accepted + 1 + 1 - w.before = omega (arith, h.begun) in
                subst (λ (i : ℕ). Stage w i (accepts.after_round s t).mesh (accepts.after_round s t).events) later
                (moved w (suc j) (foldl (pass_at t turned) aside all).mesh (accepts.after_round s t).mesh _ _ (λ each. each) refl refl (passes_of_round parts.1 (h.stage parts.0)));
          }

    -- ---- the other calls

    since_injection : (chip : ℕ) (bytes : List ℕ) (t : Tables) → accepts.Injects s.mesh chip bytes t → Since w f (accepts.after_injection s chip bytes t)
    unfolding All total
    since_injection chip bytes t fine =
        let a = accepts.arrival_now s chip bytes in
        let other : copy_of n a.flight ≡ 0 = no_copy n a.flight (λ e. omega (arith, h.given)) in
        record {
          ageing = ageing_kept.injects f s chip bytes t sound fine h.ageing;
          alike = alike_pass t turned (set_out s.mesh) a h.alike;
          given = simp length-append (omega (arith, h.given));
          begun = h.begun;
          stage = λ room.
              others_pass w t s.accepted j s.events (set_out s.mesh) (a ∷ []) sound fine.codes (record { there = fine.there; from = inr refl; passable = fine.passable }, tt) (omega arith)
              (h.stage (each_parts _ s.events _ room).0);
        }

    module _ (chip : ℕ) (there : chip < s.mesh.height * s.mesh.width) where
      since_link : (link : ℕ) (up : Bool) → is_up w.mesh chip link ≡ up → link < 6 → Since w f (accepts.after_link s chip link up)
      since_link link up e near =
          record {
            ageing = ageing_kept.links f s chip link up sound there near h.ageing;
            alike = alike_linked h.alike chip link up (h.alike.same.links chip link (omega (arith, many_same w.mesh s.mesh h.alike.same)) near ∙ e);
            given = h.given;
            begun = h.begun;
            stage = λ room. moved w j s.mesh _ s.events _ (to_linked (Ours w j) s.mesh chip link up) (linked_weighs (copy_of n) s.mesh sound chip there link up near) refl (h.stage room);
          }

      since_read : Since w f (accepts.after_read s chip)
      since_read =
          record {
            ageing = ageing_kept.reads f s chip sound there h.ageing;
            alike = alike_emptied h.alike chip;
            given = h.given;
            begun = h.begun;
            stage = λ room.
                moved w j s.mesh _ s.events _ (to_emptied (Ours w j) s.mesh chip) (emptied_weighs (copy_of n) s.mesh sound chip there) (passes_read n s.events chip)
                (h.stage (each_parts _ s.events _ room).0);
          }

  pub after_calls : (cs : List Call) (s : State) → All (Keeps w.mesh) cs → SoundMesh s.mesh → Since w f s → Since w f (foldl after s cs)
  after_calls = calls_keep (Keeps w.mesh) (λ f' s. Since w f s) steps f
    where
      steps : Steps (Keeps w.mesh) (λ f' s. Since w f s)
      steps =
          record {
            injects = λ f' s chip bytes t room allowed sound fine h. since_injection s sound h chip bytes t fine;
            rounds = λ f' s t room codes sound lent h. since_round s sound h t codes lent;
            links = λ f' s chip link up e sound there near h. since_link s sound h chip there link up e near;
            reads = λ f' s chip allowed sound there h. since_read s sound h chip there;
          }

  -- after as many rounds as links it is there
  pub reaches : (s : State) → w.before + far w ≤ s.accepted → Since w f s → HasRoom w.mesh n w.to s.events → Reaches w.mesh n w.from w.to s
  reaches s enough h room = go (h.stage room)
    where
      go : Stage w (links_by w s) s.mesh s.events → Reaches w.mesh n w.from w.to s
      go (inl x) = absurd (omega (arith, x.1.most))
      go (inr x) =
          record {
            on_way = x.0.on_way;
            last = x.0.last;
            passes = x.0.passes;
            many = x.0.sent.many;
            sent = x.0.sent.onward;
            there = x.0.there;
            right = x.0.right;
            handed = x.0.handed;
            crossed = x.0.crossed;
            gone = none_in_flight n s.mesh x.1;
          }
