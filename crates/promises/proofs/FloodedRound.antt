-- Passes one after the other, with a P2P packet by flooded codes among them or not: the passes of others leave it where it is, before its own and behind it.
use mathlib.Core.Path.{◌≡◌, sym, ap, ◌∙◌, subst}
use mathlib.Core.Bool.{Bool, cond}
use mathlib.Core.List.{List, [], ◌∷◌, ◌++◌, foldl, append-nil, append_assoc}
use Prim.Native.Nat.{ℕ, suc, ◌*◌}
use native.Mathlib.Decide.{ℕ_discrete}
use native.Mathlib.Omega.{arith}
use borrow.Author.Tests.{eq-eqb}
use Rattle.lists.specs.Lists.{All, total}
use Rattle.mesh.specs.Lending.{Tables}
use Rattle.mesh.specs.Steps.{Arrival, Going, pass_at}
use Rattle.mesh.specs.Sound.{Arrives, SoundMesh}
use Rattle.mesh.proofs.SoundSteps.{CodesFor, sound_pass}
use Rattle.flood.specs.Codes.{codes_of}
use Rattle.promises.specs.History.{Tag, Event, packet_passed, turned, passages}
use Rattle.promises.specs.Told.{EachPass}
use Rattle.promises.specs.FloodedWay.{passes_of, HasRoom}
use Rattle.promises.proofs.Runs.{passage}
use Rattle.promises.proofs.Copies.{copy_of, copies, OfOthers, of_others, no_copy, other_pass, passes_other}
use Rattle.promises.proofs.LinkStates.{Alike, alike_pass}
use Rattle.promises.proofs.Towards.{to_after_pass}
use Rattle.promises.proofs.FloodedStage.{Trip, Ours, Due, Sent, Stage, moved}
use Rattle.promises.proofs.FloodedPass.{passes_by_code}

module _ (w : Trip) (t : Tables) (r : ℕ) where
  abbrev n : ℕ
  n = w.number

  -- how many copies of it are among some arrivals
  abbrev coming : List (Arrival Tag) → ℕ
  coming later = total (λ a. copy_of n a.flight) later

  -- ---- no pass is its own

  other_passes : (j : ℕ) (es : List Event) (g : Going Tag) (a : Arrival Tag) → SoundMesh g.mesh → Arrives (g.mesh.height * g.mesh.width) a → OfOthers n a.flight → Stage w j g.mesh es
      → Stage w j (pass_at t turned g a).mesh (es ++ packet_passed (passage t r g.mesh a) ∷ [])
  other_passes j es g a sound h other =
      moved w j g.mesh (pass_at t turned g a).mesh es _
      (to_after_pass (Ours w j) t turned g a sound h (record { links = λ i near sent own. absurd (other own); leg = λ i near sent own. absurd (other own) }))
      (other_pass n t g a sound h other) (passes_other n es (passage t r g.mesh a) other)

  pub others_pass : (j : ℕ) (es : List Event) (g : Going Tag) (later : List (Arrival Tag)) → SoundMesh g.mesh → CodesFor t g.mesh → All (Arrives (g.mesh.height * g.mesh.width)) later → coming later ≡ 0
      → Stage w j g.mesh es
      → Stage w j (foldl (pass_at t turned) g later).mesh (es ++ passages t r g later)
  unfolding All total passages
  others_pass j es g [] sound codes h none s = subst (Stage w j g.mesh) (sym (append-nil es)) s
  others_pass j es g (a ∷ later) sound codes h none s =
      subst (Stage w j (foldl (pass_at t turned) (pass_at t turned g a) later).mesh) (append_assoc es (packet_passed (passage t r g.mesh a) ∷ []) (passages t r (pass_at t turned g a) later))
      (others_pass j (es ++ packet_passed (passage t r g.mesh a) ∷ []) (pass_at t turned g a) later (sound_pass t turned g a sound codes h.0) codes h.1 (omega arith) (other_passes j es g a sound h.0 (of_others n a.flight (omega arith)) s))

  -- ---- one pass is its own

  module _ (lent : t.codes ≡ codes_of w.mesh) (j : ℕ) where
    pub own_passes : (es : List Event) (g : Going Tag) (later : List (Arrival Tag)) → SoundMesh g.mesh → CodesFor t g.mesh → Alike w.mesh g.mesh → All (Arrives (g.mesh.height * g.mesh.width)) later
        → All (λ a. a.flight.tag.injection ≡ n → Due w j g.mesh.phase a) later
        → HasRoom w.mesh n w.to (passages t r g later)
        → Sent w j (passes_of n es)
        → copies n g.mesh ≡ 0
        → coming later ≡ 1
        → Stage w (suc j) (foldl (pass_at t turned) g later).mesh (es ++ passages t r g later)
    unfolding All total passages EachPass
    own_passes es g [] sound codes alike h due room before alone one = absurd (omega arith)
    own_passes es g (a ∷ later) sound codes alike h due room before alone one =
        subst (Stage w (suc j) (foldl (pass_at t turned) (pass_at t turned g a) later).mesh) (append_assoc es (packet_passed (passage t r g.mesh a) ∷ []) (passages t r (pass_at t turned g a) later))
        (go (ℕ_discrete a.flight.tag.injection n) (λ x y z. own_passes (es ++ packet_passed (passage t r g.mesh a) ∷ []) (pass_at t turned g a) later (sound_pass t turned g a sound codes h.0) codes (alike_pass t turned g a alike) h.1 due.1 room.1 x y z))
      where
        e : Event
        e = packet_passed (passage t r g.mesh a)

        Done : Type 0
        Done = Stage w (suc j) (foldl (pass_at t turned) (pass_at t turned g a) later).mesh ((es ++ packet_passed (passage t r g.mesh a) ∷ []) ++ passages t r (pass_at t turned g a) later)

        go : Dec (a.flight.tag.injection ≡ n) → (Sent w j (passes_of n (es ++ packet_passed (passage t r g.mesh a) ∷ [])) → copies n (pass_at t turned g a).mesh ≡ 0 → coming later ≡ 1 → Done) → Done
        go (yes own) more =
            let here : copy_of n a.flight ≡ 1 = ap (λ (b : Bool). cond b 1 0) (eq-eqb _ _ own) in
            others_pass (suc j) (es ++ e ∷ []) (pass_at t turned g a) later (sound_pass t turned g a sound codes h.0) codes h.1 (omega arith)
            (passes_by_code w t lent r g alike sound a h.0 own j (due.0 own) alone es before (room.0 own))
        go (no other) more =
            let none : copy_of n a.flight ≡ 0 = no_copy n a.flight other in
            more (subst (Sent w j) (sym (passes_other n es (passage t r g.mesh a) other)) before) (other_pass n t g a sound h.0 other ∙ alone) (omega arith)
