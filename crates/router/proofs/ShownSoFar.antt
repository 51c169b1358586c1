-- What is shown of the links passed so far, where those that send are gone through lowest first.
use mathlib.Core.Path.{◌≡◌, refl, sym, ◌∙◌, subst}
use mathlib.Core.Bool.{Bool, true, false, cond, ◌&&◌, not, and-true, and-false, and-not_self}
use mathlib.Core.List.{List, [], ◌∷◌}
use Prim.Native.Nat.{ℕ, zero, suc, ◌<◌}
use native.Mathlib.Omega.{arith}
use lib.Dec.{eqb, lit<}
use lib.ListN.{get_or, set, replicate, length-set}
use lib.Seq.{get_or-set_same, get_or-set_other}
use borrow.Author.Tests.{eqb-true, eqb-false, eq-eqb}
use Rattle.packet.specs.declared.Packet.{Packet}
use Rattle.packet.specs.Bytes.{nothing}
use Rattle.steps.specs.declared.Outcome.{Outcome}
use Rattle.steps.specs.Links.{has}
use Rattle.steps.specs.Deciding.{packet_on}
use Rattle.router.specs.Showing.{packets_of}
use Rattle.steps.proofs.LowestFirst.{Lowest}
use Rattle.lists.proofs.Six.{six}

abbrev pub but : Outcome → ℕ → ℕ → Packet
but o rest j = cond (has o.sent j && not (has rest j)) (packet_on o j) nothing

abbrev pub shown_but : Outcome → ℕ → List Packet
shown_but o rest = but o rest 0 ∷ but o rest 1 ∷ but o rest 2 ∷ but o rest 3 ∷ but o rest 4 ∷ but o rest 5 ∷ []

pub none_yet : (o : Outcome) → replicate 6 nothing ≡ shown_but o o.sent
none_yet o = simp and-not_self

pub all_shown : (o : Outcome) → shown_but o 0 ≡ packets_of o
all_shown o = simp and-true

at_link : (o : Outcome) (rest j : ℕ) → j < 6 → get_or (shown_but o rest) j nothing ≡ but o rest j
at_link o rest zero h = refl
at_link o rest (suc zero) h = refl
at_link o rest (suc (suc zero)) h = refl
at_link o rest (suc (suc (suc zero))) h = refl
at_link o rest (suc (suc (suc (suc zero)))) h = refl
at_link o rest (suc (suc (suc (suc (suc zero))))) h = refl
at_link o rest (suc (suc (suc (suc (suc (suc j)))))) h = absurd (omega arith)

module _ (o : Outcome) (rest i r : ℕ) (low : Lowest rest i r) (sends : has o.sent i ≡ true) where
  step_at : (j : ℕ) → j < 6 → get_or (set (shown_but o rest) i (packet_on o i)) j nothing ≡ but o r j
  step_at j hj = go (eqb j i) refl
    where
      go : (b : Bool) → eqb j i ≡ b → get_or (set (shown_but o rest) i (packet_on o i)) j nothing ≡ but o r j
      go true e =
          let ji : i ≡ j = sym (eqb-true j i e) in
          let out : has r i ≡ false = low.others i low.below ∙ simp (eq-eqb i i refl, and-false) in
          subst (λ (k : ℕ). get_or (set (shown_but o rest) i (packet_on o i)) k nothing ≡ but o r k) ji
          (get_or-set_same (shown_but o rest) i (packet_on o i) nothing low.below ∙ simp (sends, out))
      go false e =
          let kept : has r j ≡ has rest j = low.others j hj ∙ simp (e, and-true) in
          get_or-set_other (shown_but o rest) i j (packet_on o i) nothing (eqb-false j i e) ∙ at_link o rest j hj ∙ simp kept

  pub step : set (shown_but o rest) i (packet_on o i) ≡ shown_but o r
  step =
      six nothing (set (shown_but o rest) i (packet_on o i)) (length-set (shown_but o rest) i (packet_on o i))
      ∙ (λ k. step_at 0 (lit< tt) k ∷ step_at 1 (lit< tt) k ∷ step_at 2 (lit< tt) k ∷ step_at 3 (lit< tt) k ∷ step_at 4 (lit< tt) k ∷ step_at 5 (lit< tt) k ∷ [])
