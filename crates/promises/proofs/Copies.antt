-- The copies of one injection: how many are in flight, which passes are theirs, and that the pass of another packet changes neither.
use mathlib.Core.Path.{◌≡◌, refl, ap, ◌∙◌}
use mathlib.Core.Bool.{Bool, true, false, cond}
use mathlib.Core.List.{List, [], ◌∷◌, ◌++◌, append-nil}
use Prim.Native.Nat.{ℕ, zero, suc, ◌+◌, ◌*◌, ◌^◌, ◌<◌}
use native.Mathlib.Nat.{add-zero}
use native.Mathlib.Omega.{arith}
use lib.Dec.{eqb}
use borrow.Author.Tests.{eq-eqb, ne_eqb}
use Rattle.steps.specs.declared.Outcome.{Outcome}
use Rattle.steps.specs.Links.{has}
use Rattle.kept.specs.Units.{over_links}
use Rattle.lists.specs.Lists.{All, total}
use Rattle.lists.proofs.Alls.{all_weaken}
use Rattle.lists.proofs.Totals.{total_same, total_none}
use Rattle.links.specs.Link.{Flight}
use Rattle.mesh.specs.Mesh.{Mesh}
use Rattle.mesh.specs.Lending.{Tables}
use Rattle.mesh.specs.Steps.{Arrival, Going, outcome_at, pass_at}
use Rattle.mesh.specs.Weights.{weight_on, on_chip, on_mesh}
use Rattle.mesh.specs.Sound.{Arrives, SoundMesh}
use Rattle.promises.specs.History.{Tag, Passage, Event, packet_passed, registers_emptied, turned}
use Rattle.promises.specs.Told.{EachFlight, EachPass}
use Rattle.promises.specs.FloodedWay.{passes_of}
use Rattle.promises.proofs.InFlight.{pass_gains}

-- ---- sums that are 0

pub all_zero : {X : Type 0} (w : X → ℕ) (l : List X) → total w l ≡ 0 → All (λ x. w x ≡ 0) l
unfolding total All
all_zero w [] e = tt
all_zero w (x ∷ l) e = (omega arith, all_zero w l (omega arith))

zero_all : {X : Type 0} (w : X → ℕ) (l : List X) → All (λ x. w x ≡ 0) l → total w l ≡ 0
zero_all w l h = total_same w (λ x. 0) (λ x. w x ≡ 0) (λ x e. e) l h ∙ total_none (λ x. 0) (λ x. refl) l

module _ (n : ℕ) where
  -- ---- in flight

  abbrev pub copy_of : Flight Tag → ℕ
  copy_of x = cond (eqb x.tag.injection n) 1 0

  abbrev pub copies : Mesh Tag → ℕ
  copies m = on_mesh copy_of m

  abbrev pub OfOthers : Flight Tag → Type 0
  OfOthers x = x.tag.injection ≡ n → ⊥

  pub of_others : (x : Flight Tag) → copy_of x ≡ 0 → OfOthers x
  of_others x e own = let one : copy_of x ≡ 1 = ap (λ (b : Bool). cond b 1 0) (eq-eqb _ _ own) in omega arith

  pub no_copy : (x : Flight Tag) → OfOthers x → copy_of x ≡ 0
  no_copy x other = ap (λ (b : Bool). cond b 1 0) (ne_eqb _ _ other)

  pub none_in_flight : (m : Mesh Tag) → copies m ≡ 0 → EachFlight OfOthers m
  none_in_flight m e =
      all_weaken (λ c. on_chip copy_of c ≡ 0) _
      (λ c h. all_weaken (λ l. weight_on copy_of l ≡ 0) _ (λ l k. all_weaken (λ x. copy_of x ≡ 0) OfOthers of_others l.held (all_zero copy_of l.held k)) c.links (all_zero (weight_on copy_of) c.links h)) m.chips
      (all_zero (on_chip copy_of) m.chips e)

  pub no_copies : (m : Mesh Tag) → EachFlight OfOthers m → copies m ≡ 0
  no_copies m each =
      zero_all (on_chip copy_of) m.chips
      (all_weaken _ (λ c. on_chip copy_of c ≡ 0)
      (λ c h. zero_all (weight_on copy_of) c.links (all_weaken _ (λ l. weight_on copy_of l ≡ 0) (λ l k. zero_all copy_of l.held (all_weaken OfOthers (λ x. copy_of x ≡ 0) no_copy l.held k)) c.links h)) m.chips each)

  -- ---- over a pass

  -- what a pass of this injection sends, or of another
  abbrev sent_copies : Bool → Outcome → ℕ
  sent_copies own o = over_links (λ i. cond (has o.sent i) (cond own 1 0) 0 + cond (has o.leg_sent i) (cond own 1 0) 0)

  module _ (t : Tables) (g : Going Tag) (a : Arrival Tag) (sound : SoundMesh g.mesh) (h : Arrives (g.mesh.height * g.mesh.width) a) where
    abbrev o : Outcome
    o = outcome_at t g.mesh a.chip a.source a.flight.packet

    pass_copies : (own : Bool) → eqb a.flight.tag.injection n ≡ own
        → copies (pass_at t turned g a).mesh ≡ copies g.mesh + sent_copies own o
    pass_copies own e = pass_gains copy_of t turned g a sound h ∙ ap (λ (b : Bool). copies g.mesh + sent_copies b o) e

    pub other_pass : OfOthers a.flight → copies (pass_at t turned g a).mesh ≡ copies g.mesh
    other_pass other = pass_copies false (ne_eqb _ _ other) ∙ (λ j. copies g.mesh + over_links (λ i. nothing (has o.sent i) (has o.leg_sent i) j)) ∙ add-zero (copies g.mesh)
      where
        nothing : (b c : Bool) → cond b 0 0 + cond c 0 0 ≡ 0
        nothing true true = refl
        nothing true false = refl
        nothing false true = refl
        nothing false false = refl

    -- sent by one link, and nothing else
    pub own_pass : a.flight.tag.injection ≡ n → (i : ℕ) → i < 6 → o.sent ≡ 2 ^ i
        → o.leg_sent ≡ 0
        → copies (pass_at t turned g a).mesh ≡ copies g.mesh + 1
    own_pass own i near sent leg =
        pass_copies true (eq-eqb _ _ own)
        ∙ (λ j. copies g.mesh + over_links (λ k. cond (has (sent j) k) 1 0 + cond (has (leg j) k) 1 0)) ∙ ap (λ (k : ℕ). copies g.mesh + k) (one i near)
      where
        one : (i : ℕ) → i < 6 → over_links (λ k. cond (has (2 ^ i) k) 1 0 + cond (has 0 k) 1 0) ≡ 1
        one zero near = refl
        one (suc zero) near = refl
        one (suc (suc zero)) near = refl
        one (suc (suc (suc zero))) near = refl
        one (suc (suc (suc (suc zero)))) near = refl
        one (suc (suc (suc (suc (suc zero))))) near = refl
        one (suc (suc (suc (suc (suc (suc i)))))) near = absurd (omega arith)

    -- nothing sent
    pub last_pass : a.flight.tag.injection ≡ n → o.sent ≡ 0
        → o.leg_sent ≡ 0
        → copies (pass_at t turned g a).mesh ≡ copies g.mesh
    last_pass own sent leg =
        pass_copies true (eq-eqb _ _ own) ∙ (λ j. copies g.mesh + over_links (λ k. cond (has (sent j) k) 1 0 + cond (has (leg j) k) 1 0)) ∙ add-zero (copies g.mesh)

  -- ---- their passes

  passes_append : (es later : List Event) → passes_of n (es ++ later) ≡ passes_of n es ++ passes_of n later
  unfolding passes_of
  passes_append [] later = refl
  passes_append (packet_passed p ∷ es) later = go (eqb p.arrival.flight.tag.injection n) (passes_append es later)
    where
      go : (b : Bool) → passes_of n (es ++ later) ≡ passes_of n es ++ passes_of n later
          → cond b (p ∷ passes_of n (es ++ later)) (passes_of n (es ++ later)) ≡ cond b (p ∷ passes_of n es) (passes_of n es) ++ passes_of n later
      go true e = ap (λ (l : List Passage). p ∷ l) e
      go false e = e
  passes_append (registers_emptied c ∷ es) later = passes_append es later

  -- with one event more
  pub passes_own : (es : List Event) (p : Passage) → p.arrival.flight.tag.injection ≡ n → passes_of n (es ++ packet_passed p ∷ []) ≡ passes_of n es ++ p ∷ []
  unfolding passes_of
  passes_own es p own = passes_append es (packet_passed p ∷ []) ∙ ap (λ (b : Bool). passes_of n es ++ cond b (p ∷ []) []) (eq-eqb _ _ own)

  pub passes_other : (es : List Event) (p : Passage) → OfOthers p.arrival.flight → passes_of n (es ++ packet_passed p ∷ []) ≡ passes_of n es
  unfolding passes_of
  passes_other es p other = passes_append es (packet_passed p ∷ []) ∙ ap (λ (b : Bool). passes_of n es ++ cond b (p ∷ []) []) (ne_eqb _ _ other) ∙ append-nil (passes_of n es)

  pub passes_read : (es : List Event) (chip : ℕ) → passes_of n (es ++ registers_emptied chip ∷ []) ≡ passes_of n es
  unfolding passes_of
  passes_read es chip = passes_append es (registers_emptied chip ∷ []) ∙ append-nil (passes_of n es)

  pub passes_none : (es : List Event) → EachPass (λ p. OfOthers p.arrival.flight) es → passes_of n es ≡ []
  unfolding EachPass passes_of
  passes_none [] h = refl
  passes_none (packet_passed p ∷ es) h = ap (λ (b : Bool). cond b (p ∷ passes_of n es) (passes_of n es)) (ne_eqb _ _ h.0) ∙ passes_none es h.1
  passes_none (registers_emptied c ∷ es) h = passes_none es h
