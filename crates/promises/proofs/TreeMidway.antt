-- In the midst of a round by a grown tree: the chips below one are done, the others not yet. A chip that gets nothing is done as it is, and one that gets its copy is done by the pass.
use Prim.Native.Nat.{ℕ, suc, ◌+◌, ◌/◌, ◌≤◌, ◌<◌}
use mathlib.Core.Path.{◌≡◌, sym, ap, ◌∙◌, subst}
use mathlib.Core.Bool.{Bool, false, cond, ◌&&◌, and-true, and-false, and-eq-true_iff, true≢false}
use mathlib.Core.List.{List, [], ◌∷◌, ◌++◌}
use native.Mathlib.Decide.{ℕ_discrete, dec_lt}
use native.Mathlib.Omega.{arith}
use lib.Dec.{eqb, leb}
use borrow.Author.Tests.{eq-eqb, eqb-true, le-leb, lt-leb}
use Rattle.steps.specs.Links.{has}
use Rattle.steps.proofs.Sets.{has_none}
use Rattle.mesh.specs.Mesh.{Mesh, link_of}
use Rattle.promises.specs.History.{Tag, Passage, Event, packet_passed}
use Rattle.promises.specs.Told.{EachPass, sum_of}
use Rattle.promises.specs.GrownTree.{handed}
use Rattle.promises.proofs.Told.{sum_append, each_append}
use Rattle.promises.proofs.TreeShape as shape
use Rattle.promises.proofs.TreeStep.{Trip, Holds, handed_at, Faultless, Passes}
use Rattle.promises.proofs.TreeArrivals.{all, depth, route, leads, leaves, Due}

module _ (w : Trip) where
  abbrev pub OwnFaultless : Passage → Type 0
  OwnFaultless p = p.arrival.flight.tag.injection ≡ w.number → Faultless w p

  -- to which processors of a chip it was handed, once the chips down to a depth have it
  abbrev pub handed_down : ℕ → ℕ → ℕ → ℕ
  handed_down j c k = cond (leb (depth w c) j && has (route w c / 64) k) 1 0

  -- where no chip of the tree is at a depth
  pub none_leaves : (l c i : ℕ) → (depth w c ≡ l → route w c ≡ 0) → leaves w l c i ≡ false
  none_leaves l c i no_route =
      shape.not_both _ (λ e.
      let both = (and-eq-true_iff (leads w c i) (eqb (depth w c) l)).0 e in
      true≢false (sym both.0 ∙ ap (λ (r : ℕ). has r i) (no_route (eqb-true _ _ both.1)) ∙ has_none i))

  pub nobody : (l c q : ℕ) → route w c ≡ 0 → handed_down l c q ≡ 0
  nobody l c q e =
      ap (λ (r : ℕ). cond (leb (depth w c) l && has (r / 64) q) 1 0) e ∙ ap (λ (b : Bool). cond (leb (depth w c) l && b) 1 0) (has_none q)
      ∙ ap (λ (b : Bool). cond b 1 0) (and-false (leb (depth w c) l))

  -- a link that leaves a chip of the tree is one of its links
  pub all_leave : (l c i : ℕ) → depth w c ≡ l → leaves w l c i ≡ leads w c i
  all_leave l c i level = ap (λ (b : Bool). leads w c i && b) (eq-eqb _ _ level) ∙ and-true (leads w c i)

  -- the chips below k have the copies of depth j + 1
  pub record Midway (j k : ℕ) (m : Mesh Tag) (es : List Event) : Type 0 where
    pub done : (c i : ℕ) → c < k → i < 6 → Holds w (leaves w (suc j) c i) (link_of m c i).held
    pub todo : (c i : ℕ) → k ≤ c → c < all w → i < 6 → (link_of m c i).held ≡ []
    pub told : (c q : ℕ) → c < k → sum_of (handed w.number c q) es ≡ handed_down (suc j) c q
    pub untold : (c q : ℕ) → k ≤ c → c < all w → sum_of (handed w.number c q) es ≡ handed_down j c q
    pub faultless : EachPass OwnFaultless es

  module _ (j k : ℕ) (there : k < all w) (m : Mesh Tag) (es : List Event) (mid : Midway j k m es) where
    -- ---- a chip that gets nothing

    module _ (idle : Due w j k → ⊥) where
      no_route : depth w k ≡ suc j → route w k ≡ 0
      no_route e =
          shape.no_route w.asked w.none k there (λ s. omega (arith, ap (depth w) s, (shape.rooted w.asked w.none).top)) (λ h. idle (h, e))

      same_handed : (q : ℕ) → handed_down j k q ≡ handed_down (suc j) k q
      same_handed q = go (ℕ_discrete (depth w k) (suc j)) (dec_lt j (depth w k))
        where
          by : leb (depth w k) j ≡ leb (depth w k) (suc j) → handed_down j k q ≡ handed_down (suc j) k q
          by e = ap (λ (b : Bool). cond (b && has (route w k / 64) q) 1 0) e

          go : Dec (depth w k ≡ suc j) → Dec (j < depth w k) → handed_down j k q ≡ handed_down (suc j) k q
          go (yes e) d = nobody j k q (no_route e) ∙ sym (nobody (suc j) k q (no_route e))
          go (no other) (yes h) = by (lt-leb (depth w k) j h ∙ sym (lt-leb (depth w k) (suc j) (omega arith)))
          go (no other) (no h) = by (le-leb (depth w k) j (omega arith) ∙ sym (le-leb (depth w k) (suc j) (omega arith)))

      pub nothing_comes : Midway j (suc k) m es
      nothing_comes =
          record {
            done = λ c i low near. done_by c i near low (ℕ_discrete c k);
            todo = λ c i high. mid.todo c i (omega arith);
            told = λ c q low. told_by c q low (ℕ_discrete c k);
            untold = λ c q high. mid.untold c q (omega arith);
            faultless = mid.faultless;
          }
        where
          done_by : (c i : ℕ) → i < 6 → c < suc k → Dec (c ≡ k) → Holds w (leaves w (suc j) c i) (link_of m c i).held
          done_by c i near low (yes e) =
              subst (λ (c : ℕ). Holds w (leaves w (suc j) c i) (link_of m c i).held) (sym e)
              (subst (λ (b : Bool). Holds w b (link_of m k i).held) (sym (none_leaves (suc j) k i no_route)) (mid.todo k i (omega arith) there near))
          done_by c i near low (no other) = mid.done c i (omega arith) near

          told_by : (c q : ℕ) → c < suc k → Dec (c ≡ k) → sum_of (handed w.number c q) es ≡ handed_down (suc j) c q
          told_by c q low (yes e) =
              subst (λ (c : ℕ). sum_of (handed w.number c q) es ≡ handed_down (suc j) c q) (sym e) (mid.untold k q (omega arith) there ∙ same_handed q)
          told_by c q low (no other) = mid.told c q (omega arith)

    -- ---- a chip that gets its copy

    module _ (level : depth w k ≡ suc j) (next : Mesh Tag) (p : Passage) (passes : Passes w k m next p) where
      sum_more : (c q : ℕ) → sum_of (handed w.number c q) (es ++ packet_passed p ∷ []) ≡ sum_of (handed w.number c q) es + handed w.number c q p
      unfolding sum_of
      sum_more c q = sum_append (handed w.number c q) es (packet_passed p ∷ []) ∙ omega arith

      sum_same : (c q : ℕ) → (c ≡ k → ⊥) → sum_of (handed w.number c q) (es ++ packet_passed p ∷ []) ≡ sum_of (handed w.number c q) es
      sum_same c q other = omega (arith, sum_more c q, passes.none_else c q other)

      sum_here : (q : ℕ) → sum_of (handed w.number k q) (es ++ packet_passed p ∷ []) ≡ handed_down (suc j) k q
      sum_here q =
          let before : handed_down j k q ≡ 0 = ap (λ (b : Bool). cond (b && has (route w k / 64) q) 1 0) (lt-leb (depth w k) j (omega arith)) in
          let after : handed_down (suc j) k q ≡ handed_at w k q = ap (λ (b : Bool). cond (b && has (route w k / 64) q) 1 0) (le-leb (depth w k) (suc j) (omega arith)) in
          omega (arith, sum_more k q, mid.untold k q (omega arith) there, passes.hands q, before, after)

      pub copy_comes : Midway j (suc k) next (es ++ packet_passed p ∷ [])
      unfolding EachPass
      copy_comes =
          record {
            done = λ c i low near. done_by c i near low (ℕ_discrete c k);
            todo = λ c i high below near. passes.elsewhere c i (λ e. omega arith) ∙ mid.todo c i (omega arith) below near;
            told = λ c q low. told_by c q low (ℕ_discrete c k);
            untold = λ c q high below. sum_same c q (λ e. omega arith) ∙ mid.untold c q (omega arith) below;
            faultless = each_append OwnFaultless es (packet_passed p ∷ []) mid.faultless ((λ own. passes.faultless), tt);
          }
        where
          done_by : (c i : ℕ) → i < 6 → c < suc k → Dec (c ≡ k) → Holds w (leaves w (suc j) c i) (link_of next c i).held
          done_by c i near low (yes e) =
              subst (λ (c : ℕ). Holds w (leaves w (suc j) c i) (link_of next c i).held) (sym e)
              (subst (λ (b : Bool). Holds w b (link_of next k i).held) (sym (all_leave (suc j) k i level)) (passes.here i near))
          done_by c i near low (no other) = subst (Holds w (leaves w (suc j) c i)) (sym (passes.elsewhere c i other)) (mid.done c i (omega arith) near)

          told_by : (c q : ℕ) → c < suc k → Dec (c ≡ k) → sum_of (handed w.number c q) (es ++ packet_passed p ∷ []) ≡ handed_down (suc j) c q
          told_by c q low (yes e) = subst (λ (c : ℕ). sum_of (handed w.number c q) (es ++ packet_passed p ∷ []) ≡ handed_down (suc j) c q) (sym e) (sum_here q)
          told_by c q low (no other) = sum_same c q other ∙ mid.told c q (omega arith)
