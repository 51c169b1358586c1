-- The levels of a flood: which chips each has reached, at which a chip is reached first, and that a level which reaches no more is the last that could.
use Prim.Native.Nat.{ℕ, zero, suc, ◌+◌, ◌-◌, ◌≤◌, ◌<◌}
use mathlib.Core.Path.{◌≡◌, refl, sym, ap, ◌∙◌}
use mathlib.Core.Bool.{Bool, true, false, ◌&&◌, ◌||◌, true≢false}
use mathlib.Core.Logic.{⊎_elim}
use native.Mathlib.Omega.{arith}
use lib.Dec.{ltb}
use borrow.Author.Tests.{lt-ltb, le-ltb}
use Rattle.tables.specs.Sizes.{size_fine}
use Rattle.tables.proofs.Sizes.{size}
use Rattle.lists.specs.Firsts.{first_below}
use Rattle.lists.proofs.Firsts.{lt_or_ge, first_holds, before_first, first_is, first_same}
use Rattle.mesh.specs.Mesh.{Mesh, many}
use Rattle.links.proofs.Crossing.{across_there}
use Rattle.flood.specs.Ways.{is_up, beyond, leads_to, within, fewest}

-- the first place is no later than any
pub first_least : (f : ℕ → Bool) (n i : ℕ) → f i ≡ true → first_below f n ≤ i
first_least f n i e = ⊎_elim (λ (l : i < first_below f n). absurd (true≢false (sym e ∙ before_first f n i l))) (λ (l : first_below f n ≤ i). l) (lt_or_ge i (first_below f n))

-- every link leads to a chip of the mesh
pub beyond_there : {A : Type 0} (m : Mesh A) → size_fine m.width m.height ≡ true → (c i : ℕ) → beyond m c i < many m
beyond_there m fine c i = let s = size m.width m.height fine in across_there m.width m.height c i s.width_low s.height_low

module _ {A : Type 0} (m : Mesh A) (to : ℕ) where
  -- the lowest link to a chip that is within
  abbrev pub first_to : ℕ → ℕ → ℕ
  first_to k c = first_below (leads_to m (within m to k) c) 6

  -- once within, always within
  pub within_next : (k c : ℕ) → within m to k c ≡ true → within m to (suc k) c ≡ true
  unfolding within
  within_next k c e = ap (λ (b : Bool). b || ltb (first_to k c) 6) e

  within_later : (k j c : ℕ) → within m to k c ≡ true → within m to (k + j) c ≡ true
  within_later k zero c e = let s : k + 0 ≡ k = omega arith in ap (λ (i : ℕ). within m to i c) s ∙ e
  within_later k (suc j) c e = let s : k + suc j ≡ suc (k + j) = omega arith in ap (λ (i : ℕ). within m to i c) s ∙ within_next (k + j) c (within_later k j c e)

  pub within_more : (k j c : ℕ) → k ≤ j → within m to k c ≡ true → within m to j c ≡ true
  within_more k j c h e = let s : j ≡ k + (j - k) = omega arith in ap (λ (i : ℕ). within m to i c) s ∙ within_later k (j - k) c e

  pub not_before : (k j c : ℕ) → j ≤ k → within m to k c ≡ false → within m to j c ≡ false
  not_before k j c h e = go (within m to j c) refl
    where
      go : (b : Bool) → within m to j c ≡ b → within m to j c ≡ false
      go true t = absurd (true≢false (sym (within_more j k c h t) ∙ e))
      go false t = t

  -- within so many links exactly where the fewest are at most so many, as `fewest` counts
  pub few_within : (k c : ℕ) → k < many m → ltb (fewest m c to) (suc k) ≡ within m to k c
  few_within k c h =
      ⊎_elim (λ (l : fewest m c to < suc k). lt-ltb _ _ l ∙ sym (within_more (fewest m c to) k c (omega arith) (first_holds (λ j. within m to j c) (many m) (omega arith))))
      (λ (l : suc k ≤ fewest m c to). le-ltb _ _ l ∙ sym (before_first (λ j. within m to j c) (many m) k (omega arith)))
      (lt_or_ge (fewest m c to) (suc k))

  -- a chip that a level reaches first
  pub fewest_next : (k c : ℕ) → suc k < many m → within m to k c ≡ false → within m to (suc k) c ≡ true → fewest m c to ≡ suc k
  fewest_next k c h before now = first_is (λ j. within m to j c) (many m) (suc k) h now (λ j l. not_before k j c (omega arith) before)

  -- ---- a level that reaches no more

  abbrev pub Still : ℕ → Type 0
  Still k = (c : ℕ) → c < many m → within m to (suc k) c ≡ within m to k c

  module _ (fine : size_fine m.width m.height ≡ true) (k : ℕ) (still : Still k) where
    still_later : (j c : ℕ) → c < many m → within m to (k + j) c ≡ within m to k c
    unfolding within
    still_later zero c h = let s : k + 0 ≡ k = omega arith in ap (λ (i : ℕ). within m to i c) s
    still_later (suc j) c h =
        let s : k + suc j ≡ suc (k + j) = omega arith in
        ap (λ (i : ℕ). within m to i c) s
        ∙ (λ i. still_later j c h i || ltb (first_same (leads_to m (within m to (k + j)) c) (leads_to m (within m to k) c) 6 (λ l hl. ap (λ (b : Bool). is_up m c l && b) (still_later j (beyond m c l) (beyond_there m fine c l))) i) 6)
        ∙ still c h

    pub still_on : (j c : ℕ) → k ≤ j → c < many m → within m to j c ≡ within m to k c
    still_on j c l h = let s : j ≡ k + (j - k) = omega arith in ap (λ (i : ℕ). within m to i c) s ∙ still_later (j - k) c h
