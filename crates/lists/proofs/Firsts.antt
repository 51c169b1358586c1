-- The first place where something holds: it holds there and nowhere before, and there is no other such place.
use Prim.Native.Nat.{ℕ, zero, suc, ◌+◌, ◌≤◌, ◌<◌}
use mathlib.Core.Path.{◌≡◌, refl, sym, ap, ◌∙◌}
use mathlib.Core.Bool.{Bool, true, false, cond, true≢false}
use native.Mathlib.Omega.{arith}
use native.Mathlib.Nat.{le_antisymm}
use mathlib.Core.Logic.{◌⊎◌, inl, inr, ⊎_elim}
use native.Mathlib.Decide.{dec_lt}
use Rattle.lists.specs.Firsts.{first_from, first_below, Exact}

pub lt_or_ge : (i j : ℕ) → (i < j) ⊎ (j ≤ i)
lt_or_ge i j = go (dec_lt i j)
  where
    go : Dec (i < j) → (i < j) ⊎ (j ≤ i)
    go (yes h) = inl h
    go (no h) = inr (omega arith)

-- ---- of the n numbers from i on

from_between : (f : ℕ → Bool) (i n : ℕ) → (i ≤ first_from f i n) × (first_from f i n ≤ i + n)
unfolding first_from
from_between f i zero = (omega arith, omega arith)
from_between f i (suc n) = go (f i) (from_between f (suc i) n)
  where
    go : (b : Bool) → (suc i ≤ first_from f (suc i) n) × (first_from f (suc i) n ≤ suc i + n)
        → (i ≤ cond b i (first_from f (suc i) n)) × (cond b i (first_from f (suc i) n) ≤ i + suc n)
    go true h = (omega arith, omega arith)
    go false h = (omega arith, omega arith)

from_holds : (f : ℕ → Bool) (i n : ℕ) → first_from f i n < i + n → f (first_from f i n) ≡ true
unfolding first_from
from_holds f i zero h = absurd (omega arith)
from_holds f i (suc n) h = go (f i) refl (from_holds f (suc i) n) h
  where
    go : (b : Bool) → f i ≡ b → (first_from f (suc i) n < suc i + n → f (first_from f (suc i) n) ≡ true)
        → cond b i (first_from f (suc i) n) < i + suc n → f (cond b i (first_from f (suc i) n)) ≡ true
    go true e next k = e
    go false e next k = next (omega arith)

from_before : (f : ℕ → Bool) (i n j : ℕ) → i ≤ j → j < first_from f i n → f j ≡ false
unfolding first_from
from_before f i zero j a h = absurd (omega arith)
from_before f i (suc n) j a h = go (f i) refl (λ l. from_before f (suc i) n j l) h
  where
    go : (b : Bool) → f i ≡ b → (suc i ≤ j → j < first_from f (suc i) n → f j ≡ false) → j < cond b i (first_from f (suc i) n) → f j ≡ false
    go true e next k = absurd (omega arith)
    go false e next k = ⊎_elim (λ (l : i < j). next (omega arith) k) (λ (l : j ≤ i). ap f (le_antisymm l a) ∙ e) (lt_or_ge i j)

-- ---- below n

module _ (f : ℕ → Bool) (n : ℕ) where
  pub first_most : first_below f n ≤ n
  first_most = omega (arith, from_between f 0 n)

  -- it holds there
  pub first_holds : first_below f n < n → f (first_below f n) ≡ true
  first_holds h = from_holds f 0 n (omega arith)

  -- and nowhere before
  pub before_first : (j : ℕ) → j < first_below f n → f j ≡ false
  before_first j h = from_before f 0 n j (omega arith) h

  -- the only such place
  pub first_is : (k : ℕ) → k < n → f k ≡ true → ((j : ℕ) → j < k → f j ≡ false) → first_below f n ≡ k
  first_is k h there before =
      ⊎_elim (λ (l : first_below f n < k). absurd (true≢false (sym (first_holds (omega arith)) ∙ before (first_below f n) l)))
      (λ (l : k ≤ first_below f n).
      ⊎_elim (λ (m : k < first_below f n). absurd (true≢false (sym there ∙ before_first k m))) (λ (m : first_below f n ≤ k). le_antisymm m l) (lt_or_ge k (first_below f n)))
      (lt_or_ge (first_below f n) k)

  -- where it holds nowhere
  pub first_none : ((j : ℕ) → j < n → f j ≡ false) → first_below f n ≡ n
  first_none none =
      ⊎_elim (λ (l : first_below f n < n). absurd (true≢false (sym (first_holds l) ∙ none (first_below f n) l))) (λ (l : n ≤ first_below f n). le_antisymm first_most l) (lt_or_ge (first_below f n) n)

-- by two tests that agree below n
pub first_same : (f g : ℕ → Bool) (n : ℕ) → ((j : ℕ) → j < n → f j ≡ g j) → first_below f n ≡ first_below g n
first_same f g n same =
    ⊎_elim
    (λ (l : first_below g n < n). first_is f n (first_below g n) l (same _ l ∙ first_holds g n l) (λ j h. same j (omega arith) ∙ before_first g n j h))
    (λ (l : n ≤ first_below g n). first_none f n (λ j h. same j h ∙ before_first g n j (omega arith)) ∙ le_antisymm l (first_most g n))
    (lt_or_ge (first_below g n) n)

-- the place is exact where all is fine exactly if no number passes
module _ (f : ℕ → Bool) (n : ℕ) where
  pub exact : (fine : Bool) → (fine ≡ true → (j : ℕ) → j < n → f j ≡ false) → (((j : ℕ) → j < n → f j ≡ false) → fine ≡ true) → Exact f n fine
  exact fine none all =
      let below : fine ≡ false → first_below f n < n =
      λ e. ⊎_elim (λ (l : first_below f n < n). l) (λ (l : n ≤ first_below f n). absurd (true≢false (sym (all (λ j h. before_first f n j (omega arith))) ∙ e))) (lt_or_ge (first_below f n) n) in
      record { below = below; there = λ e. first_holds f n (below e); before = λ e. before_first f n; none = none }

  -- so the place says whether all is fine
  pub exact_fine : (fine : Bool) → Exact f n fine → n ≤ first_below f n → fine ≡ true
  exact_fine true e h = refl
  exact_fine false e h = absurd (omega (arith, e.below refl))

  pub exact_not : (fine : Bool) → Exact f n fine → first_below f n < n → fine ≡ false
  exact_not true e h = absurd (true≢false (sym (first_holds f n h) ∙ e.none refl (first_below f n) h))
  exact_not false e h = refl
