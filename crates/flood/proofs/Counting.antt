-- How many numbers below a bound pass a test: never more than there are, and more than before where one more passes.
use Prim.Native.Nat.{ℕ, zero, suc, ◌≤◌, ◌<◌}
use mathlib.Core.Path.{◌≡◌, refl, sym, ap, ◌∙◌}
use mathlib.Core.Bool.{Bool, true, false, cond, true≢false}
use mathlib.Core.Logic.{⊎_elim}
use native.Mathlib.Omega.{arith}
use Rattle.lists.proofs.Firsts.{lt_or_ge}

unfoldable pub count_to : (ℕ → Bool) → ℕ → ℕ
count_to f zero = 0
count_to f (suc n) = cond (f n) (suc (count_to f n)) (count_to f n)

pub count_most : (f : ℕ → Bool) (n : ℕ) → count_to f n ≤ n
unfolding count_to
count_most f zero = omega arith
count_most f (suc n) = go (f n) (count_most f n)
  where
    go : (b : Bool) → count_to f n ≤ n → cond b (suc (count_to f n)) (count_to f n) ≤ suc n
    go true h = omega arith
    go false h = omega arith

-- where all are counted, each passes
pub count_all : (f : ℕ → Bool) (n : ℕ) → n ≤ count_to f n → (c : ℕ) → c < n → f c ≡ true
unfolding count_to
count_all f zero h c l = absurd (omega arith)
count_all f (suc n) h c l = go (f n) refl (λ k. count_all f n k c) h
  where
    go : (b : Bool) → f n ≡ b → (n ≤ count_to f n → c < n → f c ≡ true) → suc n ≤ cond b (suc (count_to f n)) (count_to f n) → f c ≡ true
    go true e below k = ⊎_elim (λ (q : c < n). below (omega arith) q) (λ (q : n ≤ c). let s : c ≡ n = omega arith in ap f s ∙ e) (lt_or_ge c n)
    go false e below k = absurd (omega (arith, count_most f n))

module _ (f g : ℕ → Bool) (all : (c : ℕ) → f c ≡ true → g c ≡ true) where
  count_least : (n : ℕ) → count_to f n ≤ count_to g n
  unfolding count_to
  count_least zero = omega arith
  count_least (suc n) = go (f n) (g n) (all n) (count_least n)
    where
      go : (a b : Bool) → (a ≡ true → b ≡ true) → count_to f n ≤ count_to g n → cond a (suc (count_to f n)) (count_to f n) ≤ cond b (suc (count_to g n)) (count_to g n)
      go true true e h = omega arith
      go true false e h = absurd (true≢false (sym (e refl)))
      go false true e h = omega arith
      go false false e h = h

  -- one more passes
  pub count_more : (n i : ℕ) → i < n → f i ≡ false → g i ≡ true → suc (count_to f n) ≤ count_to g n
  unfolding count_to
  count_more zero i h a b = absurd (omega arith)
  count_more (suc n) i h a b = ⊎_elim (λ (l : i < n). go (f n) (g n) (all n) (count_more n i l a b)) here (lt_or_ge i n)
    where
      go : (x y : Bool) → (x ≡ true → y ≡ true) → suc (count_to f n) ≤ count_to g n → suc (cond x (suc (count_to f n)) (count_to f n)) ≤ cond y (suc (count_to g n)) (count_to g n)
      go true true e k = omega arith
      go true false e k = absurd (true≢false (sym (e refl)))
      go false true e k = omega arith
      go false false e k = k

      here : n ≤ i → suc (cond (f n) (suc (count_to f n)) (count_to f n)) ≤ cond (g n) (suc (count_to g n)) (count_to g n)
      here l =
          let s : n ≡ i = omega arith in
          let x : f n ≡ false = ap f s ∙ a in
          let y : g n ≡ true = ap g s ∙ b in
          rw (x, y) (omega (arith, count_least n))
