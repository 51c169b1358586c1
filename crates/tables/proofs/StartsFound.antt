-- Where a walk over the starts stops is the first place where they are wrong: at once where their number or the first is, at the first that falls, at the last, or nowhere.
use mathlib.Core.Path.{◌≡◌, refl, sym, ◌∙◌}
use mathlib.Core.Bool.{Bool, true, false, ◌&&◌, not, and-false, or-true}
use mathlib.Core.List.{List}
use Prim.Native.Nat.{ℕ, zero, suc, ◌+◌, ◌-◌, ◌≤◌, ◌<◌}
use native.Mathlib.Omega.{arith}
use lib.Dec.{eqb, ltb}
use lib.ListN.{length, get_or}
use borrow.Author.Tests.{lt-ltb, le-ltb, eqb-true, eqb-false, eq-eqb, ne_eqb}
use Rattle.lists.proofs.Firsts.{first_is, first_none}
use Rattle.tables.specs.Places.{start_wrong, starts_place}

pub one_less : (q : ℕ) → suc q - 1 ≡ q
one_less q = omega arith

pub not_first : (q : ℕ) → eqb (suc q) 0 ≡ false
not_first q = ne_eqb (suc q) 0 (λ z. omega arith)

-- no start before p is below the one before it
pub record Unfallen (starts : List ℕ) (chips p : ℕ) : Type 0 where
  pub long : length starts ≡ chips + 1
  pub first : get_or starts 0 0 ≡ 0
  pub up : (j : ℕ) → suc j < p → get_or starts j 0 ≤ get_or starts (suc j) 0

pub one_more : (starts : List ℕ) (chips p : ℕ) → Unfallen starts chips p → 1 ≤ p → get_or starts (p - 1) 0 ≤ get_or starts p 0 → Unfallen starts chips (p + 1)
one_more starts chips zero u h up = absurd (omega arith)
one_more starts chips (suc q) u h up = record { long = u.long; first = u.first; up = λ j l. go j l (eqb j q) refl }
  where
    go : (j : ℕ) → suc j < suc q + 1 → (b : Bool) → eqb j q ≡ b → get_or starts j 0 ≤ get_or starts (suc j) 0
    go j l true e = let same : j ≡ q = eqb-true j q e in rw same (rw (one_less q) at up)
    go j l false e = u.up j (omega (arith, eqb-false j q e))

module _ (starts : List ℕ) (chips rows : ℕ) where
  pub long_wrong : (length starts ≡ chips + 1 → ⊥) → 0 ≡ starts_place starts chips rows
  long_wrong e = sym (first_is (start_wrong starts chips rows) (chips + 1) 0 (omega arith) (simp (ne_eqb (length starts) (chips + 1) e)) (λ j h. absurd (omega arith)))

  pub first_wrong : (get_or starts 0 0 ≡ 0 → ⊥) → 0 ≡ starts_place starts chips rows
  first_wrong e = sym (first_is (start_wrong starts chips rows) (chips + 1) 0 (omega arith) (simp (ne_eqb (get_or starts 0 0) 0 e, and-false)) (λ j h. absurd (omega arith)))

  right_before : (p : ℕ) → Unfallen starts chips p → (j : ℕ) → j < p → (j ≡ chips → get_or starts chips 0 ≡ rows) → start_wrong starts chips rows j ≡ false
  right_before p u zero h last = simp (eq-eqb _ _ u.long, eq-eqb _ _ u.first)
  right_before p u (suc q) h last = simp (not_first q, one_less q, le-ltb (get_or starts (suc q) 0) (get_or starts q 0) (u.up q h)) (go (eqb (suc q) chips) refl)
    where
      go : (b : Bool) → eqb (suc q) chips ≡ b → (b && not (eqb (get_or starts chips 0) rows)) ≡ false
      go true e = simp (eq-eqb _ _ (last (eqb-true (suc q) chips e)))
      go false e = refl

  pub falls : (p : ℕ) → Unfallen starts chips p → 1 ≤ p → p ≤ chips → get_or starts p 0 < get_or starts (p - 1) 0 → p ≡ starts_place starts chips rows
  falls p u some most down =
      sym (first_is (start_wrong starts chips rows) (chips + 1) p (omega arith) (simp (ne_eqb p 0 (λ z. omega arith), lt-ltb (get_or starts p 0) (get_or starts (p - 1) 0) down)) (λ j h. right_before p u j h (λ e. absurd (omega arith))))

  pub last_wrong : 1 ≤ chips → (p : ℕ) → chips < p → Unfallen starts chips p → (get_or starts chips 0 ≡ rows → ⊥) → chips ≡ starts_place starts chips rows
  last_wrong some p past u e =
      sym (first_is (start_wrong starts chips rows) (chips + 1) chips (omega arith) (simp (ne_eqb chips 0 (λ z. omega arith), eq-eqb chips chips refl, ne_eqb (get_or starts chips 0) rows e) (or-true (ltb (get_or starts chips 0) (get_or starts (chips - 1) 0)))) (λ j h. right_before p u j (omega arith) (λ f. absurd (omega arith))))

  pub none_wrong : (p : ℕ) → p ≡ chips + 1 → Unfallen starts chips p → get_or starts chips 0 ≡ rows → p ≡ starts_place starts chips rows
  none_wrong p e u last = e ∙ sym (first_none (start_wrong starts chips rows) (chips + 1) (λ j h. right_before p u j (omega arith) (λ f. last)))
