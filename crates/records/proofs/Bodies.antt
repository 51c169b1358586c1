-- Which kinds go with which body lengths and link states, kind by kind.
use mathlib.Core.Path.{◌≡◌, refl, sym, ap, ◌∙◌}
use mathlib.Core.Logic.{◌⊎◌, inl, inr}
use mathlib.Core.Bool.{Bool, true, false, ◌&&◌, ◌||◌, not, and-eq-true_iff, and-true, false≢true}
use mathlib.Core.List.{List}
use Prim.Native.Nat.{ℕ, ◌≤◌, ◌<◌}
use native.Mathlib.Omega.{arith}
use lib.Dec.{eqb, leb}
use lib.ListN.{length, get_or}
use borrow.Author.Tests.{eq-eqb, ne_eqb, eqb-true, leb-true}
use Rattle.records.specs.Records.{body_fits, body_length, body_fine, Readable}

-- the three numbers that decide
abbrev fits : ℕ → ℕ → ℕ → Bool
fits kind n up = body_fits kind n && (not (eqb kind 3) || leb up 1)

module _ (s : List ℕ) where
  pub of_injection : get_or s 3 0 ≡ 1 → (eqb (body_length s) 9 || eqb (body_length s) 13) ≡ body_fine s
  of_injection e = sym (and-true _) ∙ ap (λ (k : ℕ). fits k (body_length s) (get_or s 7 0)) (sym e)

  pub of_round : get_or s 3 0 ≡ 2 → eqb (body_length s) 2 ≡ body_fine s
  of_round e = sym (and-true _) ∙ ap (λ (k : ℕ). fits k (body_length s) (get_or s 7 0)) (sym e)

  of_change : get_or s 3 0 ≡ 3 → (eqb (body_length s) 6 && leb (get_or s 7 0) 1) ≡ body_fine s
  of_change e = ap (λ (k : ℕ). fits k (body_length s) (get_or s 7 0)) (sym e)

  pub of_state : get_or s 3 0 ≡ 3 → body_length s ≡ 6 → leb (get_or s 7 0) 1 ≡ body_fine s
  of_state e six = ap (λ (b : Bool). b && leb (get_or s 7 0) 1) (sym (eq-eqb (body_length s) 6 six)) ∙ of_change e

  pub of_no_state : get_or s 3 0 ≡ 3 → (body_length s ≡ 6 → ⊥) → false ≡ body_fine s
  of_no_state e other = ap (λ (b : Bool). b && leb (get_or s 7 0) 1) (sym (ne_eqb (body_length s) 6 other)) ∙ of_change e

  pub of_read : get_or s 3 0 ≡ 4 → eqb (body_length s) 4 ≡ body_fine s
  of_read e = sym (and-true _) ∙ ap (λ (k : ℕ). fits k (body_length s) (get_or s 7 0)) (sym e)

  pub of_none : (get_or s 3 0 ≡ 1 → ⊥) → (get_or s 3 0 ≡ 2 → ⊥) → (get_or s 3 0 ≡ 3 → ⊥) → (get_or s 3 0 ≡ 4 → ⊥) → false ≡ body_fine s
  of_none a b c d = simp (ne_eqb (get_or s 3 0) 1 a, ne_eqb (get_or s 3 0) 2 b, ne_eqb (get_or s 3 0) 3 c, ne_eqb (get_or s 3 0) 4 d)

  -- a body of one byte fits no kind
  pub of_short : body_length s < 2 → false ≡ body_fine s
  of_short h = go (eqb (get_or s 3 0) 1) (eqb (get_or s 3 0) 2) (eqb (get_or s 3 0) 3) (eqb (get_or s 3 0) 4)
    where
      differs : (n : ℕ) → 2 ≤ n → eqb (body_length s) n ≡ false
      differs n k = ne_eqb (body_length s) n (λ e. omega (arith, h, k, e))

      go : (a b c d : Bool)
          → false ≡ (mathlib.Core.Bool.cond a (eqb (body_length s) 9 || eqb (body_length s) 13) (mathlib.Core.Bool.cond b (eqb (body_length s) 2) (mathlib.Core.Bool.cond c (eqb (body_length s) 6) (d && eqb (body_length s) 4)))
          && (not c || leb (get_or s 7 0) 1))
      go true b c d = simp (differs 9 (omega arith), differs 13 (omega arith))
      go false true c d = simp (differs 2 (omega arith))
      go false false true d = simp (differs 6 (omega arith))
      go false false false true = simp (differs 4 (omega arith))
      go false false false false = refl

  module _ (fine : body_fine s ≡ true) where
    pub fine_injection : get_or s 3 0 ≡ 1 → (body_length s ≡ 9) ⊎ (body_length s ≡ 13)
    fine_injection e = go (eqb (body_length s) 9) (eqb (body_length s) 13) refl refl (of_injection e ∙ fine)
      where
        go : (a b : Bool) → eqb (body_length s) 9 ≡ a → eqb (body_length s) 13 ≡ b → (a || b) ≡ true → (body_length s ≡ 9) ⊎ (body_length s ≡ 13)
        go true b x y z = inl (eqb-true _ _ x)
        go false true x y z = inr (eqb-true _ _ y)
        go false false x y z = absurd (false≢true z)

    pub fine_round : get_or s 3 0 ≡ 2 → body_length s ≡ 2
    fine_round e = eqb-true _ _ (of_round e ∙ fine)

    pub fine_change : get_or s 3 0 ≡ 3 → (body_length s ≡ 6) × (get_or s 7 0 ≤ 1)
    fine_change e =
        let both = (and-eq-true_iff (eqb (body_length s) 6) (leb (get_or s 7 0) 1)).0 (of_change e ∙ fine) in
        (eqb-true _ _ both.0, leb-true _ _ both.1)

    pub fine_read : (get_or s 3 0 ≡ 1 → ⊥) → (get_or s 3 0 ≡ 2 → ⊥) → (get_or s 3 0 ≡ 3 → ⊥) → (get_or s 3 0 ≡ 4) × (body_length s ≡ 4)
    fine_read a b c = go (eqb (get_or s 3 0) 4) refl
      where
        go : (d : Bool) → eqb (get_or s 3 0) 4 ≡ d → (get_or s 3 0 ≡ 4) × (body_length s ≡ 4)
        go true x = (eqb-true _ _ x, eqb-true _ _ (of_read (eqb-true _ _ x) ∙ fine))
        go false x = absurd (false≢true (of_none a b c (λ e. absurd (false≢true (sym x ∙ eq-eqb (get_or s 3 0) 4 e))) ∙ fine))

    pub fine_long : 2 ≤ body_length s
    fine_long = go (leb 2 (body_length s)) refl
      where
        go : (d : Bool) → leb 2 (body_length s) ≡ d → 2 ≤ body_length s
        go true x = leb-true _ _ x
        go false x = absurd (false≢true (of_short (borrow.Author.Tests.leb-false _ _ x) ∙ fine))

  pub injection_long : Readable s → (body_length s ≡ 9) ⊎ (body_length s ≡ 13) → 11 ≤ length s
  injection_long r (inl e) = omega (arith, r.whole)
  injection_long r (inr e) = omega (arith, r.whole)
