-- The first refusal that applies, of two lists joined, and where none applies.
use mathlib.Core.Path.{◌≡◌, refl}
use mathlib.Core.Bool.{Bool, true, false, cond, ◌&&◌, and-eq-true_iff}
use mathlib.Core.List.{List, [], ◌∷◌, ◌++◌}
use Prim.Native.Nat.{ℕ}
use native.Mathlib.Omega.{arith}
use lib.Dec.{eqb, ltb}
use borrow.Author.Tests.{ltb-true, ne_eqb}
use Rattle.packet.specs.Refusal.{Refusal, first_of}

-- no refusal has the number 0
abbrev pub positive : List Refusal → Bool
positive [] = true
positive (r ∷ rs) = ltb 0 r.number && positive rs

pub first_append : (xs ys : List Refusal) → positive xs ≡ true → first_of (xs ++ ys) ≡ cond (eqb (first_of xs) 0) (first_of ys) (first_of xs)
first_append [] ys p = refl
first_append (r ∷ rs) ys p = go r.when ((and-eq-true_iff (ltb 0 r.number) (positive rs)).0 p) (λ q. first_append rs ys q)
  where
    go : (b : Bool) → (ltb 0 r.number ≡ true) × (positive rs ≡ true) → (positive rs ≡ true → first_of (rs ++ ys) ≡ cond (eqb (first_of rs) 0) (first_of ys) (first_of rs))
        → cond b r.number (first_of (rs ++ ys)) ≡ cond (eqb (cond b r.number (first_of rs)) 0) (first_of ys) (cond b r.number (first_of rs))
    go true q ih =
        let some : r.number ≡ 0 → ⊥ = λ e. omega (arith, ltb-true 0 r.number q.0) in
        simp (ne_eqb r.number 0 some)
    go false q ih = ih q.1

-- where no refusal applies, the first does not, and none of the others does
first_none : (r : Refusal) (rs : List Refusal) → positive (r ∷ rs) ≡ true → first_of (r ∷ rs) ≡ 0 → (r.when ≡ false) × (first_of rs ≡ 0)
first_none r rs p e = go r.when refl e
  where
    some : r.number ≡ 0 → ⊥
    some z = omega (arith, ltb-true 0 r.number ((and-eq-true_iff (ltb 0 r.number) (positive rs)).0 p).0)

    go : (b : Bool) → r.when ≡ b → cond b r.number (first_of rs) ≡ 0 → (r.when ≡ false) × (first_of rs ≡ 0)
    go true w f = absurd (some f)
    go false w f = (w, f)

-- no refusal of the list applies
abbrev pub Off : List Refusal → Type 0
Off [] = Unit {0}
Off (r ∷ rs) = (r.when ≡ false) × Off rs

pub none_applies : (rs : List Refusal) → positive rs ≡ true → first_of rs ≡ 0 → Off rs
none_applies [] p e = tt
none_applies (r ∷ rs) p e =
    let h = first_none r rs p e in
    (h.0, none_applies rs ((and-eq-true_iff (ltb 0 r.number) (positive rs)).0 p).1 h.1)

-- whether the refusal with number n applies
abbrev pub when_of : List Refusal → ℕ → Bool
when_of [] n = false
when_of (r ∷ rs) n = cond (eqb r.number n) r.when (when_of rs n)

-- so where a call is accepted, what refusal n says is known to be false
pub not_refused : (rs : List Refusal) → positive rs ≡ true → first_of rs ≡ 0 → (n : ℕ) → when_of rs n ≡ false
not_refused rs p e n = by_number rs (none_applies rs p e)
  where
    by_number : (rs : List Refusal) → Off rs → when_of rs n ≡ false
    by_number [] off = refl
    by_number (r ∷ rs) off = go (eqb r.number n) (by_number rs off.1)
      where
        go : (b : Bool) → when_of rs n ≡ false → cond b r.when (when_of rs n) ≡ false
        go true later = off.0
        go false later = later
