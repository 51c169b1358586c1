-- Whether a number is in a list: in two lists one behind the other, and in one number more of a list.
use Prim.Native.Nat.{ℕ, ◌+◌, ◌<◌}
use mathlib.Core.Path.{◌≡◌, refl, sym, ap, ◌∙◌}
use mathlib.Core.Bool.{Bool, true, false, not, ◌||◌, cond}
use mathlib.Core.List.{List, [], ◌∷◌, ◌++◌}
use native.Mathlib.Numerals.{add-one}
use borrow.Author.Tests.{eq-eqb, ne_eqb}
use lib.Dec.{eqb}
use lib.ListN.{length, get_or, take}
use lib.Seq.{take-suc}
use Rattle.groups.specs.Groups.{is_in, asked}

in_append : (g : ℕ) (a b : List ℕ) → is_in g (a ++ b) ≡ is_in g a || is_in g b
unfolding is_in
in_append g [] b = refl
in_append g (t ∷ a) b = go (eqb t g) (in_append g a b)
  where
    go : (e : Bool) → is_in g (a ++ b) ≡ is_in g a || is_in g b → e || is_in g (a ++ b) ≡ (e || is_in g a) || is_in g b
    go true h = refl
    go false h = h

-- a list that one number joins
pub in_here : (t : ℕ) (a : List ℕ) → is_in t (a ++ t ∷ []) ≡ true
unfolding is_in
in_here t a = in_append t a (t ∷ []) ∙ simp (eq-eqb t t refl) (go (is_in t a))
  where
    go : (b : Bool) → b || true ≡ true
    go true = refl
    go false = refl

pub in_else : (g t : ℕ) (a : List ℕ) → (g ≡ t → ⊥) → is_in g (a ++ t ∷ []) ≡ is_in g a
unfolding is_in
in_else g t a n = in_append g a (t ∷ []) ∙ simp (ne_eqb t g (λ e. n (sym e))) (go (is_in g a))
  where
    go : (b : Bool) → b || false ≡ b
    go true = refl
    go false = refl

module _ (tops : List ℕ) (k : ℕ) (h : k < length tops) where
  pub one_more : take (k + 1) tops ≡ take k tops ++ get_or tops k 0 ∷ []
  one_more = ap (λ (m : ℕ). take m tops) (add-one k) ∙ take-suc tops k 0 h

  pub in_next : is_in (get_or tops k 0) (take (k + 1) tops) ≡ true
  in_next = ap (is_in (get_or tops k 0)) one_more ∙ in_here (get_or tops k 0) (take k tops)

  pub in_other : (g : ℕ) → (g ≡ get_or tops k 0 → ⊥) → is_in g (take (k + 1) tops) ≡ is_in g (take k tops)
  in_other g n = ap (is_in g) one_more ∙ in_else g (get_or tops k 0) (take k tops) n

pub in_none : (g : ℕ) (tops : List ℕ) → is_in g (take 0 tops) ≡ false
unfolding is_in
in_none g tops = refl

-- a mark is 1 or 0, and a group with the mark 1 is asked for
pub bit_asked : (marks : List ℕ) (g : ℕ) (b : Bool) → get_or marks g 0 ≡ cond b 1 0 → asked marks g ≡ b
bit_asked marks g b e = ap (λ (n : ℕ). not (eqb n 0)) e ∙ go b
  where
    go : (b : Bool) → not (eqb (cond b 1 0) 0) ≡ b
    go true = refl
    go false = refl
