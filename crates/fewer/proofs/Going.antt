-- Which row goes, by what is known of it and of those above it.
use Prim.Native.Nat.{ℕ, ◌<◌, ◌≤◌}
use mathlib.Core.Path.{◌≡◌, refl, sym, ap, ap₂, ◌∙◌}
use mathlib.Core.Bool.{Bool, true, false, not, ◌||◌, true≢false, or-true}
use mathlib.Core.List.{List}
use mathlib.Core.Logic.{◌⊎◌, inl, inr, ⊎_elim}
use native.Mathlib.Omega.{arith}
use borrow.Author.Tests.{lt-ltb, le-ltb, ltb-true}
use lib.Dec.{ltb}
use Rattle.lists.specs.Firsts.{first_below}
use Rattle.lists.proofs.Firsts.{lt_or_ge, first_holds, before_first, first_none}
use Rattle.fewer.specs.Process.{Numbered, matches_some, covers, row_at, covered, goes}
use Rattle.fewer.specs.Hand.{Stays}

either : (m c : Bool) → (not m || c) ≡ true → (m ≡ false) ⊎ (c ≡ true)
either true c e = inr e
either false c e = inl refl

neither : (m c : Bool) → (not m || c) ≡ false → m ≡ true
neither true c e = refl
neither false c e = absurd (true≢false e)

module _ (rows : List Numbered) (i : ℕ) where
  abbrev covering : ℕ → Bool
  covering j = covers (row_at rows j) (row_at rows i)

  pub stays : Stays rows i → goes rows i ≡ false
  stays s = ap₂ (λ (m c : Bool). not m || c) s.some (ap (λ (n : ℕ). ltb n i) (first_none covering i s.apart) ∙ le-ltb i i (omega arith))

  pub goes_unmatched : matches_some (row_at rows i) ≡ false → goes rows i ≡ true
  goes_unmatched m = ap (λ (b : Bool). not b || covered rows i) m

  pub goes_covered : (j : ℕ) → j < i → covers (row_at rows j) (row_at rows i) ≡ true → goes rows i ≡ true
  goes_covered j h c = ap (λ (b : Bool). not (matches_some (row_at rows i)) || b) is ∙ or-true (not (matches_some (row_at rows i)))
    where
      is : covered rows i ≡ true
      is =
          ⊎_elim (λ (l : first_below covering i < i). lt-ltb (first_below covering i) i l)
          (λ (l : i ≤ first_below covering i). absurd (true≢false (sym c ∙ before_first covering i j (omega arith))))
          (lt_or_ge (first_below covering i) i)

  pub why_goes : goes rows i ≡ true → (matches_some (row_at rows i) ≡ false) ⊎ ((j : ℕ) × ((j < i) × (covers (row_at rows j) (row_at rows i) ≡ true)))
  why_goes g =
      ⊎_elim (λ (m : matches_some (row_at rows i) ≡ false). inl m)
      (λ (c : covered rows i ≡ true).
      let h = ltb-true (first_below covering i) i c in
      inr (first_below covering i, (h, first_holds covering i h)))
      (either (matches_some (row_at rows i)) (covered rows i) g)

  pub matches_where_stays : goes rows i ≡ false → matches_some (row_at rows i) ≡ true
  matches_where_stays g = neither (matches_some (row_at rows i)) (covered rows i) g
