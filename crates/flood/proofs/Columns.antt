-- The codes for one destination, written chip by chip: the code of chip c stands at place c * all + to.
use Prim.Native.Nat.{ℕ, ◌+◌, ◌*◌, ◌/◌, ◌%◌, ◌≤◌, ◌<◌}
use mathlib.Core.Path.{◌≡◌, refl, sym, ap, ◌∙◌}
use mathlib.Core.List.{List}
use mathlib.Core.Logic.{◌⊎◌, inl, inr}
use native.Mathlib.Omega.{arith}
use native.Mathlib.Nat.{mod-eq_of_lt, div-eq_of_lt, mul-add-div_right, mul-add-mod_self_right, div-add-mod', mul-le-mul_right, div-lt_iff_lt-mul}
use lib.ListN.{length, get_or, set, length-set}
use lib.Seq.{get_or-set_same, get_or-set_other}
use Rattle.buffer.proofs.ChipParts.{order}
use Rattle.flood.specs.Marks.{Column}

-- row and column of a place
module _ (all from to : ℕ) (h : to < all) where
  pub row_of : (from * all + to) / all ≡ from
  row_of = let some : 1 ≤ all = omega arith in omega (arith, mul-add-div_right some from to, div-eq_of_lt h)

  pub column_of : (from * all + to) % all ≡ to
  column_of = mul-add-mod_self_right from all to ∙ mod-eq_of_lt h

  pub place_below : from < all → from * all + to < all * all
  place_below near = let row : (from + 1) * all ≤ all * all = mul-le-mul_right all (omega arith) in omega arith

pub record SoFar (all to from : ℕ) (code : ℕ → ℕ) (before after : List ℕ) : Type 0 where
  pub long : length after ≡ length before
  pub written : (k : ℕ) → k % all ≡ to → k / all < from → get_or after k 0 ≡ code (k / all)
  pub others : (k : ℕ) → (k % all ≡ to → ⊥) → get_or after k 0 ≡ get_or before k 0

pub none_yet : (all to : ℕ) (code : ℕ → ℕ) (before : List ℕ) → SoFar all to 0 code before before
none_yet all to code before = record { long = refl; written = λ k e h. absurd (omega arith); others = λ k d. refl }

pub one_more : (all to from : ℕ) (code : ℕ → ℕ) (before after : List ℕ) → to < all → from < all → length before ≡ all * all → SoFar all to from code before after
    → SoFar all to (from + 1) code before (set after (from * all + to) (code from))
one_more all to from code before after ht hf sized s = record { long = simp length-set s.long; written = written; others = others }
  where
    below : from * all + to < length after
    below = omega (arith, place_below all from to ht hf, s.long)

    written : (k : ℕ) → k % all ≡ to → k / all < from + 1 → get_or (set after (from * all + to) (code from)) k 0 ≡ code (k / all)
    written k e h = go (order (k / all) from)
      where
        go : (k / all < from) ⊎ ((k / all ≡ from) ⊎ (from < k / all)) → get_or (set after (from * all + to) (code from)) k 0 ≡ code (k / all)
        go (inl l) = get_or-set_other after (from * all + to) k _ 0 (λ (q : k ≡ from * all + to). omega (arith, ap (λ (i : ℕ). i / all) q, row_of all from to ht)) ∙ s.written k e l
        go (inr (inl l)) =
            let q : k ≡ from * all + to = sym (div-add-mod' k all) ∙ (λ i. l i * all + e i) in
            ap (λ (i : ℕ). get_or (set after (from * all + to) (code from)) i 0) q ∙ get_or-set_same after (from * all + to) _ 0 below ∙ ap code (sym l)
        go (inr (inr l)) = absurd (omega arith)

    others : (k : ℕ) → (k % all ≡ to → ⊥) → get_or (set after (from * all + to) (code from)) k 0 ≡ get_or before k 0
    others k d =
        get_or-set_other after (from * all + to) k _ 0 (λ (q : k ≡ from * all + to). d (ap (λ (i : ℕ). i % all) q ∙ column_of all from to ht)) ∙ s.others k d

pub whole_column : (all to : ℕ) (code : ℕ → ℕ) (before after : List ℕ) → 1 ≤ all → SoFar all to all code before after → Column all to code before after
whole_column all to code before after some s = record { long = s.long; written = λ k h e. s.written k e ((div-lt_iff_lt-mul some).1 h); others = s.others }
