-- The search, row by row: what is known of the whole table from the rows that are still to come.
use mathlib.Core.Path.{◌≡◌, refl, sym, ap, ◌∙◌, subst}
use mathlib.Core.Bool.{Bool, true, false}
use mathlib.Core.List.{List, [], ◌∷◌}
use Prim.Native.Nat.{ℕ, suc, ◌+◌, ◌*◌, ◌/◌, ◌<◌, ◌≤◌}
use native.Mathlib.Omega.{arith}
use lib.ListN.{length, get_or, drop, length-drop}
use lib.Seq.{drop-cons}
use Rattle.std.specs.Prelude.{Option, Some, None}
use Rattle.tables.specs.Rows.{Entry, matches, rows_of, next, later, first_match, found_from, route_at}

pub later_zero : (f : Option ℕ) → later 0 f ≡ f
later_zero (Some n) = ap Some (omega arith)
later_zero None = refl

pub later_next : (i : ℕ) (f : Option ℕ) → later i (next f) ≡ later (i + 1) f
later_next i (Some n) = ap Some (omega arith)
later_next i None = refl

module _ (s : List ℕ) (i : ℕ) where
  pub rows_step : i * 3 + 2 < length s
      → rows_of (drop (i * 3) s)
      ≡ record { key = get_or s (i * 3) 0; mask = get_or s (i * 3 + 1) 0; route = get_or s (i * 3 + 2) 0 } ∷ rows_of (drop ((i + 1) * 3) s)
  unfolding rows_of
  rows_step h =
      let j : ℕ = i * 3 in
      let h₀ : j < length s = omega arith in
      let h₁ : suc j < length s = omega arith in
      let h₂ : suc (suc j) < length s = omega arith in
      let e₁ : suc j ≡ j + 1 = omega arith in
      let e₂ : suc (suc j) ≡ j + 2 = omega arith in
      let e₃ : suc (suc (suc j)) ≡ (i + 1) * 3 = omega arith in
      ap rows_of (drop-cons s j 0 h₀ ∙ ap (λ (l : List ℕ). get_or s j 0 ∷ l) (drop-cons s (suc j) 0 h₁ ∙ ap (λ (l : List ℕ). get_or s (suc j) 0 ∷ l) (drop-cons s (suc (suc j)) 0 h₂)))
      ∙ (λ k. record { key = get_or s j 0; mask = get_or s (e₁ k) 0; route = get_or s (e₂ k) 0 } ∷ rows_of (drop (e₃ k) s))

  pub rows_end : length s / 3 ≤ i → rows_of (drop (i * 3) s) ≡ []
  unfolding rows_of
  rows_end h = none (drop (i * 3) s) (subst (λ (n : ℕ). n < 3) (sym (length-drop (i * 3) s)) (omega arith))
    where
      none : (l : List ℕ) → length l < 3 → rows_of l ≡ []
      none [] h = refl
      none (a ∷ []) h = refl
      none (a ∷ b ∷ []) h = refl
      none (a ∷ b ∷ c ∷ l) h = absurd (omega arith)

  module _ (key : ℕ) where
    pub search_here : i * 3 + 2 < length s → matches key (get_or s (i * 3) 0) (get_or s (i * 3 + 1) 0) ≡ true
        → first_match key (rows_of (drop (i * 3) s)) ≡ Some 0
    unfolding first_match
    search_here h m = ap (first_match key) (rows_step h) ∙ simp m

    pub search_on : i * 3 + 2 < length s → matches key (get_or s (i * 3) 0) (get_or s (i * 3 + 1) 0) ≡ false
        → later i (first_match key (rows_of (drop (i * 3) s))) ≡ later (i + 1) (first_match key (rows_of (drop ((i + 1) * 3) s)))
    unfolding first_match
    search_on h m = ap (λ (l : List Entry). later i (first_match key l)) (rows_step h) ∙ simp m (later_next i (first_match key (rows_of (drop ((i + 1) * 3) s))))

    pub search_end : length s / 3 ≤ i → first_match key (rows_of (drop (i * 3) s)) ≡ None
    unfolding first_match
    search_end h = ap (first_match key) (rows_end h)

    -- what is found from a row that matches, from one that does not, and past the last
    pub from_here : i * 3 + 2 < length s → matches key (get_or s (i * 3) 0) (get_or s (i * 3 + 1) 0) ≡ true → Some i ≡ found_from key s i
    from_here h m = let e : i + 0 ≡ i = omega arith in simp (search_here h m, e)

    pub from_next : (k : ℕ) → k ≡ i + 1 → i * 3 + 2 < length s → matches key (get_or s (i * 3) 0) (get_or s (i * 3 + 1) 0) ≡ false
        → found_from key s i ≡ found_from key s k
    from_next k e h m = search_on h m ∙ ap (found_from key s) (sym e)

    pub from_end : length s / 3 ≤ i → None ≡ found_from key s i
    from_end h = simp (search_end h)

-- ---- the row that a search names is there

next_at : (f : Option ℕ) (n : ℕ) → next f ≡ Some n → (m : ℕ) × (n ≡ suc m) × (f ≡ Some m)
next_at (Some m) n e = (m, cc, refl)
next_at None n e = let z : ◌≡◌ {A = ℕ} 0 1 = cc in absurd (omega arith)

abbrev Row-there : List ℕ → ℕ → Type 0
unfolding rows_of
Row-there s n = (n * 3 + 2 < length s) × (route_at (rows_of s) n ≡ get_or s (n * 3 + 2) 0)

pub match_row : (key : ℕ) (s : List ℕ) (n : ℕ) → first_match key (rows_of s) ≡ Some n → (n * 3 + 2 < length s) × (route_at (rows_of s) n ≡ get_or s (n * 3 + 2) 0)
unfolding rows_of first_match
match_row key [] n e = let z : ◌≡◌ {A = ℕ} 0 1 = cc in absurd (omega arith)
match_row key (k ∷ []) n e = let z : ◌≡◌ {A = ℕ} 0 1 = cc in absurd (omega arith)
match_row key (k ∷ m ∷ []) n e = let z : ◌≡◌ {A = ℕ} 0 1 = cc in absurd (omega arith)
match_row key (k ∷ m ∷ r ∷ rest) n e = go (matches key k m) refl (λ i h. match_row key rest i h)
  where
    here : (i : ℕ) → Some 0 ≡ Some i → Row-there (k ∷ m ∷ r ∷ rest) i
    here i z = let o : 0 ≡ i = cc in subst (λ (j : ℕ). Row-there (k ∷ m ∷ r ∷ rest) j) o (omega arith, refl)

    on : (i : ℕ) → Row-there rest i → Row-there (k ∷ m ∷ r ∷ rest) (suc i)
    on i h =
        let three : suc i * 3 + 2 ≡ suc (suc (suc (i * 3 + 2))) = omega arith in
        (omega (arith, h.0), h.1 ∙ ap (λ (j : ℕ). get_or (k ∷ m ∷ r ∷ rest) j 0) (sym three))

    go : (b : Bool) → matches key k m ≡ b → ((i : ℕ) → first_match key (rows_of rest) ≡ Some i → Row-there rest i) → Row-there (k ∷ m ∷ r ∷ rest) n
    go true b ih = here n (simp b at e)
    go false b ih =
        let found = next_at (first_match key (rows_of rest)) n (simp b at e) in
        subst (λ (j : ℕ). Row-there (k ∷ m ∷ r ∷ rest) j) (sym found.1) (on found.0 (ih found.0 found.2))
