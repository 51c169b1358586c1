-- The place that is told with each of 15 to 18 is exact. A test that walks a list is one of each number in it, or of each and the next, so that it fails exactly where one of them does.
use mathlib.Core.Path.{◌≡◌, refl, sym, ap, ◌∙◌}
use mathlib.Core.Bool.{Bool, true, false, cond, ◌&&◌, not, and-eq-true_iff, and-false, false≢true}
use mathlib.Core.List.{List, [], ◌∷◌}
use Prim.Native.Nat.{ℕ, zero, suc, ◌+◌, ◌-◌, ◌/◌, ◌%◌, ◌≤◌, ◌<◌}
use native.Mathlib.Omega.{arith}
use native.Mathlib.Numerals.{add-one}
use lib.Dec.{eqb, ltb, leb}
use lib.ListN.{length, get_or}
use borrow.Author.Tests.{leb-true, le-leb, le-ltb, ltb-false, eqb-true, eq-eqb, ne_eqb}
use Rattle.lists.specs.Firsts.{Exact}
use Rattle.lists.proofs.Bools.{neither}
use Rattle.lists.proofs.Firsts.{exact, exact_fine, exact_not, lt_or_ge}
use mathlib.Core.Logic.{⊎_elim}
use Rattle.tables.specs.Rows.{Entry, rows_of, route_at, blank_entry}
use Rattle.tables.specs.Accept.{route_fine, few_rows, all_routes, routes_fine, all_fixed, fixed_fine, never_falling, starts_right, rows_few}
use Rattle.tables.specs.Places.{start_wrong, starts_place, crowded, crowd_place, row_wrong, fixed_wrong, PlacesExact}
use Rattle.tables.proofs.RowsByNumber.{rows_many}
use Rattle.tables.proofs.StartsFound.{one_less, not_first}

-- ---- each of a list

module _ {A : Type 0} (g : A → Bool) (blank : A) where
  unfoldable every : List A → Bool
  every [] = true
  every (x ∷ xs) = g x && every xs

  every_each : (s : List A) → every s ≡ true → (i : ℕ) → i < length s → g (get_or s i blank) ≡ true
  unfolding every
  every_each [] e i h = absurd (omega arith)
  every_each (x ∷ xs) e zero h = ((and-eq-true_iff (g x) (every xs)).0 e).0
  every_each (x ∷ xs) e (suc i) h = every_each xs ((and-eq-true_iff (g x) (every xs)).0 e).1 i (omega arith)

  each_every : (s : List A) → ((i : ℕ) → i < length s → g (get_or s i blank) ≡ true) → every s ≡ true
  unfolding every
  each_every [] e = refl
  each_every (x ∷ xs) e = (and-eq-true_iff (g x) (every xs)).1 (e 0 (omega arith), each_every xs (λ i h. e (suc i) (omega arith)))

-- ---- each and the next

module _ (g : ℕ → ℕ → Bool) where
  unfoldable pairwise : List ℕ → Bool
  pairwise [] = true
  pairwise (a ∷ []) = true
  pairwise (a ∷ b ∷ rest) = g a b && pairwise (b ∷ rest)

  pairwise_each : (s : List ℕ) → pairwise s ≡ true → (i : ℕ) → suc i < length s → g (get_or s i 0) (get_or s (suc i) 0) ≡ true
  unfolding pairwise
  pairwise_each [] e i h = absurd (omega arith)
  pairwise_each (a ∷ []) e i h = absurd (omega arith)
  pairwise_each (a ∷ b ∷ rest) e zero h = ((and-eq-true_iff (g a b) (pairwise (b ∷ rest))).0 e).0
  pairwise_each (a ∷ b ∷ rest) e (suc i) h = pairwise_each (b ∷ rest) ((and-eq-true_iff (g a b) (pairwise (b ∷ rest))).0 e).1 i (omega arith)

  each_pairwise : (s : List ℕ) → ((i : ℕ) → suc i < length s → g (get_or s i 0) (get_or s (suc i) 0) ≡ true) → pairwise s ≡ true
  unfolding pairwise
  each_pairwise [] e = refl
  each_pairwise (a ∷ []) e = refl
  each_pairwise (a ∷ b ∷ rest) e = (and-eq-true_iff (g a b) (pairwise (b ∷ rest))).1 (e 0 (omega arith), each_pairwise (b ∷ rest) (λ i h. e (suc i) (omega arith)))

-- ---- the tests are such

fixed_every : (s : List ℕ) → all_fixed s ≡ every route_fine 0 s
unfolding all_fixed every
fixed_every [] = refl
fixed_every (x ∷ xs) = ap (λ (b : Bool). route_fine x && b) (fixed_every xs)

abbrev row_fine : Entry → Bool
row_fine r = route_fine r.route

routes_every : (rs : List Entry) → all_routes rs ≡ every row_fine blank_entry rs
unfolding all_routes every
routes_every [] = refl
routes_every (r ∷ rs) = ap (λ (b : Bool). row_fine r && b) (routes_every rs)

falling_pairwise : (s : List ℕ) → never_falling s ≡ pairwise leb s
unfolding never_falling pairwise
falling_pairwise [] = refl
falling_pairwise (a ∷ []) = refl
falling_pairwise (a ∷ b ∷ rest) = ap (λ (t : Bool). leb a b && t) (falling_pairwise (b ∷ rest))

abbrev few_between : ℕ → ℕ → Bool
few_between a b = few_rows (b - a)

few_pairwise : (s : List ℕ) → rows_few s ≡ pairwise few_between s
unfolding rows_few pairwise
few_pairwise [] = refl
few_pairwise (a ∷ []) = refl
few_pairwise (a ∷ b ∷ rest) = ap (λ (t : Bool). few_between a b && t) (few_pairwise (b ∷ rest))

off : (b : Bool) → not b ≡ false → b ≡ true
off true e = refl
off false e = sym e

-- ---- 16

pub crowd_exact : (starts : List ℕ) (chips : ℕ) → length starts ≡ chips + 1 → Exact (crowded starts) chips (rows_few starts)
crowd_exact starts chips long =
    exact (crowded starts) chips (rows_few starts)
    (λ e j h. rw add-one (ap not (pairwise_each few_between starts (sym (few_pairwise starts) ∙ e) j (omega arith))))
    (λ e. few_pairwise starts ∙ each_pairwise few_between starts (λ j h. off _ (rw add-one at (e j (omega arith)))))

-- ---- 18

pub fixed_exact : (fixed : List ℕ) (chips : ℕ) → 1 ≤ chips → Exact (fixed_wrong fixed chips) chips (fixed_fine fixed chips)
fixed_exact fixed chips some = go (eqb (length fixed) chips) refl
  where
    go : (b : Bool) → eqb (length fixed) chips ≡ b → Exact (λ c. cond b (not (route_fine (get_or fixed c 0))) (eqb c 0)) chips (b && all_fixed fixed)
    go true e =
        exact _ chips (all_fixed fixed)
        (λ f j h. ap not (every_each route_fine 0 fixed (sym (fixed_every fixed) ∙ f) j (omega (arith, eqb-true (length fixed) chips e))))
        (λ f. fixed_every fixed ∙ each_every route_fine 0 fixed (λ j h. off _ (f j (omega (arith, eqb-true (length fixed) chips e)))))
    go false e = exact _ chips false (λ f. absurd (false≢true f)) (λ f. sym (f 0 (omega arith)))

-- ---- 17

pub route_exact : (s : List ℕ) → Exact (row_wrong s) (length s / 3 + 1) (routes_fine s)
route_exact s = go (eqb (length s % 3) 0) refl
  where
    count : length (rows_of s) ≡ length s / 3
    count = rows_many s

    wrong : Bool → ℕ → Bool
    wrong b i = cond (eqb i (length s / 3)) (not b) (not (route_fine (route_at (rows_of s) i)))

    on_row : (b : Bool) (i : ℕ) → i < length s / 3 → wrong b i ≡ not (route_fine (route_at (rows_of s) i))
    on_row b i h = simp (ne_eqb i (length s / 3) (λ z. omega arith))

    go : (b : Bool) → eqb (length s % 3) 0 ≡ b → Exact (wrong b) (length s / 3 + 1) (b && all_routes (rows_of s))
    go true e =
        exact (wrong true) (length s / 3 + 1) (all_routes (rows_of s))
        (λ f j h. ⊎_elim
        (λ (l : j < length s / 3). on_row true j l ∙ ap not (every_each row_fine blank_entry (rows_of s) (sym (routes_every (rows_of s)) ∙ f) j (omega (arith, count))))
        (λ (l : length s / 3 ≤ j). simp (eq-eqb j (length s / 3) (omega arith)))
        (lt_or_ge j (length s / 3)))
        (λ f. routes_every (rows_of s) ∙ each_every row_fine blank_entry (rows_of s) (λ j h. off _ (sym (on_row true j (omega (arith, count))) ∙ f j (omega (arith, count)))))
    go false e =
        exact (wrong false) (length s / 3 + 1) false (λ f. absurd (false≢true f))
        (λ f. sym (sym (simp (eq-eqb (length s / 3) (length s / 3) refl)) ∙ f (length s / 3) (omega arith)))

-- ---- 15

module _ (starts : List ℕ) (chips rows : ℕ) (some : 1 ≤ chips) where
  abbrev long : Bool
  long = eqb (length starts) (chips + 1)

  abbrev first : Bool
  first = eqb (get_or starts 0 0) 0

  abbrev last : Bool
  last = eqb (get_or starts chips 0) rows

  right_none : starts_right starts chips rows ≡ true → (j : ℕ) → j < chips + 1 → start_wrong starts chips rows j ≡ false
  right_none e zero h =
      let t = (and-eq-true_iff (long && first && last) (never_falling starts)).0 e in
      ap not ((and-eq-true_iff (long && first) last).0 t.0).0
  right_none e (suc q) h =
      let t = (and-eq-true_iff (long && first && last) (never_falling starts)).0 e in
      let u = (and-eq-true_iff (long && first) last).0 t.0 in
      let many : length starts ≡ chips + 1 = eqb-true _ _ ((and-eq-true_iff long first).0 u.0).0 in
      let up : get_or starts q 0 ≤ get_or starts (suc q) 0 = leb-true _ _ (pairwise_each leb starts (sym (falling_pairwise starts) ∙ t.1) q (omega arith)) in
      simp (not_first q, one_less q, le-ltb (get_or starts (suc q) 0) (get_or starts q 0) up, u.1, and-false)

  none_right : ((j : ℕ) → j < chips + 1 → start_wrong starts chips rows j ≡ false) → starts_right starts chips rows ≡ true
  none_right none =
      let begin : (long && first) ≡ true = off (long && first) (none 0 (omega arith)) in
      let many : length starts ≡ chips + 1 = eqb-true _ _ ((and-eq-true_iff long first).0 begin).0 in
      let end : last ≡ true =
      off last (neither (ltb (get_or starts chips 0) (get_or starts (chips - 1) 0)) (not last) (simp (ne_eqb chips 0 (λ z. omega arith), eq-eqb chips chips refl) at (none chips (omega arith)))).1 in
      let up : never_falling starts ≡ true =
      falling_pairwise starts ∙ each_pairwise leb starts (λ i h. le-leb (get_or starts i 0) (get_or starts (suc i) 0) (ltb-false (get_or starts (suc i) 0) (get_or starts i 0) (neither (ltb (get_or starts (suc i) 0) (get_or starts i 0)) (eqb (suc i) chips && not last) (simp (not_first i, one_less i) at (none (suc i) (omega arith)))).0)) in
      (and-eq-true_iff (long && first && last) (never_falling starts)).1 ((and-eq-true_iff (long && first) last).1 (begin, end), up)

  pub starts_exact : Exact (start_wrong starts chips rows) (chips + 1) (starts_right starts chips rows)
  starts_exact = exact _ (chips + 1) (starts_right starts chips rows) right_none none_right

  -- so where a walk stops says whether they are right
  pub right_told : (p : ℕ) → p ≡ starts_place starts chips rows → chips < p → starts_right starts chips rows ≡ true
  right_told p e h = exact_fine (start_wrong starts chips rows) (chips + 1) _ starts_exact (omega arith)

  pub wrong_told : (p : ℕ) → p ≡ starts_place starts chips rows → p ≤ chips → starts_right starts chips rows ≡ false
  wrong_told p e h = exact_not (start_wrong starts chips rows) (chips + 1) _ starts_exact (omega arith)

  pub right_long : starts_right starts chips rows ≡ true → length starts ≡ chips + 1
  right_long e =
      let t = (and-eq-true_iff (long && first && last) (never_falling starts)).0 e in
      eqb-true _ _ ((and-eq-true_iff long first).0 ((and-eq-true_iff (long && first) last).0 t.0).0).0

module _ (starts : List ℕ) (chips : ℕ) (long : length starts ≡ chips + 1) where
  pub few_told : (c : ℕ) → c ≡ crowd_place starts chips → chips ≤ c → rows_few starts ≡ true
  few_told c e h = exact_fine (crowded starts) chips _ (crowd_exact starts chips long) (omega arith)

  pub many_told : (c : ℕ) → c ≡ crowd_place starts chips → c < chips → rows_few starts ≡ false
  many_told c e h = exact_not (crowded starts) chips _ (crowd_exact starts chips long) (omega arith)

pub places_exact : PlacesExact
places_exact = record { starts = starts_exact; crowd = crowd_exact; routes = route_exact; fixed = fixed_exact }
