-- The rows and starts of a tree are acceptable to injection and round: routes of 26 bits, starts that never fall, at most one row a chip.
use native.Mathlib.Decide.{dec_lt}
use Prim.Native.Nat.{ℕ, zero, suc, ◌+◌, ◌-◌, ◌*◌, ◌/◌, ◌%◌, ◌≤◌, ◌<◌}
use mathlib.Core.Path.{◌≡◌, refl, sym, ap, subst, ◌∙◌}
use mathlib.Core.Bool.{Bool, true, false, cond, ◌&&◌}
use mathlib.Core.List.{List, [], ◌∷◌, ◌++◌}
use native.Mathlib.Omega.{arith}
use borrow.Author.Tests.{lt-ltb, le-leb, eq-eqb}
use lib.Dec.{eqb}
use lib.ListN.{length, get_or, take, drop, get_or-append}
use lib.Seq.{take_at, get_or_at}
use Rattle.lists.specs.Lists.{All, up_to}
use Rattle.lists.proofs.Alls.{all_or}
use Rattle.tables.specs.Rows.{rows_of}
use Rattle.tables.specs.Accept.{route_fine, all_routes, routes_fine, never_falling, rows_few, starts_fine}
use Rattle.tree.specs.Growing.{Grown, targets_of}
use Rattle.tree.specs.Rows.{has_row, route_at, start_of, row_of, rows_below, starts_below}
use Rattle.tree.specs.Call.{grown_tree, refusal_of, tree_of, rows_after, starts_after}
use Rattle.tree.specs.Promises.{Acceptable}
use Rattle.tree.proofs.Answers as answers
use Rattle.tree.proofs.LowRoutes.{RouteLow, tree_low}
use Rattle.tree.proofs.RowByRow.{start_more, rows_long, starts_long}

-- ---- routes

routes_append : (m : ℕ) (xs ys : List ℕ) → length xs ≡ m * 3 → all_routes (rows_of (xs ++ ys)) ≡ (all_routes (rows_of xs) && all_routes (rows_of ys))
unfolding rows_of all_routes
routes_append zero [] ys e = refl
routes_append zero (a ∷ xs) ys e = absurd (omega arith)
routes_append (suc m) [] ys e = absurd (omega arith)
routes_append (suc m) (a ∷ []) ys e = absurd (omega arith)
routes_append (suc m) (a ∷ b ∷ []) ys e = absurd (omega arith)
routes_append (suc m) (a ∷ b ∷ c ∷ xs) ys e = go (route_fine c) (routes_append m xs ys (omega arith))
  where
    go : (f : Bool) → all_routes (rows_of (xs ++ ys)) ≡ (all_routes (rows_of xs) && all_routes (rows_of ys)) → (f && all_routes (rows_of (xs ++ ys))) ≡ ((f && all_routes (rows_of xs)) && all_routes (rows_of ys))
    go true h = h
    go false h = refl

module _ (t : Grown) (key mask : ℕ) (low : All RouteLow t.routes) where
  row_fine : (k : ℕ) → all_routes (rows_of (row_of t key mask k)) ≡ true
  unfolding rows_of all_routes
  row_fine k = go (has_row t k)
    where
      go : (b : Bool) → all_routes (rows_of (cond b (key ∷ mask ∷ route_at t k ∷ []) [])) ≡ true
      go true = simp (lt-ltb (route_at t k) 67108864 (all_or RouteLow t.routes k 0 low (omega arith)))
      go false = refl

  all_fine : (n : ℕ) → all_routes (rows_of (rows_below t key mask n)) ≡ true
  unfolding up_to rows_of all_routes
  all_fine zero = refl
  all_fine (suc n) =
      routes_append (start_of t n) (rows_below t key mask n) (row_of t key mask n) (rows_long t key mask n)
      ∙ (λ i. all_fine n i && row_fine n i)

  pub routes_fine_lem : (n : ℕ) → routes_fine (rows_below t key mask n) ≡ true
  routes_fine_lem n =
      let whole : length (rows_below t key mask n) % 3 ≡ 0 = omega (arith, rows_long t key mask n) in
      λ i. eq-eqb _ _ whole i && all_fine n i

-- ---- starts

never_falls : (l : List ℕ) → ((i : ℕ) → i + 1 < length l → get_or l i 0 ≤ get_or l (i + 1) 0) → never_falling l ≡ true
unfolding never_falling
never_falls [] h = refl
never_falls (a ∷ []) h = refl
never_falls (a ∷ b ∷ l) h =
    let first : a ≤ b = h 0 (omega arith) in
    λ i. le-leb a b first i && never_falls (b ∷ l) (λ k s. subst (λ (m : ℕ). get_or (b ∷ l) k 0 ≤ get_or (a ∷ b ∷ l) m 0) (later k) (h (suc k) (omega arith))) i
  where
    later : (k : ℕ) → suc k + 1 ≡ suc (k + 1)
    later k = omega arith

few_each : (l : List ℕ) → ((i : ℕ) → i + 1 < length l → get_or l (i + 1) 0 - get_or l i 0 ≤ 1024) → rows_few l ≡ true
unfolding rows_few
few_each [] h = refl
few_each (a ∷ []) h = refl
few_each (a ∷ b ∷ l) h =
    let first : b - a ≤ 1024 = h 0 (omega arith) in
    λ i. le-leb (b - a) 1024 first i && few_each (b ∷ l) (λ k s. subst (λ (m : ℕ). get_or (a ∷ b ∷ l) m 0 - get_or (b ∷ l) k 0 ≤ 1024) (later k) (h (suc k) (omega arith))) i
  where
    later : (k : ℕ) → suc k + 1 ≡ suc (k + 1)
    later k = omega arith

module _ (t : Grown) where
  start_at : (n k : ℕ) → k < n → get_or (starts_below t n) k 0 ≡ start_of t k
  unfolding up_to
  start_at zero k h = absurd (omega arith)
  start_at (suc n) k h = go (dec_lt k n) (start_at n k)
    where
      go : Dec (k < n) → (k < n → get_or (starts_below t n) k 0 ≡ start_of t k) → get_or (starts_below t n ++ start_of t n ∷ []) k 0 ≡ start_of t k
      go (yes l) before = get_or-append (starts_below t n) (start_of t n ∷ []) 0 k (omega (arith, starts_long t n)) ∙ before l
      go (no l) before =
          let e : n ≡ k = omega arith in
          get_or_at (starts_below t n) (start_of t n) [] 0 k (starts_long t n ∙ e) ∙ ap (start_of t) e

  one_more : (k : ℕ) → (start_of t k ≤ start_of t (k + 1)) × (start_of t (k + 1) - start_of t k ≤ 1024)
  one_more k = go (has_row t k) (start_more t k)
    where
      go : (b : Bool) → start_of t (k + 1) ≡ start_of t k + cond b 1 0 → (start_of t k ≤ start_of t (k + 1)) × (start_of t (k + 1) - start_of t k ≤ 1024)
      go true e = (omega arith, omega arith)
      go false e = (omega arith, omega arith)

  pub starts_fine_lem : (n rows : ℕ) → rows ≡ start_of t n → starts_fine (starts_below t (n + 1)) n rows ≡ true
  unfolding start_of
  starts_fine_lem n rows e =
      let l = starts_below t (n + 1) in
      let at : (i : ℕ) → i + 1 < length l → (get_or l i 0 ≡ start_of t i) × (get_or l (i + 1) 0 ≡ start_of t (i + 1)) =
      λ i h. (start_at (n + 1) i (omega (arith, starts_long t (n + 1))), start_at (n + 1) (i + 1) (omega (arith, starts_long t (n + 1)))) in
      let falls = never_falls l (λ i h. omega (arith, at i h, one_more i)) in
      let few = few_each l (λ i h. omega (arith, at i h, one_more i)) in
      λ i.
      (eq-eqb (length l) (n + 1) (starts_long t (n + 1)) i && eq-eqb (get_or l 0 0) 0 (start_at (n + 1) 0 (omega arith)) i && eq-eqb (get_or l n 0) rows (start_at (n + 1) n (omega arith) ∙ sym e) i && falls i)
      && few i

-- ---- what an accepted call writes

pub acceptable : Acceptable
acceptable width height source key mask words rows starts none =
    let t = grown_tree width height source key mask words in
    let all = height * width in
    let fine = answers.accepted width height source key mask words rows starts none in
    let on : eqb (refusal_of width height source key mask words rows starts) 0 ≡ true = eq-eqb _ _ none in
    let low = tree_low width height source (targets_of words) fine.sets in
    let below = rows_below t key mask all in
    let count : (tree_of width height source key mask words rows starts).rows ≡ start_of t all = simp on in
    let long : length below ≡ (tree_of width height source key mask words rows starts).rows * 3 = rows_long t key mask all ∙ ap (λ (n : ℕ). n * 3) (sym count) in
    let after : rows_after width height source key mask words rows starts ≡ below ++ drop (length below) rows = simp on in
    let written = ap (take ((tree_of width height source key mask words rows starts).rows * 3)) after ∙ take_at below (drop (length below) rows) _ long in
    let begun : starts_after width height source key mask words rows starts ≡ starts_below t (all + 1) = simp on in
    let many : length below / 3 ≡ start_of t all = omega (arith, rows_long t key mask all) in
    (ap length written ∙ long, (ap routes_fine written ∙ routes_fine_lem t key mask low all, (λ i. starts_fine (begun i) all (length (written i) / 3)) ∙ starts_fine_lem t all (length below / 3) many))
