-- Rows written behind those before, and starts, chip by chip.
use Prim.Native.Nat.{ℕ, zero, suc, ◌+◌, ◌*◌, ◌≤◌, ◌<◌}
use mathlib.Core.Path.{◌≡◌, refl, sym, ap, ◌∙◌}
use mathlib.Core.Bool.{Bool, true, false, cond, true≢false, false≢true}
use mathlib.Core.List.{List, [], ◌∷◌, ◌++◌, append_assoc, append-nil}
use native.Mathlib.Omega.{arith}
use native.Mathlib.Numerals.{add-one}
use lib.ListN.{length, get_or, set, take, drop, length-append, take-append-drop, drop_of_length-le}
use lib.Seq.{sets-eq, take_at, drop_at, drop-drop, drop-cons, set_at}
use Rattle.lists.specs.Lists.{up_to}
use Rattle.tree.specs.Growing.{Grown}
use Rattle.tree.specs.Rows.{needs_row, entered_at, route_at, has_row, start_of, row_of, rows_below, starts_below}
use Rattle.tree.specs.Walking.{with_row}

module _ (key mask entered route count : ℕ) (rows : List ℕ) where
  pub no_row : needs_row entered route ≡ false → (count ≡ count + cond (needs_row entered route) 1 0) × (rows ≡ with_row key mask entered route count rows)
  no_row e = (simp e (omega arith), go (needs_row entered route) e)
    where
      go : (b : Bool) → b ≡ false → rows ≡ take (count * 3) rows ++ (cond b (key ∷ mask ∷ route ∷ []) [] ++ drop (count * 3 + length (cond b (key ∷ mask ∷ route ∷ []) [])) rows)
      go true f = absurd (true≢false f)
      go false f =
          let none : count * 3 + 0 ≡ count * 3 = omega arith in
          sym (ap (λ (n : ℕ). take (count * 3) rows ++ drop n rows) none ∙ take-append-drop (count * 3) rows)

  pub one_row : needs_row entered route ≡ true → count * 3 + 3 ≤ length rows
      → (count + 1 ≡ count + cond (needs_row entered route) 1 0) × (set (set (set rows (count * 3) key) (count * 3 + 1) mask) (count * 3 + 2) route ≡ with_row key mask entered route count rows)
  one_row e h = (simp e, written (count * 3) h ∙ go (needs_row entered route) e)
    where
      written : (n : ℕ) → n + 3 ≤ length rows → set (set (set rows n key) (n + 1) mask) (n + 2) route ≡ take n rows ++ ((key ∷ mask ∷ route ∷ []) ++ drop (n + 3) rows)
      written n l =
          (λ i. set (set (set rows n key) (one n i) mask) (two n i) route) ∙ sets-eq (key ∷ mask ∷ route ∷ []) rows n l ∙ append_assoc (take n rows) (key ∷ mask ∷ route ∷ []) (drop (n + 3) rows)
        where
          one : (n : ℕ) → n + 1 ≡ suc n
          one n = omega arith

          two : (n : ℕ) → n + 2 ≡ suc (suc n)
          two n = omega arith

      go : (b : Bool) → b ≡ true
          → take (count * 3) rows ++ ((key ∷ mask ∷ route ∷ []) ++ drop (count * 3 + 3) rows)
          ≡ take (count * 3) rows ++ (cond b (key ∷ mask ∷ route ∷ []) [] ++ drop (count * 3 + length (cond b (key ∷ mask ∷ route ∷ []) [])) rows)
      go true f = refl
      go false f = absurd (false≢true f)

-- ---- all chips below a number

module _ (t : Grown) where
  pub few_rows_lem : (k : ℕ) → start_of t k ≤ k
  unfolding start_of
  few_rows_lem zero = omega arith
  few_rows_lem (suc k) = go (has_row t k) (few_rows_lem k)
    where
      go : (b : Bool) → start_of t k ≤ k → start_of t k + cond b 1 0 ≤ suc k
      go true h = omega arith
      go false h = omega arith

  pub start_more : (k : ℕ) → start_of t (k + 1) ≡ start_of t k + cond (has_row t k) 1 0
  unfolding start_of
  start_more k = ap (start_of t) (add-one k)

  module _ (key mask : ℕ) where
    below_more : (k : ℕ) → rows_below t key mask (k + 1) ≡ rows_below t key mask k ++ row_of t key mask k
    unfolding up_to
    below_more k = ap (rows_below t key mask) (add-one k)

    pub rows_long : (k : ℕ) → length (rows_below t key mask k) ≡ start_of t k * 3
    unfolding up_to start_of
    rows_long zero = refl
    rows_long (suc k) = length-append (rows_below t key mask k) (row_of t key mask k) ∙ go (has_row t k) (rows_long k)
      where
        go : (b : Bool) → length (rows_below t key mask k) ≡ start_of t k * 3
            → length (rows_below t key mask k) + length (cond b (key ∷ mask ∷ route_at t k ∷ []) []) ≡ (start_of t k + cond b 1 0) * 3
        go true h = omega arith
        go false h = omega arith

    pub rows_more : (k : ℕ) (l : List ℕ)
        → with_row key mask (entered_at t k) (route_at t k) (start_of t k) (rows_below t key mask k ++ drop (length (rows_below t key mask k)) l)
        ≡ rows_below t key mask (k + 1) ++ drop (length (rows_below t key mask (k + 1))) l
    rows_more k l =
        let xs = rows_below t key mask k in
        let row = row_of t key mask k in
        let n = start_of t k * 3 in
        let tail = drop (length xs) l in
        let at : length xs ≡ n = rows_long k in
        let front : take n (xs ++ tail) ≡ xs = take_at xs tail n at in
        let back : drop (n + length row) (xs ++ tail) ≡ drop (length row) tail =
        sym (drop-drop (length row) n (xs ++ tail)) ∙ ap (drop (length row)) (drop_at xs tail n at) in
        let far : drop (length row) tail ≡ drop (length (xs ++ row)) l = drop-drop (length row) (length xs) l ∙ ap (λ (m : ℕ). drop m l) (sym (length-append xs row)) in
        (λ i. front i ++ (row ++ (back ∙ far) i)) ∙ sym (append_assoc xs row (drop (length (xs ++ row)) l))
        ∙ sym (ap (λ (r : List ℕ). r ++ drop (length r) l) (below_more k))

  pub starts_long : (k : ℕ) → length (starts_below t k) ≡ k
  unfolding up_to
  starts_long zero = refl
  starts_long (suc k) = length-append (starts_below t k) (start_of t k ∷ []) ∙ omega (arith, starts_long k)

  below_starts : (k : ℕ) → starts_below t (k + 1) ≡ starts_below t k ++ (start_of t k ∷ [])
  unfolding up_to
  below_starts k = ap (starts_below t) (add-one k)

  pub starts_more : (k : ℕ) (l : List ℕ) (start : ℕ) → k < length l → start ≡ start_of t k → set (starts_below t k ++ drop k l) k start ≡ starts_below t (k + 1) ++ drop (k + 1) l
  starts_more k l start h e =
      (λ i. set (starts_below t k ++ drop-cons l k 0 h i) k (e i))
      ∙ set_at (starts_below t k) (get_or l k 0) (drop (suc k) l) (start_of t k) k (starts_long k)
      ∙ sym (append_assoc (starts_below t k) (start_of t k ∷ []) (drop (suc k) l))
      ∙ (λ i. sym (below_starts k) i ++ drop (sym (add-one k) i) l)

  pub starts_whole : (k : ℕ) (l : List ℕ) → length l ≡ k → starts_below t k ++ drop k l ≡ starts_below t k
  starts_whole k l e =
      let past : length l ≤ k = omega arith in
      ap (λ (r : List ℕ). starts_below t k ++ r) (drop_of_length-le l past) ∙ append-nil (starts_below t k)
