-- The rows that a grown tree's tables lend a chip: its own row where it has one, and no other.
use Prim.Native.Nat.{ℕ, suc, ◌+◌, ◌-◌, ◌*◌, ◌<◌}
use mathlib.Core.Path.{◌≡◌, ap, ◌∙◌}
use mathlib.Core.Bool.{Bool, true, false, cond}
use mathlib.Core.List.{List, [], ◌∷◌, ◌++◌}
use native.Mathlib.Omega.{arith}
use lib.Dec.{eqb}
use lib.ListN.{length, get_or, take, drop}
use lib.Seq.{take_at, drop_at}
use borrow.Author.Tests.{eq-eqb}
use Rattle.lists.proofs.UpTo.{rest, upto_split}
use Rattle.mesh.specs.Lending.{Tables, rows_at}
use Rattle.flood.proofs.ChipAfterChip.{at_each}
use Rattle.tree.specs.Growing.{Grown}
use Rattle.tree.specs.Rows.{has_row, route_at, start_of, row_of, rows_below, starts_below}
use Rattle.tree.specs.Call.{tree_of, rows_after}
use Rattle.tree.proofs.RowByRow.{start_more, rows_long}
use Rattle.promises.specs.GrownTree.{Asked, refusal, tree, rows_written, starts_written, Only}

module _ (t : Grown) (key mask n c : ℕ) (there : c < n) where
  row_part : take ((start_of t (c + 1) - start_of t c) * 3) (drop (start_of t c * 3) (rows_below t key mask n)) ≡ row_of t key mask c
  row_part =
      let behind = rest (row_of t key mask) (suc c) (n - suc c) in
      (λ i. take ((start_of t (c + 1) - start_of t c) * 3) (drop (start_of t c * 3) (upto_split (row_of t key mask) c n there i)))
      ∙ ap (take ((start_of t (c + 1) - start_of t c) * 3)) (drop_at (rows_below t key mask c) (row_of t key mask c ++ behind) (start_of t c * 3) (rows_long t key mask c))
      ∙ take_at (row_of t key mask c) behind ((start_of t (c + 1) - start_of t c) * 3) (go (has_row t c) (start_more t c))
    where
      go : (b : Bool) → start_of t (c + 1) ≡ start_of t c + cond b 1 0 → length (cond b (key ∷ mask ∷ route_at t c ∷ []) []) ≡ (start_of t (c + 1) - start_of t c) * 3
      go true e = omega arith
      go false e = omega arith

module _ (a : Asked) (none : refusal a ≡ 0) where
  abbrev all : ℕ
  all = a.height * a.width

  on : eqb (refusal a) 0 ≡ true
  on = eq-eqb _ _ none

  rows_are : rows_written a ≡ rows_below (tree a) a.key a.mask all
  rows_are =
      let below = rows_below (tree a) a.key a.mask all in
      let count : (tree_of a.width a.height a.source a.key a.mask a.words a.rows a.starts).rows ≡ start_of (tree a) all = simp on in
      let after : rows_after a.width a.height a.source a.key a.mask a.words a.rows a.starts ≡ below ++ drop (length below) a.rows = simp on in
      (λ i. take (count i * 3) (after i)) ∙ take_at below (drop (length below) a.rows) (start_of (tree a) all * 3) (rows_long (tree a) a.key a.mask all)

  starts_are : starts_written a ≡ starts_below (tree a) (all + 1)
  starts_are = simp on

  pub chip_rows : (t : Tables) → Only a t → (c : ℕ) → c < all → rows_at t c ≡ row_of (tree a) a.key a.mask c
  chip_rows t only c there =
      let starts = only.starts ∙ starts_are in
      let here : get_or t.starts c 0 ≡ start_of (tree a) c = ap (λ (l : List ℕ). get_or l c 0) starts ∙ at_each (start_of (tree a)) (all + 1) c (omega arith) in
      let next : get_or t.starts (c + 1) 0 ≡ start_of (tree a) (c + 1) = ap (λ (l : List ℕ). get_or l (c + 1) 0) starts ∙ at_each (start_of (tree a)) (all + 1) (c + 1) (omega arith) in
      (λ i. take ((next i - here i) * 3) (drop (here i * 3) ((only.rows ∙ rows_are) i))) ∙ row_part (tree a) a.key a.mask all c there
