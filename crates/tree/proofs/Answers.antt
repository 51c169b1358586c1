-- What the call answers and writes, refused and accepted; and what an accepted call may rely on.
use Prim.Native.Nat.{ℕ, ◌+◌, ◌*◌, ◌≤◌, ◌<◌}
use mathlib.Core.Path.{◌≡◌, refl, ap, ◌∙◌}
use mathlib.Core.Bool.{true, false, not, and-eq-true_iff}
use mathlib.Core.List.{List, [], ◌++◌}
use borrow.Author.Tests.{eq-eqb, ne_eqb, eqb-true, ltb-true, ltb-false, not-false}
use lib.Dec.{eqb, ltb}
use lib.ListN.{length, drop}
use Rattle.lists.proofs.Bools.{neither}
use Rattle.packet.proofs.First.{not_refused}
use Rattle.tables.specs.Sizes.{size_fine}
use Rattle.tree.specs.declared.Tree.{Tree}
use Rattle.tree.specs.Growing.{Grown, targets_of}
use Rattle.tree.specs.Rows.{start_of, rows_below, starts_below}
use Rattle.tree.specs.Call.{all_there, named_again, sets_fine, tree_refusals, grown_tree, refusal_of, tree_of, rows_after, starts_after}

module _ (width height source key mask : ℕ) (words rows starts : List ℕ) where
  abbrev refusal : ℕ
  refusal = refusal_of width height source key mask words rows starts

  pub record Accepted : Type 0 where
    pub size : size_fine width height ≡ true
    pub source_there : source < height * width
    pub targets_there : all_there (height * width) (targets_of words) ≡ true
    pub once : named_again [] (targets_of words) ≡ false
    pub sets : sets_fine (targets_of words) ≡ true
    pub rows_room : 3 * (height * width) ≤ length rows
    pub starts_room : length starts ≡ height * width + 1

  pub accepted : refusal ≡ 0 → Accepted
  accepted e =
      let off = not_refused (tree_refusals width height source key mask words (length rows) (length starts)) refl e in
      let there = (and-eq-true_iff (ltb source (height * width)) (all_there (height * width) (targets_of words))).0 (not-false _ (off 19)) in
      let fine = neither (named_again [] (targets_of words)) (not (sets_fine (targets_of words))) (off 20) in
      let room = neither (ltb (length rows) (3 * (height * width))) (not (eqb (length starts) (height * width + 1))) (off 26) in
      record {
        size = not-false _ (off 7);
        source_there = ltb-true source (height * width) there.0;
        targets_there = there.1;
        once = fine.0;
        sets = not-false _ fine.1;
        rows_room = ltb-false (length rows) (3 * (height * width)) room.0;
        starts_room = eqb-true (length starts) (height * width + 1) (not-false _ room.1);
      }

  abbrev Answer : Tree → List ℕ → List ℕ → Type 0
  Answer answer after begun =
      (answer ≡ tree_of width height source key mask words rows starts)
      × ((after ≡ rows_after width height source key mask words rows starts) × (begun ≡ starts_after width height source key mask words rows starts))

  pub refused : (r : ℕ) → r ≡ refusal → (r ≡ 0 → ⊥) → Answer (record { refusal = r; rows = 0 }) rows starts
  refused r e some =
      let off : eqb refusal 0 ≡ false = ne_eqb refusal 0 (λ z. some (e ∙ z)) in
      (simp off (ap (λ (n : ℕ). record { refusal = n; rows = 0 }) e), (simp off, simp off))

  -- a tree that is the grown one, by its rows and starts
  pub answered : (t : Grown) (all count : ℕ) (after begun : List ℕ) → refusal ≡ 0 → t ≡ grown_tree width height source key mask words → all ≡ height * width → count ≡ start_of t all
      → after ≡ rows_below t key mask all ++ drop (length (rows_below t key mask all)) rows → begun ≡ starts_below t (all + 1)
      → Answer (record { refusal = 0; rows = count }) after begun
  answered t all count after begun none is many counted written started =
      let on : eqb refusal 0 ≡ true = eq-eqb refusal 0 none in (
        simp on (ap (λ (n : ℕ). record { refusal = 0; rows = n }) (counted ∙ (λ i. start_of (is i) (many i)))),
        (
          simp on (written ∙ (λ i. rows_below (is i) key mask (many i) ++ drop (length (rows_below (is i) key mask (many i))) rows)),
          simp on (started ∙ (λ i. starts_below (is i) (many i + 1))),
        ),
      )
