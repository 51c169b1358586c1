-- A group row by row: what one row more adds to it, how many row numbers it has, and that each is a row's.
use Prim.Native.Nat.{ℕ, zero, suc, ◌+◌, ◌≤◌, ◌<◌}
use mathlib.Core.Path.{◌≡◌, refl, ap, ◌∙◌}
use mathlib.Core.Bool.{Bool, true, false, cond}
use mathlib.Core.List.{List, [], ◌∷◌, ◌++◌}
use native.Mathlib.Omega.{arith}
use native.Mathlib.Numerals.{add-one}
use lib.ListN.{length, get_or, take, drop, length-append}
use lib.Seq.{take-suc, take-length, split_at, length-take-le, get_or_at}
use borrow.Author.Tests.{eq-eqb, ne_eqb}
use Rattle.tables.specs.Rows.{Entry, blank_entry}
use Rattle.groups.specs.Groups.{top_of, fixes_top, in_group, group_from, group_of}
use Rattle.groups.specs.Building.{sofar}

from_append : (g i : ℕ) (a b : List Entry) → group_from g i (a ++ b) ≡ group_from g i a ++ group_from g (i + length a) b
unfolding group_from
from_append g i [] b = let e : i ≡ i + 0 = omega arith in ap (λ (k : ℕ). group_from g k b) e
from_append g i (r ∷ a) b = go (in_group g r) (from_append g (suc i) a b ∙ ap (λ (k : ℕ). group_from g (suc i) a ++ group_from g k b) e)
  where
    e : suc i + length a ≡ i + suc (length a)
    e = omega arith

    go : (t : Bool) → group_from g (suc i) (a ++ b) ≡ group_from g (suc i) a ++ group_from g (i + suc (length a)) b
        → cond t (i ∷ group_from g (suc i) (a ++ b)) (group_from g (suc i) (a ++ b))
        ≡ cond t (i ∷ group_from g (suc i) a) (group_from g (suc i) a) ++ group_from g (i + suc (length a)) b
    go true h = ap (λ (l : List ℕ). i ∷ l) h
    go false h = h

pub from_most : (g i : ℕ) (rows : List Entry) → length (group_from g i rows) ≤ length rows
unfolding group_from
from_most g i [] = omega arith
from_most g i (r ∷ rows) = go (in_group g r) (from_most g (suc i) rows)
  where
    go : (t : Bool) → length (group_from g (suc i) rows) ≤ length rows
        → length (cond t (i ∷ group_from g (suc i) rows) (group_from g (suc i) rows)) ≤ suc (length rows)
    go true h = omega arith
    go false h = omega arith

-- every number in a group is a row's
from_below : (g i : ℕ) (rows : List Entry) (k : ℕ) → k < length (group_from g i rows) → get_or (group_from g i rows) k 0 < i + length rows
unfolding group_from
from_below g i [] k h = absurd (omega arith)
from_below g i (r ∷ rows) k h = go (in_group g r) k (from_below g (suc i) rows) h
  where
    go : (t : Bool) (k : ℕ) → ((k : ℕ) → k < length (group_from g (suc i) rows) → get_or (group_from g (suc i) rows) k 0 < suc i + length rows)
        → k < length (cond t (i ∷ group_from g (suc i) rows) (group_from g (suc i) rows))
        → get_or (cond t (i ∷ group_from g (suc i) rows) (group_from g (suc i) rows)) k 0 < i + suc (length rows)
    go true zero ih h = omega arith
    go true (suc k) ih h = omega (arith, ih k (omega arith))
    go false k ih h = omega (arith, ih k h)

module _ (rows : List Entry) (g : ℕ) where
  pub row_below : (k : ℕ) → k < length (group_of rows g) → get_or (group_of rows g) k 0 < length rows
  row_below k h = omega (arith, from_below g 0 rows k h)

  module _ (i : ℕ) (h : i < length rows) where
    front : length (take i rows) ≡ i
    front = length-take-le i rows (omega arith)

    -- row i is in the group, or not
    sofar_next : sofar rows (i + 1) g ≡ cond (in_group g (get_or rows i blank_entry)) (suc (sofar rows i g)) (sofar rows i g)
    unfolding group_from
    sofar_next =
        ap (λ (l : List Entry). length (group_of l g)) (ap (λ (k : ℕ). take k rows) (add-one i) ∙ take-suc rows i blank_entry h)
        ∙ ap length (from_append g 0 (take i rows) (get_or rows i blank_entry ∷ []))
        ∙ length-append (group_of (take i rows) g) (group_from g (0 + length (take i rows)) (get_or rows i blank_entry ∷ []))
        ∙ go (in_group g (get_or rows i blank_entry))
      where
        go : (t : Bool) → sofar rows i g + length (cond t ((0 + length (take i rows)) ∷ []) []) ≡ cond t (suc (sofar rows i g)) (sofar rows i g)
        go true = omega arith
        go false = omega arith

    -- where it is, its number comes next
    pub next_there : in_group g (get_or rows i blank_entry) ≡ true → (sofar rows i g < length (group_of rows g)) × (get_or (group_of rows g) (sofar rows i g) 0 ≡ i)
    unfolding group_from
    next_there e =
        let rest : List ℕ = group_from g (suc i) (drop (suc i) rows) in
        let number : 0 + length (take i rows) ≡ i = omega (arith, front) in
        let whole : group_of rows g ≡ group_of (take i rows) g ++ i ∷ rest =
        ap (λ (l : List Entry). group_of l g) (split_at rows i blank_entry h)
        ∙ from_append g 0 (take i rows) (get_or rows i blank_entry ∷ drop (suc i) rows)
        ∙ ap (λ (k : ℕ). group_of (take i rows) g ++ group_from g k (get_or rows i blank_entry ∷ drop (suc i) rows)) number
        ∙ simp e in (
          omega (arith, ap length whole, length-append (group_of (take i rows) g) (i ∷ rest)),
          ap (λ (l : List ℕ). get_or l (sofar rows i g) 0) whole ∙ get_or_at (group_of (take i rows) g) i rest 0 (sofar rows i g) refl,
        )

    -- it fixes the top byte of this group, or of another, or none
    pub fixed_here : fixes_top (get_or rows i blank_entry) ≡ true → top_of (get_or rows i blank_entry).key ≡ g → in_group g (get_or rows i blank_entry) ≡ true
    fixed_here f e = simp (f, eq-eqb (top_of (get_or rows i blank_entry).key) g e)

    pub sofar_else : fixes_top (get_or rows i blank_entry) ≡ true → (top_of (get_or rows i blank_entry).key ≡ g → ⊥) → sofar rows (i + 1) g ≡ sofar rows i g
    sofar_else f e = sofar_next ∙ simp (f, ne_eqb (top_of (get_or rows i blank_entry).key) g e)

    pub free_here : fixes_top (get_or rows i blank_entry) ≡ false → in_group g (get_or rows i blank_entry) ≡ true
    free_here f = simp f

    pub sofar_here : in_group g (get_or rows i blank_entry) ≡ true → sofar rows (i + 1) g ≡ suc (sofar rows i g)
    sofar_here e = sofar_next ∙ simp e

    pub sofar_more : sofar rows i g ≤ sofar rows (i + 1) g
    sofar_more = go (in_group g (get_or rows i blank_entry)) sofar_next
      where
        go : (t : Bool) → sofar rows (i + 1) g ≡ cond t (suc (sofar rows i g)) (sofar rows i g) → sofar rows i g ≤ sofar rows (i + 1) g
        go true e = omega (arith, e)
        go false e = omega (arith, e)

-- before the first row and behind the last
pub sofar_none : (rows : List Entry) (g : ℕ) → sofar rows 0 g ≡ 0
unfolding group_from
sofar_none rows g = refl

pub sofar_all : (rows : List Entry) (g : ℕ) → sofar rows (length rows) g ≡ length (group_of rows g)
sofar_all rows g = ap (λ (l : List Entry). length (group_of l g)) (take-length rows)

-- as many as there are rows at most
pub sofar_most : (rows : List Entry) (i g : ℕ) → i ≤ length rows → sofar rows i g ≤ i
sofar_most rows i g h = omega (arith, from_most g 0 (take i rows), length-take-le i rows h)
