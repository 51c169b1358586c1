-- The group of a key's top byte finds the row that the whole table finds: a row that is left out fixes another top byte, and cannot match.
use Prim.Native.Nat.{ℕ, suc, ◌+◌, ◌^◌, ◌<◌}
use mathlib.Core.Path.{◌≡◌, refl, sym, ap, ◌∙◌}
use mathlib.Core.Bool.{Bool, true, false, cond, true≢false}
use mathlib.Core.List.{List, [], ◌∷◌}
use native.Mathlib.Omega.{arith}
use native.Mathlib.Nat.{mod-eq_of_lt}
use borrow.Author.Tests.{eqb-true, eqb-false}
use lib.Bits.{bit_and, and_shr, and_mask}
use lib.ListN.{get_or}
use Rattle.std.specs.Prelude.{Option, Some, None}
use Rattle.tables.specs.Rows.{Entry, matches, first_match, next, later, blank_entry}
use Rattle.tables.proofs.RowByRow.{later_zero}
use Rattle.groups.specs.Groups.{top_of, fixes_top, in_group, group_from, first_in}
use Rattle.groups.specs.Promises.{SameRow}

later_next : (i : ℕ) (f : Option ℕ) → later i (next f) ≡ later (suc i) f
later_next i (Some n) = ap Some (omega arith)
later_next i None = refl

-- a row that fixes the top byte and matches has the key's
same_top : (key row mask : ℕ) → key < 2 ^ 32 → top_of mask ≡ 255 → bit_and key mask ≡ row → top_of row ≡ top_of key
same_top key row mask small fixed e =
    let below : top_of key < 2 ^ 8 = omega arith in
    ap top_of (sym e) ∙ and_shr key mask 24 ∙ ap (bit_and (top_of key)) fixed ∙ and_mask (top_of key) 8 ∙ mod-eq_of_lt below

-- so a row that is in another group does not match
left_out : (key : ℕ) (r : Entry) → key < 2 ^ 32 → in_group (top_of key) r ≡ false → matches key r.key r.mask ≡ false
left_out key r small out = go (fixes_top r) refl (matches key r.key r.mask) refl out
  where
    go : (f : Bool) → fixes_top r ≡ f → (m : Bool) → matches key r.key r.mask ≡ m → in_group (top_of key) r ≡ false → m ≡ false
    go f e false m o = refl
    go false e true m o = absurd (true≢false (simp e at o))
    go true e true m o =
        absurd (eqb-false (top_of r.key) (top_of key) (simp e at o) (same_top key r.key r.mask small (eqb-true (top_of r.mask) 255 e) (eqb-true (bit_and key r.mask) r.key m)))

-- the rows from the i-th on
from : (key : ℕ) → key < 2 ^ 32 → (all rows : List Entry) (i : ℕ) → ((j : ℕ) → get_or all (i + j) blank_entry ≡ get_or rows j blank_entry)
    → first_in key all (group_from (top_of key) i rows) ≡ later i (first_match key rows)
unfolding group_from first_in first_match
from key small all [] i same = refl
from key small all (r ∷ rows) i same =
    go (from key small all rows (suc i) (λ j. let e : suc i + j ≡ i + suc j = omega arith in ap (λ (k : ℕ). get_or all k blank_entry) e ∙ same (suc j)))
    (in_group (top_of key) r) refl (matches key r.key r.mask) refl
  where
    here : get_or all i blank_entry ≡ r
    here = let e : i + 0 ≡ i = omega arith in ap (λ (k : ℕ). get_or all k blank_entry) (sym e) ∙ same 0

    go : first_in key all (group_from (top_of key) (suc i) rows) ≡ later (suc i) (first_match key rows)
        → (b : Bool) → in_group (top_of key) r ≡ b → (m : Bool) → matches key r.key r.mask ≡ m
        → first_in key all (cond b (i ∷ group_from (top_of key) (suc i) rows) (group_from (top_of key) (suc i) rows)) ≡ later i (cond (matches key r.key r.mask) (Some 0) (next (first_match key rows)))
    go on true e true m = let z : i + 0 ≡ i = omega arith in simp (here, m, z)
    go on true e false m = simp (here, m) (on ∙ sym (later_next i (first_match key rows)))
    go on false e m h = simp (left_out key r small e) (on ∙ sym (later_next i (first_match key rows)))

pub same_row : SameRow
same_row rows key small =
    from key small rows rows 0 (λ j. let e : 0 + j ≡ j = omega arith in ap (λ (k : ℕ). get_or rows k blank_entry) e) ∙ later_zero (first_match key rows)
