-- What a covered row comes to, for every key: whatever it matches the earlier row matches too, and so no search ends at it.
use Rattle.std.specs.Prelude.{ℕ, zero, suc, ◌<◌, ◌≡◌, refl, Bool, true, false, cond, ◌&&◌, List, [], ◌∷◌, eqb, get_or, Option, Some, None}
use Rattle.std.proofs.Common.{sym, ap, ◌∙◌, true≢false, arith, eqb-true, eq-eqb}
use Rattle.std.specs.Int.Bits.{bit_and}
use Rattle.lists.proofs.Bools.{both}
use Rattle.tables.specs.Shown.{Shown, found_shown}
use Rattle.tables.specs.Rows.{Entry, matches, used, next, first_match, blank_entry}
use Rattle.tables.proofs.Masked.{through}
use Rattle.covered.specs.Covering.{covers}

pub covered_matches : (key earlier mask later laterMask : ℕ) → covers earlier mask later laterMask ≡ true
    → matches key later laterMask ≡ true → matches key earlier mask ≡ true
covered_matches key earlier mask later laterMask c m =
    eq-eqb (bit_and key mask) earlier
    (through key mask laterMask (eqb-true (bit_and mask laterMask) mask (both (used later laterMask) (eqb (bit_and mask laterMask) mask) parts.0).1)
    ∙ ap (λ (x : ℕ). bit_and x mask) (eqb-true (bit_and key laterMask) later m)
    ∙ eqb-true (bit_and later mask) earlier parts.1)
  where
    parts : ((used later laterMask && eqb (bit_and mask laterMask) mask) ≡ true) × (matches later earlier mask ≡ true)
    parts = both (used later laterMask && eqb (bit_and mask laterMask) mask) (matches later earlier mask) c

-- whether row k of a table covers row n
abbrev pub covers_at : List Entry → ℕ → ℕ → Bool
covers_at rows k n = covers (get_or rows k blank_entry).key (get_or rows k blank_entry).mask (get_or rows n blank_entry).key (get_or rows n blank_entry).mask

-- what an answer of the search says: the row that it names matches, and no row before it covers it
abbrev Says : ℕ → List Entry → Shown → Type 0
Says key rows a =
    a.number ≡ 1
    → (matches key (get_or rows a.value blank_entry).key (get_or rows a.value blank_entry).mask ≡ true)
    × ((k : ℕ) → k < a.value → covers_at rows k a.value ≡ true → ⊥)

-- what a search of the other rows says, once the first does not match
further : (key : ℕ) (r : Entry) (rs : List Entry) → matches key r.key r.mask ≡ false → (f : Option ℕ) → Says key rs (found_shown f)
    → Says key (r ∷ rs) (found_shown (next f))
further key r rs no-match None s e = absurd (omega arith)
further key r rs no-match (Some n) s e = ((s refl).0, go)
  where
    row : Entry
    row = get_or rs n blank_entry

    go : (k : ℕ) → k < suc n → covers_at (r ∷ rs) k (suc n) ≡ true → ⊥
    go zero h c = true≢false (sym (covered_matches key r.key r.mask row.key row.mask c (s refl).0) ∙ no-match)
    go (suc k) h c = (s refl).1 k (omega arith) c

says : (key : ℕ) (rows : List Entry) → Says key rows (found_shown (first_match key rows))
unfolding first_match
says key [] = λ e. absurd (omega arith)
says key (r ∷ rs) = go (matches key r.key r.mask) refl (says key rs)
  where
    go : (b : Bool) → matches key r.key r.mask ≡ b → Says key rs (found_shown (first_match key rs))
        → Says key (r ∷ rs) (found_shown (cond b (Some 0) (next (first_match key rs))))
    go true e s = λ z. (e, λ k h. absurd (omega arith))
    go false e s = further key r rs e (first_match key rs) s

pub covered_never_found : (key : ℕ) (rows : List Entry) (k : ℕ) → (found_shown (first_match key rows)).number ≡ 1
    → k < (found_shown (first_match key rows)).value → covers_at rows k (found_shown (first_match key rows)).value ≡ true → ⊥
covered_never_found key rows k found = (says key rows found).1 k
