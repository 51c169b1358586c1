-- "For every 32-bit key the old and new table give the same route or both no match." A row that goes decides no route; a joined row decides those of the two.
use Prim.Native.Nat.{ℕ, zero, suc, ◌+◌, ◌-◌, ◌<◌}
use mathlib.Core.Path.{◌≡◌, refl, sym, ap, ◌∙◌}
use mathlib.Core.Bool.{Bool, true, false, cond, ◌||◌, true≢false}
use mathlib.Core.List.{List, [], ◌∷◌, ◌++◌}
use mathlib.Core.Logic.{⊎_elim}
use native.Mathlib.Omega.{arith}
use native.Mathlib.Numerals.{add-one}
use lib.ListN.{length, get_or, take, drop}
use lib.Seq.{split_at, drop-cons, get_or-take, length-take-le}
use Rattle.lists.proofs.Firsts.{first_holds, before_first}
use Rattle.std.specs.Prelude.{Option, Some, None}
use Rattle.tables.specs.Rows.{Entry, matches, next, first_match, matched_of, route_for}
use Rattle.tables.proofs.Masked.{used_of_match}
use Rattle.fewer.specs.Process.{Numbered, Process, entries, numbered, blank, row_at, matches_some, covers, goes, joins, without, with_pair, joined, top_going, top_pair, begun, ended, step}
use Rattle.fewer.specs.Promises.{SameRoutes}
use Rattle.fewer.proofs.Covers.{covered_matches}
use Rattle.fewer.proofs.Going.{why_goes, matches_where_stays}
use Rattle.fewer.proofs.Joined.{same_route, joined_matches}
use Rattle.fewer.proofs.Steps.{by_ways, steps_keep}

module _ (key : ℕ) where
  abbrev matched : Entry → Bool
  matched r = matches key r.key r.mask

  abbrev route_in : List Numbered → Option ℕ
  route_in rows = route_for key (entries rows)

  further : (r : Entry) (rs : List Entry) (f : Option ℕ) → matched_of (r ∷ rs) (next f) ≡ matched_of rs f
  further r rs (Some n) = refl
  further r rs None = refl

  -- the first row decides where it matches, and the others where it does not
  row_by_row : (r : Numbered) (rs : List Numbered) → route_in (r ∷ rs) ≡ cond (matched r.entry) (Some r.entry.route) (route_in rs)
  unfolding entries first_match
  row_by_row r rs = go (matched r.entry)
    where
      go : (b : Bool) → matched_of (entries (r ∷ rs)) (cond b (Some 0) (next (first_match key (entries rs)))) ≡ cond b (Some r.entry.route) (route_in rs)
      go true = refl
      go false = further r.entry (entries rs) (first_match key (entries rs))

  -- what comes below the same rows
  below : (a x y : List Numbered) → route_in x ≡ route_in y → route_in (a ++ x) ≡ route_in (a ++ y)
  below [] x y e = e
  below (r ∷ a) x y e =
      row_by_row r (a ++ x) ∙ ap (cond (matched r.entry) (Some r.entry.route)) (below a x y e) ∙ sym (row_by_row r (a ++ y))

  -- where one of them matches it does not count
  decided : (a x y : List Numbered) (j : ℕ) → j < length a → matched (row_at a j) ≡ true → route_in (a ++ x) ≡ route_in (a ++ y)
  decided [] x y j h m = absurd (omega arith)
  decided (r ∷ a) x y zero h m = row_by_row r (a ++ x) ∙ both_first ∙ sym (row_by_row r (a ++ y))
    where
      both_first : cond (matched r.entry) (Some r.entry.route) (route_in (a ++ x)) ≡ cond (matched r.entry) (Some r.entry.route) (route_in (a ++ y))
      both_first = simp m
  decided (r ∷ a) x y (suc j) h m =
      row_by_row r (a ++ x) ∙ ap (cond (matched r.entry) (Some r.entry.route)) (decided a x y j (omega arith) m) ∙ sym (row_by_row r (a ++ y))

  module _ (rows : List Numbered) (i : ℕ) where
    route_without : i < length rows → goes rows i ≡ true → route_in (without rows i) ≡ route_in rows
    route_without h g = go (matched x.entry) refl ∙ ap route_in split
      where
        x : Numbered
        x = get_or rows i blank

        split : take i rows ++ x ∷ drop (i + 1) rows ≡ rows
        split = rw add-one (sym (split_at rows i blank h))

        matched_there : (j : ℕ) → j < i → covers (row_at rows j) (row_at rows i) ≡ true → matched x.entry ≡ true → matched (row_at (take i rows) j) ≡ true
        matched_there j l c m = ap (λ (r : Numbered). matched r.entry) (get_or-take i rows j blank l) ∙ covered_matches (row_at rows j) (row_at rows i) c key m

        go : (b : Bool) → matched x.entry ≡ b → route_in (without rows i) ≡ route_in (take i rows ++ x ∷ drop (i + 1) rows)
        go false m = below (take i rows) (drop (i + 1) rows) (x ∷ drop (i + 1) rows) (sym (row_by_row x (drop (i + 1) rows) ∙ ap (λ (b : Bool). cond b (Some x.entry.route) (route_in (drop (i + 1) rows))) m))
        go true m =
            ⊎_elim (λ (n : matches_some (row_at rows i) ≡ false). absurd (true≢false (sym (used_of_match key x.entry.key x.entry.mask m) ∙ n)))
            (λ (c : (j : ℕ) × ((j < i) × (covers (row_at rows j) (row_at rows i) ≡ true))).
            decided (take i rows) (drop (i + 1) rows) (x ∷ drop (i + 1) rows) c.0 (omega (arith, length-take-le i rows (omega arith))) (matched_there c.0 c.1.0 c.1.1 m))
            (why_goes rows i g)

    route_joined : i + 1 < length rows → joins rows i ≡ true → matches_some (row_at rows i) ≡ true → matches_some (row_at rows (i + 1)) ≡ true
        → route_in (with_pair rows i) ≡ route_in rows
    route_joined h j some other = below (take i rows) (one ∷ rest) (a ∷ b ∷ rest) same ∙ ap route_in split
      where
        a : Numbered
        a = get_or rows i blank

        b : Numbered
        b = get_or rows (i + 1) blank

        one : Numbered
        one = record { entry = joined a.entry b.entry; number = a.number }

        rest : List Numbered
        rest = drop (i + 2) rows

        split : take i rows ++ a ∷ b ∷ rest ≡ rows
        split =
            let e : i + 1 ≡ suc i = omega arith in
            let f : i + 2 ≡ suc (suc i) = omega arith in
            (λ k. take i rows ++ a ∷ get_or rows (e k) blank ∷ drop (f k) rows)
            ∙ ap (λ (l : List Numbered). take i rows ++ a ∷ l) (sym (drop-cons rows (suc i) blank (omega arith)))
            ∙ sym (split_at rows i blank (omega arith))

        either : (x y : Bool) → cond (x || y) (Some a.entry.route) (route_in rest) ≡ cond x (Some a.entry.route) (cond y (Some b.entry.route) (route_in rest))
        either true y = refl
        either false true = ap Some (same_route a.entry b.entry j)
        either false false = refl

        same : route_in (one ∷ rest) ≡ route_in (a ∷ b ∷ rest)
        same =
            row_by_row one rest
            ∙ ap (λ (m : Bool). cond m (Some a.entry.route) (route_in rest)) (joined_matches a.entry b.entry j some other key)
            ∙ either (matched a.entry) (matched b.entry)
            ∙ sym (row_by_row a (b ∷ rest) ∙ ap (cond (matched a.entry) (Some a.entry.route)) (row_by_row b rest))

  same_step : (rows : List Entry) (p : Process) → route_in p.left ≡ route_for key rows → route_in (step p).left ≡ route_for key rows
  same_step rows p e =
      let left = p.left in
      let i = top_pair left in
      by_ways (λ (q : Process). route_in q.left ≡ route_for key rows) p
      (λ h. route_without left (top_going left) h (first_holds (goes left) (length left) h) ∙ e)
      (λ g h. route_joined left i (omega arith) (first_holds (joins left) (length left - 1) h)
      (matches_where_stays left i (before_first (goes left) (length left) i (omega arith)))
      (matches_where_stays left (i + 1) (before_first (goes left) (length left) (i + 1) (omega arith)))
      ∙ e)
      (λ r. e)

entries_numbered : (n : ℕ) (rows : List Entry) → entries (numbered n rows) ≡ rows
unfolding numbered entries
entries_numbered n [] = refl
entries_numbered n (r ∷ rows) = ap (λ (l : List Entry). r ∷ l) (entries_numbered (suc n) rows)

pub same_routes : SameRoutes
unfolding ended
same_routes rows key =
    steps_keep (λ (p : Process). route_in key p.left ≡ route_for key rows) (same_step key rows) (length rows) (begun rows) (ap (route_for key) (entries_numbered 0 rows))
