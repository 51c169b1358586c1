-- A walk down the rows in hand: what the words say once a row is kept, and once it is taken out.
use Prim.Native.Nat.{ℕ, suc, ◌+◌, ◌-◌, ◌≤◌, ◌<◌, min}
use mathlib.Core.Path.{◌≡◌, refl, sym, ap, ◌∙◌, subst}
use mathlib.Core.Bool.{Bool, true, false, not}
use mathlib.Core.List.{List, [], ◌∷◌, ◌++◌, append_assoc}
use mathlib.Core.Logic.{inl, inr, ⊎_elim}
use native.Mathlib.Omega.{arith}
use native.Mathlib.Numerals.{add-one}
use lib.ListN.{length, get_or, take, drop, set, length-append, length-take, length-drop, get_or-append}
use lib.Seq.{length-take-le, take_at, take-set-le, take-set-lt, take-suc-set, drop_at, drop-cons, drop-drop, drop-set-lt, get_or_at, get_or-take}
use Rattle.tables.specs.Rows.{Entry}
use Rattle.fewer.specs.declared.Walk.{Walk}
use Rattle.fewer.specs.Process.{Numbered, blank, row_at, number_at, covers, matches_some, without, step}
use Rattle.fewer.specs.declared.Held.{Held}
use Rattle.fewer.specs.Hand.{held_of, with_left, end_from, Onward, AllMatch, Walked, walk_rows, Walking, Tested, WentOn}
use Rattle.fewer.proofs.HeldRows.{held_many}
use Rattle.fewer.proofs.Onwards.{one_step}
use Rattle.fewer.proofs.Steps.{length_without}
use Rattle.fewer.proofs.Walks.{match_without, walk_keeps, walk_step, walk_out}

-- ---- the rows of a walk

module _ (rows : List Numbered) (kept next count : ℕ) (behind : kept ≤ next) (more : next < count) (fits : count ≤ length rows) where
  abbrev these : List Numbered
  these = take kept rows ++ drop next (take count rows)

  long : length (take kept rows) ≡ kept
  long = length-take-le kept rows (omega arith)

  all : length (take count rows) ≡ count
  all = length-take-le count rows fits

  these_many : length these ≡ kept + (count - next)
  these_many = simp (length-append, length-take, length-drop) (omega arith)

  next_first : drop next (take count rows) ≡ get_or rows next blank ∷ drop (next + 1) (take count rows)
  next_first = rw add-one (drop-cons (take count rows) next blank (omega (arith, all)) ∙ ap (λ (r : Numbered). r ∷ drop (suc next) (take count rows)) (get_or-take count rows next blank more))

  row_there : get_or these kept blank ≡ get_or rows next blank
  row_there = ap (λ (l : List Numbered). get_or (take kept rows ++ l) kept blank) next_first ∙ get_or_at (take kept rows) _ _ blank kept long

  row_above : (i : ℕ) → i < kept → get_or these i blank ≡ get_or rows i blank
  row_above i h = get_or-append (take kept rows) _ blank i (omega (arith, long)) ∙ get_or-take kept rows i blank h

  -- once the next is kept
  these_kept : take (kept + 1) (set rows kept (get_or rows next blank)) ++ drop (next + 1) (take count (set rows kept (get_or rows next blank))) ≡ these
  these_kept =
      let row : Numbered = get_or rows next blank in
      let front : take (kept + 1) (set rows kept row) ≡ take kept rows ++ row ∷ [] = rw add-one (take-suc-set rows kept row (omega arith)) in
      let rest : drop (next + 1) (take count (set rows kept row)) ≡ drop (next + 1) (take count rows) =
      ap (drop (next + 1)) (take-set-lt count rows kept row (omega arith)) ∙ drop-set-lt (next + 1) (take count rows) kept row (omega arith) in
      (λ k. front k ++ rest k) ∙ append_assoc (take kept rows) (row ∷ []) (drop (next + 1) (take count rows)) ∙ ap (λ (l : List Numbered). take kept rows ++ l) (sym next_first)

  -- once it is taken out
  these_without : take kept rows ++ drop (next + 1) (take count rows) ≡ without these kept
  these_without =
      let tail : List Numbered = drop next (take count rows) in
      let rest : drop (kept + 1) these ≡ drop (next + 1) (take count rows) =
      sym (drop-drop 1 kept these) ∙ ap (drop 1) (drop_at (take kept rows) tail kept long) ∙ drop-drop 1 next (take count rows) in
      λ k. sym (take_at (take kept rows) tail kept long) k ++ sym rest k

module _ (lo hi : ℕ) (held : List Held) (gone : List ℕ) (w : Walk) (walking : Walking lo hi held gone w) (more : w.next < w.count) (row : Numbered) (is : row ≡ get_or (held_of held) w.next blank) where
  abbrev H : List Numbered
  H = held_of held

  fits : w.count ≤ length H
  fits = omega (arith, held_many held, walking.fits)

  abbrev L : List Numbered
  L = walk_rows held w

  many : length L ≡ w.kept + (w.count - w.next)
  many = these_many H w.kept w.next w.count walking.behind more fits

  there : row_at L w.kept ≡ row.entry
  there = ap (λ (r : Numbered). r.entry) (row_there H w.kept w.next w.count walking.behind more fits ∙ sym is)

  above : (i : ℕ) → i < w.kept → row_at L i ≡ row_at H i
  above i h = ap (λ (r : Numbered). r.entry) (row_above H w.kept w.next w.count walking.behind more fits i h)

  -- the test against the words is one against the rows of the walk
  stays_tested : Tested H row.entry lo (min hi w.kept) true → Tested L (row_at L w.kept) lo (min hi w.kept) true
  stays_tested t = (ap matches_some there ∙ t.0, λ i h k. (λ j. covers (above i (omega arith) j) (there j)) ∙ t.1 i h k)

  goes_tested : Tested H row.entry lo (min hi w.kept) false → Tested L (row_at L w.kept) lo (min hi w.kept) false
  goes_tested t =
      ⊎_elim (λ (n : matches_some row.entry ≡ false). inl (ap matches_some there ∙ n))
      (λ (c : (i : ℕ) × ((i < min hi w.kept) × (covers (row_at H i) row.entry ≡ true))).
      inr (c.0, (c.1.0, (λ j. covers (above c.0 (omega (arith, c.1.0)) j) (there j)) ∙ c.1.1))) t

  pub keeps_on : (held' : List Held) → length held' ≡ length held → held_of held' ≡ set H w.kept row → Tested H row.entry lo (min hi w.kept) true
      → (Walking lo hi held' gone (record { kept = w.kept + 1; next = w.next + 1; count = w.count }))
      × (WentOn held gone w held' gone (record { kept = w.kept + 1; next = w.next + 1; count = w.count }))
  keeps_on held' same e t = (walking', record { onward = onward; same = refl; more = omega arith; front = ap (take w.kept) e ∙ take-set-le w.kept H w.kept row (omega arith); matching = subst AllMatch (sym rows_same) })
    where
      on : Walk
      on = record { kept = w.kept + 1; next = w.next + 1; count = w.count }

      rows_same : walk_rows held' on ≡ L
      rows_same =
          ap (λ (l : List Numbered). take (w.kept + 1) l ++ drop (w.next + 1) (take w.count l)) (e ∙ ap (set H w.kept) is)
          ∙ these_kept H w.kept w.next w.count walking.behind more fits

      walking' : Walking lo hi held' gone on
      walking' =
          record {
            behind = omega (arith, walking.behind);
            within = omega arith;
            listed = walking.listed;
            fits = omega (arith, walking.fits);
            lower = omega (arith, walking.lower);
            walked = subst (λ (l : List Numbered). Walked lo hi l (w.kept + 1)) (sym rows_same) (walk_keeps lo hi L w.kept walking.walked (omega (arith, many)) (stays_tested t));
          }

      onward : Onward held gone L held' gone (walk_rows held' on)
      onward = record { words = same; room = refl; fewer = omega (arith, ap length rows_same); ends = ap (λ (l : List Numbered). end_from (with_left l gone)) rows_same; rest = refl }

  pub takes_out : Tested H row.entry lo (min hi w.kept) false
      → (Walking lo hi held (set gone (length gone - (w.kept + (w.count - w.next))) row.number) (record { kept = w.kept; next = w.next + 1; count = w.count }))
      × (WentOn held gone w held (set gone (length gone - (w.kept + (w.count - w.next))) row.number) (record { kept = w.kept; next = w.next + 1; count = w.count }))
  takes_out t = (walking', record { onward = onward; same = refl; more = omega arith; front = refl; matching = λ all. subst AllMatch (sym rows_fewer) (match_without L w.kept (omega (arith, many)) all) })
    where
      on : Walk
      on = record { kept = w.kept; next = w.next + 1; count = w.count }

      n : ℕ
      n = w.kept + (w.count - w.next)

      gone' : List ℕ
      gone' = set gone (length gone - n) row.number

      rows_fewer : walk_rows held on ≡ without L w.kept
      rows_fewer = these_without H w.kept w.next w.count walking.behind more fits

      number : number_at L w.kept ≡ row.number
      number = ap (λ (r : Numbered). r.number) (row_there H w.kept w.next w.count walking.behind more fits ∙ sym is)

      stepped : step (with_left L gone) ≡ record { left = walk_rows held on; gone = take (length gone - length L) gone ++ row.number ∷ [] }
      stepped =
          walk_step lo hi L w.kept walking.walked (omega (arith, many)) (take (length gone - length L) gone) (goes_tested t)
          ∙ (λ k. record { left = sym rows_fewer k; gone = take (length gone - length L) gone ++ number k ∷ [] })

      fewer : suc (length (walk_rows held on)) ≡ length L
      fewer = rw rows_fewer (length_without L w.kept (omega (arith, many)))

      onward : Onward held gone L held gone' (walk_rows held on)
      onward = one_step held held gone L (walk_rows held on) n row.number refl many (omega (arith, many, walking.behind, walking.listed)) fewer stepped

      walking' : Walking lo hi held gone' on
      walking' =
          record {
            behind = omega (arith, walking.behind);
            within = omega arith;
            listed = omega (arith, onward.room, walking.listed);
            fits = walking.fits;
            lower = walking.lower;
            walked = subst (λ (l : List Numbered). Walked lo hi l w.kept) (sym rows_fewer) (walk_out lo hi L w.kept walking.walked (omega (arith, many)) walking.lower);
          }

-- ---- below a joined row

module _ (at count : ℕ) (held₀ : List Held) (gone₀ : List ℕ) (held : List Held) (gone : List ℕ) (w : Walk) (walking : Walking at (at + 1) held gone w) (more : w.next < w.count)
    (went : WentOn held₀ gone₀ (record { kept = at + 1; next = at + 2; count = count }) held gone w) (all : AllMatch (walk_rows held₀ (record { kept = at + 1; next = at + 2; count = count })))
    (one row : Numbered) (is_one : one ≡ get_or (held_of held₀) at blank) (is : row ≡ get_or (held_of held) w.next blank) where
  one_there : row_at (held_of held) at ≡ one.entry
  one_there =
      ap (λ (r : Numbered). r.entry)
      (sym (get_or-take (at + 1) (held_of held) at blank (omega arith)) ∙ ap (λ (l : List Numbered). get_or l at blank) went.front ∙ get_or-take (at + 1) (held_of held₀) at blank (omega arith) ∙ sym is_one)

  -- the test against that row alone is enough
  pub under_tested : (b : Bool) → covers one.entry row.entry ≡ b → Tested (held_of held) row.entry at (min (at + 1) w.kept) (not b)
  under_tested true e = inr (at, (omega (arith, went.more), ap (λ (r : Entry). covers r row.entry) one_there ∙ e))
  under_tested false e = (
    sym (ap matches_some (there at (at + 1) held gone w walking more row is)) ∙ went.matching all w.kept (omega (arith, many at (at + 1) held gone w walking more row is)),
    λ i h k.
        let same : i ≡ at = omega arith in
        rw same (ap (λ (r : Entry). covers r row.entry) one_there ∙ e),
  )
