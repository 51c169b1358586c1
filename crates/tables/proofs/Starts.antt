-- Where each chip's rows start, number by number: what the test of all of them says of each, and what is known of all from those that are still
-- to come.
use mathlib.Core.Path.{◌≡◌, refl, sym, ap, ◌∙◌, subst}
use mathlib.Core.Bool.{Bool, true, false, not, ◌&&◌, and_comm, and-false, and_assoc, and-eq-true_iff}
use mathlib.Core.List.{List, [], ◌∷◌}
use Prim.Native.Nat.{ℕ, zero, suc, ◌+◌, ◌-◌, ◌*◌, ◌<◌, ◌≤◌}
use native.Mathlib.Nat.{add-zero, suc-add, le_of_eq}
use native.Mathlib.Omega.{arith}
use native.Mathlib.Numerals.{add-one}
use lib.Dec.{eqb, ltb, leb}
use lib.ListN.{length, get_or, drop, drop_of_length-le}
use lib.Seq.{drop-cons}
use borrow.Author.Tests.{leb-true, leb-false, le-leb, lt-leb, lt-ltb, le-ltb, eqb-true, eq-eqb}
use Rattle.tables.specs.Accept.{never_falling, starts_right, rows_few, starts_fine}

-- ---- one number after another

-- both tests of one number and the next, in one walk
unfoldable pub climbs : List ℕ → Bool
climbs [] = true
climbs (a ∷ []) = true
climbs (a ∷ b ∷ rest) = leb a b && leb (b - a) 1024 && climbs (b ∷ rest)

climbs_apart : (s : List ℕ) → climbs s ≡ (never_falling s && rows_few s)
unfolding climbs never_falling rows_few
climbs_apart [] = refl
climbs_apart (a ∷ []) = refl
climbs_apart (a ∷ b ∷ rest) = go (leb a b) (leb (b - a) 1024) (never_falling (b ∷ rest)) (rows_few (b ∷ rest)) (climbs (b ∷ rest)) (climbs_apart (b ∷ rest))
  where
    go : (x y n f c : Bool) → c ≡ (n && f) → (x && y && c) ≡ ((x && n) && (y && f))
    go true true n f c e = e
    go true false n f c e = sym (and-false n)
    go false y n f c e = refl

-- a difference of at most 1,024, without taking the difference
leb_room : (a b : ℕ) → leb (b - a) 1024 ≡ leb b (a + 1024)
leb_room a b = go (leb b (a + 1024)) refl
  where
    go : (t : Bool) → leb b (a + 1024) ≡ t → leb (b - a) 1024 ≡ t
    go true e = let h : b ≤ a + 1024 = leb-true _ _ e in le-leb (b - a) 1024 (omega arith)
    go false e = let h : a + 1024 < b = leb-false _ _ e in lt-leb (b - a) 1024 (omega arith)

-- and more than that
pub more_rows : (a b : ℕ) → ltb (a + 1024) b ≡ not (leb (b - a) 1024)
more_rows a b = go (leb b (a + 1024)) refl
  where
    go : (t : Bool) → leb b (a + 1024) ≡ t → ltb (a + 1024) b ≡ not (leb (b - a) 1024)
    go true e = le-ltb (a + 1024) b (leb-true _ _ e) ∙ sym (ap not (leb_room a b ∙ e))
    go false e = lt-ltb (a + 1024) b (leb-false _ _ e) ∙ sym (ap not (leb_room a b ∙ e))

module _ (s : List ℕ) (i : ℕ) where
  climbs_step : i + 1 < length s
      → climbs (drop i s) ≡ (leb (get_or s i 0) (get_or s (i + 1) 0) && leb (get_or s (i + 1) 0 - get_or s i 0) 1024 && climbs (drop (i + 1) s))
  unfolding climbs
  climbs_step h =
      let a = get_or s i 0 in
      let b = get_or s (i + 1) 0 in
      let here : drop i s ≡ a ∷ drop (i + 1) s = drop-cons s i 0 (omega arith) ∙ simp add-one in
      let next : drop (i + 1) s ≡ b ∷ drop (suc (i + 1)) s = drop-cons s (i + 1) 0 h in
      ap climbs here ∙ ap (λ (t : List ℕ). climbs (a ∷ t)) next ∙ ap (λ (t : List ℕ). leb a b && leb (b - a) 1024 && climbs t) (sym next)

  climbs_end : length s ≡ i + 1 → climbs (drop i s) ≡ true
  unfolding climbs
  climbs_end h =
      let past : drop (suc i) s ≡ [] = drop_of_length-le s {i = suc i} (omega arith) in
      ap climbs (drop-cons s i 0 (omega arith)) ∙ ap (λ (t : List ℕ). climbs (get_or s i 0 ∷ t)) past

  pub starts_joined : (all fine : Bool) (start next : ℕ) → start ≡ get_or s i 0 → next ≡ get_or s (i + 1) 0 → i + 1 < length s
      → all ≡ (fine && climbs (drop i s)) → all ≡ ((fine && (leb start next && leb next (start + 1024))) && climbs (drop (i + 1) s))
  starts_joined all false start next a b h e = e
  starts_joined all true start next a b h e =
      e ∙ climbs_step h
      ∙ ap (λ (t : Bool). leb (get_or s i 0) (get_or s (i + 1) 0) && t && climbs (drop (i + 1) s)) (leb_room (get_or s i 0) (get_or s (i + 1) 0))
      ∙ (λ k. leb (sym a k) (sym b k) && leb (sym b k) (sym a k + 1024) && climbs (drop (i + 1) s))

  climbs_last : (all fine : Bool) → length s ≡ i + 1 → all ≡ (fine && climbs (drop i s)) → all ≡ fine
  climbs_last all true h e = e ∙ climbs_end h
  climbs_last all false h e = e

and_swap : (f l c : Bool) → (f && c && l) ≡ (f && l && c)
and_swap true l c = and_comm c l
and_swap false l c = refl

-- the test once the last number is reached
pub starts_last : (s : List ℕ) (chips rows i end : ℕ) (fine : Bool) → length s ≡ chips + 1 → i ≡ chips → end ≡ get_or s chips 0
    → (eqb (get_or s 0 0) 0 && climbs s) ≡ (fine && climbs (drop i s)) → (fine && eqb end rows) ≡ starts_fine s chips rows
starts_last s chips rows i end fine long at last e =
    let first = eqb (get_or s 0 0) 0 in
    let top = eqb (get_or s chips 0) rows in
    (λ k. sym (climbs_last s i (first && climbs s) fine (omega arith) e) k && eqb (last k) rows)
    ∙ and_swap first top (climbs s)
    ∙ ap (λ (t : Bool). first && top && t) (climbs_apart s)
    ∙ sym (and_assoc (first && top) (never_falling s) (rows_few s))
    ∙ ap (λ (t : Bool). t && first && top && never_falling s && rows_few s) (sym (eq-eqb _ _ long))

-- ---- what holds of each

record Climb (a b : ℕ) : Type 0 where
  below : a ≤ b
  few : b - a ≤ 1024

climb_at : (s : List ℕ) (i : ℕ) → climbs s ≡ true → i + 1 < length s → Climb (get_or s i 0) (get_or s (i + 1) 0)
unfolding climbs
climb_at [] i e h = absurd (omega arith)
climb_at (a ∷ []) i e h = absurd (omega arith)
climb_at (a ∷ b ∷ rest) zero e h =
    let t = ((and-eq-true_iff (leb a b && leb (b - a) 1024) (climbs (b ∷ rest))).0 e).0 in
    let u = (and-eq-true_iff (leb a b) (leb (b - a) 1024)).0 t in
    record { below = leb-true _ _ u.0; few = leb-true _ _ u.1 }
climb_at (a ∷ b ∷ rest) (suc i) e h =
    let t = ((and-eq-true_iff (leb a b && leb (b - a) 1024) (climbs (b ∷ rest))).0 e).1 in
    subst (λ (k : ℕ). Climb (get_or (b ∷ rest) i 0) (get_or (a ∷ b ∷ rest) k 0)) (sym (suc-add i 1)) (climb_at (b ∷ rest) i t (omega arith))

climb_up : (s : List ℕ) (c d : ℕ) → climbs s ≡ true → c + d < length s → get_or s c 0 ≤ get_or s (c + d) 0
climb_up s c zero e h = le_of_eq (ap (λ (k : ℕ). get_or s k 0) (sym (add-zero c)))
climb_up s c (suc d) e h =
    let on : c + suc d ≡ c + d + 1 = omega arith in
    let up : get_or s c 0 ≤ get_or s (c + d) 0 = climb_up s c d e (omega arith) in
    let last : get_or s (c + d) 0 ≤ get_or s (c + d + 1) 0 = (climb_at s (c + d) e (omega arith)).below in
    omega (arith, ap (λ (k : ℕ). get_or s k 0) on)

record Parts (starts : List ℕ) (chips rows : ℕ) : Type 0 where
  long : length starts ≡ chips + 1
  first : get_or starts 0 0 ≡ 0
  top : get_or starts chips 0 ≡ rows
  rising : climbs starts ≡ true

module _ (starts : List ℕ) (chips rows c : ℕ) (fine : starts_fine starts chips rows ≡ true) where
  parts : Parts starts chips rows
  parts =
      let long = eqb (length starts) (chips + 1) in
      let first = eqb (get_or starts 0 0) 0 in
      let last = eqb (get_or starts chips 0) rows in
      let apart = (and-eq-true_iff (starts_right starts chips rows) (rows_few starts)).0 fine in
      let t = (and-eq-true_iff (long && first && last) (never_falling starts)).0 apart.0 in
      let u = (and-eq-true_iff (long && first) last).0 t.0 in
      record { long = eqb-true _ _ ((and-eq-true_iff long first).0 u.0).0; first = eqb-true _ _ ((and-eq-true_iff long first).0 u.0).1; top = eqb-true _ _ u.1; rising = climbs_apart starts ∙ simp (t.1, apart.1) }

  pub starts_one_more : length starts ≡ chips + 1
  starts_one_more = parts.long

  -- a chip's rows end where the next one's start, and not before they start
  pub start_below : c < chips → get_or starts c 0 ≤ get_or starts (c + 1) 0
  start_below h = (climb_at starts c parts.rising (omega (arith, parts.long))).below

  -- no start is past the rows
  pub start_end : c ≤ chips → get_or starts c 0 ≤ rows
  start_end h =
      let d : ℕ = chips - c in
      let e : c + d ≡ chips = omega arith in
      omega (arith, climb_up starts c d parts.rising (omega (arith, parts.long)), ap (λ (k : ℕ). get_or starts k 0) e, parts.top)

  -- at most 1,024 rows a chip
  pub start_few : c < chips → get_or starts (c + 1) 0 - get_or starts c 0 ≤ 1024
  start_few h = (climb_at starts c parts.rising (omega (arith, parts.long))).few

-- so that there are at most 1,024 rows for each chip before a start
pub start_most : (starts : List ℕ) (chips rows : ℕ) → starts_fine starts chips rows ≡ true → (c : ℕ) → c ≤ chips → get_or starts c 0 ≤ c * 1024
start_most starts chips rows fine zero h = omega (arith, (parts starts chips rows 0 fine).first)
start_most starts chips rows fine (suc c) h =
    omega (arith, start_most starts chips rows fine c (omega arith), start_few starts chips rows c fine h, ap (λ (k : ℕ). get_or starts k 0) (add-one c))

pub rows_most : (starts : List ℕ) (chips rows : ℕ) → starts_fine starts chips rows ≡ true → rows ≤ chips * 1024
rows_most starts chips rows fine = omega (arith, start_most starts chips rows fine chips (omega arith), (parts starts chips rows 0 fine).top)
