-- "Least over all ways round the mesh": the way that is taken leads there, and no pair of signed numbers that leads there is better. Those with small counts are computed, and every other way has
-- more links.
use Prim.Native.Nat.{ℕ, ◌+◌, ◌-◌, ◌/◌, ◌%◌, ◌≤◌, ◌<◌}
use mathlib.Core.Path.{◌≡◌, refl, sym, ap, subst, ◌∙◌}
use mathlib.Core.Logic.{⊎_elim}
use mathlib.Core.Bool.{Bool, true, false, cond, not, ◌&&◌, ◌||◌}
use mathlib.Core.List.{List, [], ◌∷◌}
use native.Mathlib.Omega.{arith}
use native.Mathlib.Nat.{mod-lt}
use borrow.Author.Tests.{le-ltb, ltb-false, eq-eqb, ne_eqb, not-true}
use lib.Dec.{eqb, ltb, T}
use lib.IntN.{ℤ, pos, negsuc, nat_abs}
use lib.Signed.{lt_z}
use Rattle.lists.proofs.Firsts.{lt_or_ge}
use Rattle.packet.proofs.Small.{every, at}
use Rattle.tables.specs.Sizes.{size_fine}
use Rattle.tables.proofs.Sizes as sizes
use Rattle.lists.proofs.Bools.{neither, both}
use Rattle.tree.specs.declared.Way.{Way}
use Rattle.tree.specs.Way.{shared_by, links_in, eq_z, better, turned, offset, leads, counts, counts_to, way_to, way_between}
use Rattle.tree.specs.Promises.{LeastOfAll}
use Rattle.tree.proofs.ComputedWays.{none_north, none_better, eq_z_true, right_way}

-- ---- all signed numbers

is_in_z : ℤ → List ℤ → Bool
is_in_z z [] = false
is_in_z z (y ∷ ys) = eq_z z y || is_in_z z ys

small_forwards : every 12 (λ n. is_in_z (pos n) counts) ≡ true
unfolding every is_in_z
small_forwards = refl

small_backwards : every 11 (λ n. is_in_z (negsuc n) counts) ≡ true
unfolding every is_in_z
small_backwards = refl

in_counts : (z : ℤ) → nat_abs z ≤ 11 → is_in_z z counts ≡ true
in_counts (pos n) h = at 12 (λ n. is_in_z (pos n) counts) small_forwards n (omega arith)
in_counts (negsuc n) h = at 11 (λ n. is_in_z (negsuc n) counts) small_backwards n (omega arith)

or_right : (a b : Bool) → b ≡ true → (a || b) ≡ true
or_right true b e = refl
or_right false b e = e

in_counts_to : (size far : ℕ) (z : ℤ) (zs : List ℤ) → is_in_z z zs ≡ true → eqb (turned size z) far ≡ true → is_in_z z (counts_to size far zs) ≡ true
unfolding is_in_z
in_counts_to size far z [] e t = e
in_counts_to size far z (y ∷ ys) e t = go (λ m. in_counts_to size far z ys m t) (eq_z z y) refl e (eqb (turned size y) far) refl
  where
    go : (is_in_z z ys ≡ true → is_in_z z (counts_to size far ys) ≡ true) → (b : Bool) → eq_z z y ≡ b → (b || is_in_z z ys) ≡ true → (d : Bool) → eqb (turned size y) far ≡ d
        → is_in_z z (cond d (y ∷ counts_to size far ys) (counts_to size far ys)) ≡ true
    go later true q m true p = ap (λ (b : Bool). b || is_in_z z (counts_to size far ys)) q
    go later true q m false p = absurd (subst T (sym t ∙ ap (λ (v : ℤ). eqb (turned size v) far) (eq_z_true z y q) ∙ p) tt)
    go later false q m true p = or_right (eq_z z y) (is_in_z z (counts_to size far ys)) (later m)
    go later false q m false p = later m

none_north_lem : (w : Way) (e n : ℤ) (ns : List ℤ) → none_north w e ns ≡ true → is_in_z n ns ≡ true → better (record { east = e; north = n }) w ≡ false
unfolding none_north is_in_z
none_north_lem w e n [] t m = absurd (subst T (sym m) tt)
none_north_lem w e n (y ∷ ys) t m = go (λ r. none_north_lem w e n ys (both (not (better (record { east = e; north = y }) w)) (none_north w e ys) t).1 r) (eq_z n y) refl m
  where
    h : (not (better (record { east = e; north = y }) w) ≡ true) × (none_north w e ys ≡ true)
    h = both (not (better (record { east = e; north = y }) w)) (none_north w e ys) t

    go : (is_in_z n ys ≡ true → better (record { east = e; north = n }) w ≡ false) → (b : Bool) → eq_z n y ≡ b → (b || is_in_z n ys) ≡ true → better (record { east = e; north = n }) w ≡ false
    go later true q r = ap (λ (v : ℤ). better (record { east = e; north = v }) w) (eq_z_true n y q) ∙ not-true _ h.0
    go later false q r = later r

none_there : (w : Way) (e n : ℤ) (es ns : List ℤ) → none_better w es ns ≡ true → is_in_z e es ≡ true → is_in_z n ns ≡ true → better (record { east = e; north = n }) w ≡ false
unfolding none_better is_in_z
none_there w e n [] ns t me mn = absurd (subst T (sym me) tt)
none_there w e n (y ∷ ys) ns t me mn = go (λ r. none_there w e n ys ns (both (none_north w y ns) (none_better w ys ns) t).1 r mn) (eq_z e y) refl me
  where
    h : (none_north w y ns ≡ true) × (none_better w ys ns ≡ true)
    h = both (none_north w y ns) (none_better w ys ns) t

    go : (is_in_z e ys ≡ true → better (record { east = e; north = n }) w ≡ false) → (b : Bool) → eq_z e y ≡ b → (b || is_in_z e ys) ≡ true → better (record { east = e; north = n }) w ≡ false
    go later true q r = ap (λ (v : ℤ). better (record { east = v; north = n }) w) (eq_z_true e y q) ∙ none_north_lem w y n ns h.0 mn
    go later false q r = later r

-- a way has at least as many links as steps east or west, and as steps north or south
pub at_least : (e n : ℤ) → (nat_abs e ≤ nat_abs e + nat_abs n - shared_by e n) × (nat_abs n ≤ nat_abs e + nat_abs n - shared_by e n)
at_least (pos a) (pos b) = (omega arith, omega arith)
at_least (negsuc a) (negsuc b) = (omega arith, omega arith)
at_least (pos a) (negsuc b) = (omega arith, omega arith)
at_least (negsuc a) (pos b) = (omega arith, omega arith)

longer : (v w : Way) → links_in w < links_in v → better v w ≡ false
longer v w h = simp (le-ltb (links_in v) (links_in w) (omega arith), ne_eqb (links_in v) (links_in w) (λ e. omega arith))

-- no other is as good
order : (a b : ℤ) → lt_z a b ≡ false → lt_z b a ≡ false → a ≡ b
order (pos a) (pos b) l m = let x = ltb-false a b l in let y = ltb-false b a m in ap pos (omega arith)
order (negsuc a) (negsuc b) l m = let x = ltb-false b a l in let y = ltb-false a b m in ap negsuc (omega arith)
order (pos a) (negsuc b) l m = absurd (subst T m tt)
order (negsuc a) (pos b) l m = absurd (subst T l tt)

same_eq_z : (a b : ℤ) → a ≡ b → eq_z a b ≡ true
same_eq_z a b e = ap (eq_z a) (sym e) ∙ self a
  where
    self : (z : ℤ) → eq_z z z ≡ true
    self (pos n) = eq-eqb n n refl
    self (negsuc n) = eq-eqb n n refl

-- a test that fails with another that holds
fails : (a b : Bool) → a ≡ true → (a && b) ≡ false → b ≡ false
fails true b h e = e
fails false b h e = absurd (subst T (sym h) tt)

as_good : (v w : Way) → better v w ≡ false → better w v ≡ false → v ≡ w
as_good v w f g =
    let a = neither (ltb (links_in v) (links_in w)) _ f in
    let b = neither (ltb (links_in w) (links_in v)) _ g in
    let many : links_in v ≡ links_in w = omega (arith, ltb-false (links_in v) (links_in w) a.0, ltb-false (links_in w) (links_in v) b.0) in
    let c = neither (lt_z w.east v.east) _ (fails (eqb (links_in v) (links_in w)) _ (eq-eqb _ _ many) a.1) in
    let d = neither (lt_z v.east w.east) _ (fails (eqb (links_in w) (links_in v)) _ (eq-eqb _ _ (sym many)) b.1) in
    let east : v.east ≡ w.east = order v.east w.east d.0 c.0 in
    let north : v.north ≡ w.north =
    order v.north w.north (fails (eq_z v.east w.east) _ (same_eq_z _ _ east) d.1) (fails (eq_z w.east v.east) _ (same_eq_z _ _ (sym east)) c.1) in
    λ i. record { east = east i; north = north i }

module _ (width height east north : ℕ) (fine : size_fine width height ≡ true) (x : east < width) (y : north < height) where
  pub taken_leads : leads width height east north (way_to width height east north) ≡ true
  taken_leads = (right_way width height east north fine x y).there

  -- of all pairs of signed numbers, however large
  pub least_of_all : (v : Way) → leads width height east north v ≡ true → better v (way_to width height east north) ≡ false
  least_of_all v l =
      let r = right_way width height east north fine x y in
      let t = both (eqb (turned width v.east) east) (eqb (turned height v.north) north) l in
      let far = at_least v.east v.north in
      ⊎_elim
      (λ (big : 11 < nat_abs v.east). longer v (way_to width height east north) (omega (arith, r.short, far)))
      (λ (e : nat_abs v.east ≤ 11).
      ⊎_elim (λ (big : 11 < nat_abs v.north). longer v (way_to width height east north) (omega (arith, r.short, far)))
      (λ (n : nat_abs v.north ≤ 11).
      none_there (way_to width height east north) v.east v.north (counts_to width east counts) (counts_to height north counts) r.none
      (in_counts_to width east v.east counts (in_counts v.east e) t.0)
      (in_counts_to height north v.north counts (in_counts v.north n) t.1))
      (lt_or_ge 11 (nat_abs v.north)))
      (lt_or_ge 11 (nat_abs v.east))

pub least : LeastOfAll
least width height from to fine f t =
    let s = sizes.size width height fine in
    let x = mod-lt (to % width + (width - from % width)) s.width_low in
    let y = mod-lt (to / width + (height - from / width)) s.height_low in
    let none = least_of_all width height (offset width (from % width) (to % width)) (offset height (from / width) (to / width)) fine x y in
    record {
      there = taken_leads width height (offset width (from % width) (to % width)) (offset height (from / width) (to / width)) fine x y;
      none_better_lem = none;
      none_as_good = λ v l e. as_good v (way_between width height from to) (none v l) e;
    }
