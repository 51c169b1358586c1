-- Of every size and every chip on it: the least of four ways is the best of all with small counts, and none of these is better. By computing it.
use Prim.Native.Nat.{ℕ, zero, suc, ◌≤◌, ◌<◌}
use mathlib.Core.Path.{◌≡◌, refl, sym, ap, subst}
use mathlib.Core.Bool.{Bool, true, not, ◌&&◌}
use mathlib.Core.List.{List, [], ◌∷◌}
use native.Mathlib.Omega.{arith}
use borrow.Author.Tests.{leb-true, eqb-true}
use lib.Dec.{leb, T}
use lib.IntN.{ℤ, pos, negsuc}
use Rattle.packet.proofs.Small.{every, at}
use Rattle.tables.specs.Sizes.{size_fine}
use Rattle.tables.proofs.Sizes as sizes
use Rattle.lists.proofs.Bools.{both}
use Rattle.tree.specs.declared.Way.{Way}
use Rattle.tree.specs.Way.{links_in, eq_z, better, leads, counts, counts_to, way_to}
use Rattle.tree.specs.Walking.{best_of_four}

unfoldable pub same_way : Way → Way → Bool
same_way v w = eq_z v.east w.east && eq_z v.north w.north

unfoldable pub none_north : Way → ℤ → List ℤ → Bool
none_north w e [] = true
none_north w e (n ∷ ns) = not (better (record { east = e; north = n }) w) && none_north w e ns

unfoldable pub none_better : Way → List ℤ → List ℤ → Bool
unfolding none_north
none_better w [] ns = true
none_better w (e ∷ es) ns = none_north w e ns && none_better w es ns

unfoldable pub right : ℕ → ℕ → ℕ → ℕ → Way → Way → Bool
unfolding none_better same_way
right width height east north four way =
    same_way four way && (leads width height east north way && (leb (links_in way) 11 && none_better way (counts_to width east counts) (counts_to height north counts)))

unfoldable pub all_right : Bool
unfolding every right way_to best_of_four
all_right = every 12 (λ w. every 12 (λ h. every (suc w) (λ x. every (suc h) (λ y. right (suc w) (suc h) x y (best_of_four (suc w) (suc h) x y) (way_to (suc w) (suc h) x y)))))

pub computed : all_right ≡ true
unfolding all_right
computed = refl

-- ---- what was computed, taken apart

pub record RightWay (width height east north : ℕ) : Type 0 where
  pub four : best_of_four width height east north ≡ way_to width height east north
  pub there : leads width height east north (way_to width height east north) ≡ true
  pub short : links_in (way_to width height east north) ≤ 11
  pub none : none_better (way_to width height east north) (counts_to width east counts) (counts_to height north counts) ≡ true

pub eq_z_true : (a b : ℤ) → eq_z a b ≡ true → a ≡ b
eq_z_true (pos a) (pos b) e = ap pos (eqb-true a b e)
eq_z_true (negsuc a) (negsuc b) e = ap negsuc (eqb-true a b e)
eq_z_true (pos a) (negsuc b) e = absurd (subst T (sym e) tt)
eq_z_true (negsuc a) (pos b) e = absurd (subst T (sym e) tt)

same_way_lem : (v w : Way) → same_way v w ≡ true → v ≡ w
unfolding same_way
same_way_lem v w e =
    let h = both (eq_z v.east w.east) (eq_z v.north w.north) e in
    λ i. record { east = eq_z_true v.east w.east h.0 i; north = eq_z_true v.north w.north h.1 i }

-- at every size and place

taken_apart : (width height east north : ℕ) → right width height east north (best_of_four width height east north) (way_to width height east north) ≡ true → RightWay width height east north
unfolding right
taken_apart width height east north e =
    let four = best_of_four width height east north in
    let way = way_to width height east north in
    let a = both (same_way four way) _ e in
    let b = both (leads width height east north way) _ a.1 in
    let c = both (leb (links_in way) 11) _ b.1 in
    record { four = same_way_lem four way a.0; there = b.0; short = leb-true (links_in way) 11 c.0; none = c.1 }

at_sizes : (w h x y : ℕ) → w < 12 → h < 12 → x < suc w → y < suc h → right (suc w) (suc h) x y (best_of_four (suc w) (suc h) x y) (way_to (suc w) (suc h) x y) ≡ true
unfolding all_right
at_sizes w h x y hw hh hx hy =
    at (suc h) (λ y. right (suc w) (suc h) x y (best_of_four (suc w) (suc h) x y) (way_to (suc w) (suc h) x y))
    (at (suc w) (λ x. every (suc h) (λ y. right (suc w) (suc h) x y (best_of_four (suc w) (suc h) x y) (way_to (suc w) (suc h) x y)))
    (at 12 (λ h. every (suc w) (λ x. every (suc h) (λ y. right (suc w) (suc h) x y (best_of_four (suc w) (suc h) x y) (way_to (suc w) (suc h) x y))))
    (at 12 (λ w. every 12 (λ h. every (suc w) (λ x. every (suc h) (λ y. right (suc w) (suc h) x y (best_of_four (suc w) (suc h) x y) (way_to (suc w) (suc h) x y))))) computed w hw)
    h
    hh)
    x
    hx)
    y
    hy

at_any : (width height east north : ℕ) → 1 ≤ width → width ≤ 12 → 1 ≤ height → height ≤ 12 → east < width → north < height → RightWay width height east north
at_any zero height east north a b c d x y = absurd (omega arith)
at_any (suc w) zero east north a b c d x y = absurd (omega arith)
at_any (suc w) (suc h) east north a b c d x y = taken_apart (suc w) (suc h) east north (at_sizes w h east north (omega arith) (omega arith) x y)

pub right_way : (width height east north : ℕ) → size_fine width height ≡ true → east < width → north < height → RightWay width height east north
right_way width height east north fine x y =
    let s = sizes.size width height fine in
    at_any width height east north s.width_low s.width_high s.height_low s.height_high x y
