-- The links of the way that is taken lead from the one chip to the other, and none that do so are fewer: any links make signed steps that lead there, and no such steps are better.
use Prim.Native.Nat.{ℕ, zero, suc, ◌+◌, ◌-◌, ◌*◌, ◌/◌, ◌%◌, ◌≤◌, ◌<◌, min}
use mathlib.Core.Path.{◌≡◌, refl, sym, ap, ◌∙◌}
use mathlib.Core.Bool.{true, and-eq-true_iff}
use mathlib.Core.List.{List, [], ◌∷◌, ◌++◌}
use native.Mathlib.Omega.{arith}
use native.Mathlib.Nat.{mod-lt, div-lt_iff_lt-mul, div-add-mod'}
use borrow.Author.Tests.{eqb-true, eq-eqb, ltb-false}
use lib.Dec.{eqb, ltb}
use lib.IntN.{ℤ, pos, negsuc, neg_ℤ, suc_ℤ, pred_ℤ}
use lib.ListN.{length, replicate}
use Rattle.lists.specs.Lists.{All}
use Rattle.tables.specs.Sizes.{size_fine}
use Rattle.tables.proofs.Sizes as sizes
use Rattle.lists.proofs.Bools.{neither}
use Rattle.tree.specs.declared.Way.{Way}
use Rattle.tree.specs.Way.{links_in, links_of, turned, offset, way_between}
use Rattle.tree.specs.Promises.{chip_after, FewestLinks}
use Rattle.tree.proofs.Rings as rings
use Rattle.tree.proofs.Displaced.{steps_by, move_east, move_north, east_by, north_by, ends_east, ends_north, at_least}
use Rattle.tree.proofs.LinkByLink.{links_long}
use Rattle.tree.proofs.LeastOfAll.{least}

-- ---- links of one number, one after the other

module _ (move : ℕ → ℤ → ℤ) where
  steps_append : (xs ys : List ℕ) (z : ℤ) → steps_by move (xs ++ ys) z ≡ steps_by move xs (steps_by move ys z)
  unfolding steps_by
  steps_append [] ys z = refl
  steps_append (i ∷ xs) ys z = ap (move i) (steps_append xs ys z)

  forward : (i : ℕ) → ((z : ℤ) → move i z ≡ suc_ℤ z) → (k m : ℕ) → steps_by move (replicate k i) (pos m) ≡ pos (k + m)
  unfolding steps_by
  forward i e zero m = let none : m ≡ 0 + m = omega arith in ap pos none
  forward i e (suc k) m = let one : suc (k + m) ≡ suc k + m = omega arith in e _ ∙ ap suc_ℤ (forward i e k m) ∙ ap pos one

  one_back : (n : ℕ) → pred_ℤ (neg_ℤ (pos n)) ≡ neg_ℤ (pos (suc n))
  one_back zero = refl
  one_back (suc n) = refl

  back : (i : ℕ) → ((z : ℤ) → move i z ≡ pred_ℤ z) → (k m : ℕ) → steps_by move (replicate k i) (neg_ℤ (pos m)) ≡ neg_ℤ (pos (k + m))
  unfolding steps_by
  back i e zero m = let none : m ≡ 0 + m = omega arith in ap (λ (n : ℕ). neg_ℤ (pos n)) none
  back i e (suc k) m =
      let one : suc (k + m) ≡ suc k + m = omega arith in
      e _ ∙ ap pred_ℤ (back i e k m) ∙ one_back (k + m) ∙ ap (λ (n : ℕ). neg_ℤ (pos n)) one

  stay : (i : ℕ) → ((z : ℤ) → move i z ≡ z) → (k : ℕ) (z : ℤ) → steps_by move (replicate k i) z ≡ z
  unfolding steps_by
  stay i e zero z = refl
  stay i e (suc k) z = e _ ∙ stay i e k z

  legs : (a b c p q r : ℕ) (z : ℤ) → steps_by move (replicate a p ++ replicate b q ++ replicate c r) z ≡ steps_by move (replicate a p) (steps_by move (replicate b q) (steps_by move (replicate c r) z))
  legs a b c p q r z = steps_append (replicate a p ++ replicate b q) (replicate c r) z ∙ steps_append (replicate a p) (replicate b q) (steps_by move (replicate c r) z)

  -- first none, then others; two kinds that go on, and one that stays, in either order
  module _ (p q r a b c : ℕ) where
    on_first : ((z : ℤ) → move p z ≡ suc_ℤ z) → ((z : ℤ) → move q z ≡ suc_ℤ z) → ((z : ℤ) → move r z ≡ z) → steps_by move (replicate a p ++ replicate b q ++ replicate c r) (pos 0) ≡ pos (a + (b + 0))
    on_first ep eq er =
        legs a b c p q r (pos 0) ∙ ap (λ (z : ℤ). steps_by move (replicate a p) (steps_by move (replicate b q) z)) (stay r er c (pos 0))
        ∙ ap (steps_by move (replicate a p)) (forward q eq b 0)
        ∙ forward p ep a (b + 0)

    on_last : ((z : ℤ) → move p z ≡ suc_ℤ z) → ((z : ℤ) → move q z ≡ z) → ((z : ℤ) → move r z ≡ suc_ℤ z) → steps_by move (replicate a p ++ replicate b q ++ replicate c r) (pos 0) ≡ pos (a + (c + 0))
    on_last ep eq er =
        legs a b c p q r (pos 0) ∙ ap (λ (z : ℤ). steps_by move (replicate a p) (steps_by move (replicate b q) z)) (forward r er c 0)
        ∙ ap (steps_by move (replicate a p)) (stay q eq b (pos (c + 0)))
        ∙ forward p ep a (c + 0)

    back_first : ((z : ℤ) → move p z ≡ pred_ℤ z) → ((z : ℤ) → move q z ≡ pred_ℤ z) → ((z : ℤ) → move r z ≡ z) → steps_by move (replicate a p ++ replicate b q ++ replicate c r) (pos 0) ≡ neg_ℤ (pos (a + (b + 0)))
    back_first ep eq er =
        legs a b c p q r (pos 0) ∙ ap (λ (z : ℤ). steps_by move (replicate a p) (steps_by move (replicate b q) z)) (stay r er c (pos 0))
        ∙ ap (steps_by move (replicate a p)) (back q eq b 0)
        ∙ back p ep a (b + 0)

    back_last : ((z : ℤ) → move p z ≡ pred_ℤ z) → ((z : ℤ) → move q z ≡ z) → ((z : ℤ) → move r z ≡ pred_ℤ z) → steps_by move (replicate a p ++ replicate b q ++ replicate c r) (pos 0) ≡ neg_ℤ (pos (a + (c + 0)))
    back_last ep eq er =
        legs a b c p q r (pos 0) ∙ ap (λ (z : ℤ). steps_by move (replicate a p) (steps_by move (replicate b q) z)) (back r er c 0)
        ∙ ap (steps_by move (replicate a p)) (stay q eq b (neg_ℤ (pos (c + 0))))
        ∙ back p ep a (c + 0)

-- ---- the links of a way make its steps

-- a diagonal link that is not taken stands for one in the other direction
none_first : (move : ℕ → ℤ → ℤ) (p p' b c q r : ℕ) (z : ℤ) → steps_by move (replicate 0 p ++ replicate b q ++ replicate c r) z ≡ steps_by move (replicate 0 p' ++ replicate b q ++ replicate c r) z
none_first move p p' b c q r z = refl

east_of : (w : Way) → east_by (links_of w) (pos 0) ≡ w.east
unfolding links_of
east_of w = go w.east w.north
  where
    go : (e n : ℤ) → let v : Way = record { east = e; north = n } in east_by (links_of v) (pos 0) ≡ e
    go (pos a) (pos b) =
        let s = min a b in
        let whole : s + (a - s + 0) ≡ a = omega arith in
        on_first move_east 1 0 2 s (a - s) (b - s) (λ z. refl) (λ z. refl) (λ z. refl) ∙ ap pos whole
    go (pos a) (negsuc b) =
        let whole : 0 + (a - 0 + 0) ≡ a = omega arith in
        on_first move_east 1 0 5 0 (a - 0) (suc b - 0) (λ z. refl) (λ z. refl) (λ z. refl) ∙ ap pos whole
    go (negsuc a) (pos b) =
        let whole : 0 + (suc a - 0 + 0) ≡ suc a = omega arith in
        back_first move_east 4 3 2 0 (suc a - 0) (b - 0) (λ z. refl) (λ z. refl) (λ z. refl) ∙ ap (λ (k : ℕ). neg_ℤ (pos k)) whole
    go (negsuc a) (negsuc b) =
        let s = min (suc a) (suc b) in
        let whole : s + (suc a - s + 0) ≡ suc a = omega arith in
        back_first move_east 4 3 5 s (suc a - s) (suc b - s) (λ z. refl) (λ z. refl) (λ z. refl) ∙ ap (λ (k : ℕ). neg_ℤ (pos k)) whole

north_of : (w : Way) → north_by (links_of w) (pos 0) ≡ w.north
unfolding links_of
north_of w = go w.east w.north
  where
    go : (e n : ℤ) → let v : Way = record { east = e; north = n } in north_by (links_of v) (pos 0) ≡ n
    go (pos a) (pos b) =
        let s = min a b in
        let whole : s + (b - s + 0) ≡ b = omega arith in
        on_last move_north 1 0 2 s (a - s) (b - s) (λ z. refl) (λ z. refl) (λ z. refl) ∙ ap pos whole
    go (pos a) (negsuc b) =
        let whole : 0 + (suc b - 0 + 0) ≡ suc b = omega arith in
        none_first move_north 1 4 (a - 0) (suc b - 0) 0 5 (pos 0) ∙ back_last move_north 4 0 5 0 (a - 0) (suc b - 0) (λ z. refl) (λ z. refl) (λ z. refl)
        ∙ ap (λ (k : ℕ). neg_ℤ (pos k)) whole
    go (negsuc a) (pos b) =
        let whole : 0 + (b - 0 + 0) ≡ b = omega arith in
        none_first move_north 4 1 (suc a - 0) (b - 0) 3 2 (pos 0) ∙ on_last move_north 1 3 2 0 (suc a - 0) (b - 0) (λ z. refl) (λ z. refl) (λ z. refl) ∙ ap pos whole
    go (negsuc a) (negsuc b) =
        let s = min (suc a) (suc b) in
        let whole : s + (suc b - s + 0) ≡ suc b = omega arith in
        back_last move_north 4 3 5 s (suc a - s) (suc b - s) (λ z. refl) (λ z. refl) (λ z. refl) ∙ ap (λ (k : ℕ). neg_ℤ (pos k)) whole

-- ---- from a chip to another

module _ (w h from to : ℕ) (fine : size_fine (suc w) (suc h) ≡ true) (f : from < suc h * suc w) (t : to < suc h * suc w) where
  abbrev x : ℕ
  x = from % suc w

  abbrev y : ℕ
  y = from / suc w

  some : 0 < suc w
  some = omega arith

  below : (chip : ℕ) → chip < suc h * suc w → (chip % suc w < suc w) × (chip / suc w < suc h)
  below chip l = (mod-lt chip some, (div-lt_iff_lt-mul some).1 l)

  abbrev way : Way
  way = way_between (suc w) (suc h) from to

  there : (turned (suc w) way.east ≡ offset (suc w) x (to % suc w)) × (turned (suc h) way.north ≡ offset (suc h) y (to / suc w))
  there =
      let both = (and-eq-true_iff (eqb (turned (suc w) way.east) (offset (suc w) x (to % suc w))) (eqb (turned (suc h) way.north) (offset (suc h) y (to / suc w)))).0 (least (suc w) (suc h) from to fine f t).there in
      (eqb-true _ _ both.0, eqb-true _ _ both.1)

  arrived : chip_after (suc w) (suc h) from (links_of way) ≡ to
  arrived =
      let end = chip_after (suc w) (suc h) from (links_of way) in
      let east : end % suc w ≡ to % suc w =
      ends_east w h from (links_of way) ∙ ap (λ (z : ℤ). (x + turned (suc w) z) % suc w) (east_of way) ∙ ap (λ (k : ℕ). (x + k) % suc w) there.0
      ∙ rings.offset_leads w x (to % suc w) (below from f).0 (below to t).0 in
      let north : end / suc w ≡ to / suc w =
      ends_north w h from (links_of way) (below from f).1 ∙ ap (λ (z : ℤ). (y + turned (suc h) z) % suc h) (north_of way) ∙ ap (λ (k : ℕ). (y + k) % suc h) there.1
      ∙ rings.offset_leads h y (to / suc w) (below from f).1 (below to t).1 in
      sym (div-add-mod' end (suc w)) ∙ (λ i. north i * suc w + east i) ∙ div-add-mod' to (suc w)

  fewest : (links : List ℕ) → All (λ i. i < 6) links → chip_after (suc w) (suc h) from links ≡ to → length (links_of way) ≤ length links
  fewest links low e =
      let v : Way = record { east = east_by links (pos 0); north = north_by links (pos 0) } in
      let east = rings.offset_of w x (to % suc w) (turned (suc w) v.east) (below from f).0 (rings.turned_low w v.east) (sym (ends_east w h from links) ∙ ap (λ (k : ℕ). k % suc w) e) in
      let north = rings.offset_of h y (to / suc w) (turned (suc h) v.north) (below from f).1 (rings.turned_low h v.north) (sym (ends_north w h from links (below from f).1) ∙ ap (λ (k : ℕ). k / suc w) e) in
      let leads-there = (and-eq-true_iff (eqb (turned (suc w) v.east) (offset (suc w) x (to % suc w))) (eqb (turned (suc h) v.north) (offset (suc h) y (to / suc w)))).1 (eq-eqb _ _ east, eq-eqb _ _ north) in
      let not-better = (neither (ltb (links_in v) (links_in way)) _ ((least (suc w) (suc h) from to fine f t).none_better_lem v leads-there)).0 in
      omega (arith, links_long way, ltb-false (links_in v) (links_in way) not-better, at_least links low)

pub fewest_links : FewestLinks
fewest_links zero height from to fine f t = absurd (omega (arith, sizes.size 0 height fine))
fewest_links (suc w) zero from to fine f t = absurd (omega (arith, sizes.size (suc w) 0 fine))
fewest_links (suc w) (suc h) from to fine f t = record { arrives = arrived w h from to fine f t; none_shorter = fewest w h from to fine f t }
