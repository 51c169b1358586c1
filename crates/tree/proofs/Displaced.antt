-- What links lead to: signed steps east and north, the chip that is so far round the mesh, and at least as many links as a way with these steps has.
use Prim.Native.Nat.{ℕ, zero, suc, ◌+◌, ◌-◌, ◌/◌, ◌%◌, ◌≤◌, ◌<◌, max}
use mathlib.Core.Path.{◌≡◌, sym, ap, ◌∙◌}
use mathlib.Core.Bool.{Bool, true, false, cond}
use mathlib.Core.List.{List, [], ◌∷◌}
use native.Mathlib.Omega.{arith}
use native.Mathlib.Nat.{mod-lt, mod-eq_of_lt, mod-mod, mod-add-mod, add-mod-mod, div-eq_of_lt, mul-add-div_right, mul-add-mod_self_right}
use lib.Dec.{eqb, leb}
use lib.IntN.{ℤ, pos, negsuc, nat_abs, suc_ℤ, pred_ℤ}
use lib.ListN.{length}
use Rattle.lists.specs.Lists.{All}
use Rattle.links.specs.Across.{across, step_east, step_north}
use Rattle.tree.specs.Way.{shared_by, links_in, turned}
use Rattle.tree.specs.Promises.{chip_after}
use Rattle.tree.proofs.Rings as rings

-- ---- one link

abbrev pub move_east : ℕ → ℤ → ℤ
move_east i z = cond (leb i 1) (suc_ℤ z) (cond (eqb i 3) (pred_ℤ z) (cond (eqb i 4) (pred_ℤ z) z))

abbrev pub move_north : ℕ → ℤ → ℤ
move_north i z = cond (eqb i 1) (suc_ℤ z) (cond (eqb i 2) (suc_ℤ z) (cond (eqb i 4) (pred_ℤ z) (cond (eqb i 5) (pred_ℤ z) z)))

move_east_lem : (w i : ℕ) (z : ℤ) → turned (suc w) (move_east i z) ≡ (turned (suc w) z + step_east (suc w) i) % suc w
move_east_lem w i z = go (leb i 1) (eqb i 3) (eqb i 4)
  where
    go : (a b c : Bool) → turned (suc w) (cond a (suc_ℤ z) (cond b (pred_ℤ z) (cond c (pred_ℤ z) z))) ≡ (turned (suc w) z + cond a 1 (cond b (suc w - 1) (cond c (suc w - 1) 0))) % suc w
    go true b c = rings.one_forward w z
    go false true c = rings.one_back w z
    go false false true = rings.one_back w z
    go false false false = rings.standing w z

move_north_lem : (h i : ℕ) (z : ℤ) → turned (suc h) (move_north i z) ≡ (turned (suc h) z + step_north (suc h) i) % suc h
move_north_lem h i z = go (eqb i 1) (eqb i 2) (eqb i 4) (eqb i 5)
  where
    go : (a b c d : Bool)
        → turned (suc h) (cond a (suc_ℤ z) (cond b (suc_ℤ z) (cond c (pred_ℤ z) (cond d (pred_ℤ z) z))))
        ≡ (turned (suc h) z + cond a 1 (cond b 1 (cond c (suc h - 1) (cond d (suc h - 1) 0)))) % suc h
    go true b c d = rings.one_forward h z
    go false true c d = rings.one_forward h z
    go false false true d = rings.one_back h z
    go false false false true = rings.one_back h z
    go false false false false = rings.standing h z

-- ---- links one after the other, before other steps

unfoldable pub steps_by : (ℕ → ℤ → ℤ) → List ℕ → ℤ → ℤ
steps_by move [] z = z
steps_by move (i ∷ is) z = move i (steps_by move is z)

abbrev pub east_by : List ℕ → ℤ → ℤ
east_by is z = steps_by move_east is z

abbrev pub north_by : List ℕ → ℤ → ℤ
north_by is z = steps_by move_north is z

module _ (w h : ℕ) where
  -- a step and then more, round a ring
  joined : (size x s t : ℕ) → ((x + s) % size + t) % size ≡ (x + (t + s) % size) % size
  joined size x s t =
      let e : x + s + t ≡ x + (t + s) = omega arith in
      mod-add-mod (x + s) size t ∙ ap (λ (k : ℕ). k % size) e ∙ sym (add-mod-mod x (t + s) size)

  place_east : (chip i : ℕ) → across (suc w) (suc h) chip i % suc w ≡ (chip % suc w + step_east (suc w) i) % suc w
  place_east chip i =
      mul-add-mod_self_right ((chip / suc w + step_north (suc h) i) % suc h) (suc w) ((chip % suc w + step_east (suc w) i) % suc w)
      ∙ mod-mod (chip % suc w + step_east (suc w) i) (suc w)

  place_north : (chip i : ℕ) → across (suc w) (suc h) chip i / suc w ≡ (chip / suc w + step_north (suc h) i) % suc h
  place_north chip i =
      let low : (chip % suc w + step_east (suc w) i) % suc w < suc w = mod-lt _ (omega arith) in
      let some : 1 ≤ suc w = omega arith in
      omega (arith, mul-add-div_right some ((chip / suc w + step_north (suc h) i) % suc h) ((chip % suc w + step_east (suc w) i) % suc w), div-eq_of_lt low)

  pub ends_east : (chip : ℕ) (is : List ℕ) → chip_after (suc w) (suc h) chip is % suc w ≡ (chip % suc w + turned (suc w) (east_by is (pos 0))) % suc w
  unfolding chip_after steps_by
  ends_east chip [] =
      let none : 0 % suc w ≡ 0 = mod-eq_of_lt (omega arith) in
      let e : chip % suc w + 0 % suc w ≡ chip % suc w = omega arith in
      sym (ap (λ (k : ℕ). k % suc w) e ∙ mod-mod chip (suc w))
  ends_east chip (i ∷ is) =
      ends_east (across (suc w) (suc h) chip i) is
      ∙ ap (λ (k : ℕ). (k + turned (suc w) (east_by is (pos 0))) % suc w) (place_east chip i)
      ∙ joined (suc w) (chip % suc w) (step_east (suc w) i) (turned (suc w) (east_by is (pos 0)))
      ∙ ap (λ (k : ℕ). (chip % suc w + k) % suc w) (sym (move_east_lem w i (east_by is (pos 0))))

  pub ends_north : (chip : ℕ) (is : List ℕ) → chip / suc w < suc h → chip_after (suc w) (suc h) chip is / suc w ≡ (chip / suc w + turned (suc h) (north_by is (pos 0))) % suc h
  unfolding chip_after steps_by
  ends_north chip [] there =
      let none : 0 % suc h ≡ 0 = mod-eq_of_lt (omega arith) in
      let e : chip / suc w + 0 % suc h ≡ chip / suc w = omega arith in
      sym (ap (λ (k : ℕ). k % suc h) e ∙ mod-eq_of_lt there)
  ends_north chip (i ∷ is) there =
      let on : across (suc w) (suc h) chip i / suc w < suc h = rw (place_north chip i) (mod-lt _ (omega arith)) in
      ends_north (across (suc w) (suc h) chip i) is on
      ∙ ap (λ (k : ℕ). (k + turned (suc h) (north_by is (pos 0))) % suc h) (place_north chip i)
      ∙ joined (suc h) (chip / suc w) (step_north (suc h) i) (turned (suc h) (north_by is (pos 0)))
      ∙ ap (λ (k : ℕ). (chip / suc w + k) % suc h) (sym (move_north_lem h i (north_by is (pos 0))))

-- ---- a way has no more links than any that make its steps

up : ℤ → ℕ
up (pos n) = n
up (negsuc n) = 0

down : ℤ → ℕ
down (pos n) = 0
down (negsuc n) = suc n

by_both : (e n : ℤ) → nat_abs e + nat_abs n - shared_by e n ≡ max (up e) (up n) + max (down e) (down n)
unfolding up down
by_both (pos a) (pos b) = omega arith
by_both (negsuc a) (negsuc b) = omega arith
by_both (pos a) (negsuc b) = omega arith
by_both (negsuc a) (pos b) = omega arith

suc_few : (z : ℤ) → (up (suc_ℤ z) ≤ up z + 1) × (down (suc_ℤ z) ≤ down z)
unfolding up down
suc_few (pos n) = (omega arith, omega arith)
suc_few (negsuc zero) = (omega arith, omega arith)
suc_few (negsuc (suc n)) = (omega arith, omega arith)

pred_few : (z : ℤ) → (up (pred_ℤ z) ≤ up z) × (down (pred_ℤ z) ≤ down z + 1)
unfolding up down
pred_few (pos zero) = (omega arith, omega arith)
pred_few (pos (suc n)) = (omega arith, omega arith)
pred_few (negsuc n) = (omega arith, omega arith)

abbrev far : ℤ → ℤ → ℕ
far e n = max (up e) (up n) + max (down e) (down n)

one_link : (i : ℕ) (e n : ℤ) → i < 6 → far (move_east i e) (move_north i n) ≤ far e n + 1
one_link zero e n h = omega (arith, suc_few e)
one_link (suc zero) e n h = omega (arith, suc_few e, suc_few n)
one_link (suc (suc zero)) e n h = omega (arith, suc_few n)
one_link (suc (suc (suc zero))) e n h = omega (arith, pred_few e)
one_link (suc (suc (suc (suc zero)))) e n h = omega (arith, pred_few e, pred_few n)
one_link (suc (suc (suc (suc (suc zero))))) e n h = omega (arith, pred_few n)
one_link (suc (suc (suc (suc (suc (suc i)))))) e n h = absurd (omega arith)

few_steps : (is : List ℕ) → All (λ i. i < 6) is → far (east_by is (pos 0)) (north_by is (pos 0)) ≤ length is
unfolding steps_by All up down
few_steps [] a = omega arith
few_steps (i ∷ is) a = omega (arith, one_link i (east_by is (pos 0)) (north_by is (pos 0)) a.0, few_steps is a.1)

pub at_least : (is : List ℕ) → All (λ i. i < 6) is → links_in (record { east = east_by is (pos 0); north = north_by is (pos 0) }) ≤ length is
at_least is a = rw (by_both (east_by is (pos 0)) (north_by is (pos 0))) (few_steps is a)
