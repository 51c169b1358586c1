-- Sums of a function over the numbers below a bound: joined, by rows, turned round.
use mathlib.Core.Path.{◌≡◌, refl, sym, ap, ◌∙◌}
use mathlib.Core.List.{List, [], ◌∷◌}
use Prim.Native.Nat.{ℕ, zero, suc, ◌+◌, ◌*◌, ◌/◌, ◌%◌, ◌≤◌, ◌<◌}
use native.Mathlib.Nat.{add-zero, mod-eq_of_lt, mod_self, mod-add-mod, div-eq_of_lt, mul-add-div_right, mul-add-mod_self_right}
use native.Mathlib.Numerals.{add-one}
use native.Mathlib.Omega.{arith}
use lib.ListN.{length, get_or}
use Rattle.lists.specs.Lists.{total}

unfoldable pub sum_to : ℕ → (ℕ → ℕ) → ℕ
sum_to zero f = 0
sum_to (suc n) f = sum_to n f + f n

pub sum_same : (n : ℕ) (f g : ℕ → ℕ) → ((k : ℕ) → k < n → f k ≡ g k) → sum_to n f ≡ sum_to n g
unfolding sum_to
sum_same zero f g h = refl
sum_same (suc n) f g h = omega (arith, sum_same n f g (λ k l. h k (omega arith)), h n (omega arith))

pub sum_add : (n : ℕ) (f g : ℕ → ℕ) → sum_to n (λ (k : ℕ). f k + g k) ≡ sum_to n f + sum_to n g
unfolding sum_to
sum_add zero f g = refl
sum_add (suc n) f g = omega (arith, sum_add n f g)

-- the first one apart
pub sum_first : (n : ℕ) (f : ℕ → ℕ) → sum_to (suc n) f ≡ f 0 + sum_to n (λ (k : ℕ). f (suc k))
unfolding sum_to
sum_first zero f = omega arith
sum_first (suc n) f = omega (arith, sum_first n f)

pub sum_join : (m n : ℕ) (f : ℕ → ℕ) → sum_to (m + n) f ≡ sum_to m f + sum_to n (λ (k : ℕ). f (m + k))
unfolding sum_to
sum_join m zero f = ap (λ (k : ℕ). sum_to k f) (add-zero m) ∙ omega arith
sum_join m (suc n) f =
    let e : m + suc n ≡ suc (m + n) = omega arith in
    ap (λ (k : ℕ). sum_to k f) e ∙ omega (arith, sum_join m n f)

-- row by row
pub sum_rows : (h w : ℕ) (f : ℕ → ℕ) → sum_to (h * w) f ≡ sum_to h (λ (y : ℕ). sum_to w (λ (x : ℕ). f (y * w + x)))
unfolding sum_to
sum_rows zero w f = let e : 0 * w ≡ 0 = omega arith in ap (λ (n : ℕ). sum_to n f) e
sum_rows (suc h) w f =
    let e : suc h * w ≡ h * w + w = omega arith in
    ap (λ (n : ℕ). sum_to n f) e ∙ sum_join (h * w) w f ∙ ap (λ (n : ℕ). n + sum_to w (λ (x : ℕ). f (h * w + x))) (sum_rows h w f)

-- a list's total, place by place
pub total_sum : {X : Type 0} (w : X → ℕ) (l : List X) (d : X) → total w l ≡ sum_to (length l) (λ (k : ℕ). w (get_or l k d))
unfolding total sum_to
total_sum w [] d = refl
total_sum w (x ∷ l) d = ap (λ (n : ℕ). w x + n) (total_sum w l d) ∙ sym (sum_first (length l) (λ (k : ℕ). w (get_or (x ∷ l) k d)))

-- ---- turned round

-- by one
turn_one : (n : ℕ) (f : ℕ → ℕ) → sum_to (suc n) (λ (k : ℕ). f ((k + 1) % suc n)) ≡ sum_to (suc n) f
unfolding sum_to
turn_one n f =
    let inner : (k : ℕ) → k < n → f ((k + 1) % suc n) ≡ f (suc k) = λ k h. ap f (mod-eq_of_lt (omega arith) ∙ omega arith) in
    let last : f ((n + 1) % suc n) ≡ f 0 = ap (λ (i : ℕ). f (i % suc n)) (add-one n) ∙ ap f (mod_self (suc n)) in
    omega (arith, sum_same n (λ (k : ℕ). f ((k + 1) % suc n)) (λ (k : ℕ). f (suc k)) inner, last, sum_first n f)

turn_suc : (n e : ℕ) (f : ℕ → ℕ) → sum_to (suc n) (λ (k : ℕ). f ((k + e) % suc n)) ≡ sum_to (suc n) f
turn_suc n zero f = sum_same (suc n) _ f (λ k h. ap f (mod-eq_of_lt (omega arith) ∙ omega arith))
turn_suc n (suc e) f =
    sum_same (suc n) (λ (k : ℕ). f ((k + suc e) % suc n)) (λ (k : ℕ). f (((k + 1) % suc n + e) % suc n)) step
    ∙ turn_one n (λ (k : ℕ). f ((k + e) % suc n))
    ∙ turn_suc n e f
  where
    step : (k : ℕ) → k < suc n → f ((k + suc e) % suc n) ≡ f (((k + 1) % suc n + e) % suc n)
    step k h =
        let e' : k + suc e ≡ k + 1 + e = omega arith in
        ap (λ (i : ℕ). f (i % suc n)) e' ∙ ap f (sym (mod-add-mod (k + 1) (suc n) e))

-- by any number
pub sum_turn : (n e : ℕ) (f : ℕ → ℕ) → 1 ≤ n → sum_to n (λ (k : ℕ). f ((k + e) % n)) ≡ sum_to n f
sum_turn zero e f h = absurd (omega arith)
sum_turn (suc n) e f h = turn_suc n e f

-- a torus of w by h, turned by e along its rows and by n across them
module _ (w h e n : ℕ) (g : ℕ → ℕ) (wide : 1 ≤ w) (high : 1 ≤ h) where
  at_place : (y x : ℕ) → x < w → g (((y * w + x) / w + n) % h * w + ((y * w + x) % w + e) % w) ≡ g ((y + n) % h * w + (x + e) % w)
  at_place y x hx =
      let d : (y * w + x) / w ≡ y = omega (arith, mul-add-div_right wide y x, div-eq_of_lt hx) in
      let m : (y * w + x) % w ≡ x = mul-add-mod_self_right y w x ∙ mod-eq_of_lt hx in
      λ i. g ((d i + n) % h * w + (m i + e) % w)

  pub sum_torus : sum_to (h * w) (λ (c : ℕ). g ((c / w + n) % h * w + (c % w + e) % w)) ≡ sum_to (h * w) g
  sum_torus =
      sum_rows h w (λ (c : ℕ). g ((c / w + n) % h * w + (c % w + e) % w))
      ∙ sum_same h _ (λ (y : ℕ). sum_to w (λ (x : ℕ). g ((y + n) % h * w + x)))
      (λ y hy. sum_same w _ (λ (x : ℕ). g ((y + n) % h * w + (x + e) % w)) (at_place y) ∙ sum_turn w e (λ (x : ℕ). g ((y + n) % h * w + x)) wide)
      ∙ sum_turn h n (λ (y : ℕ). sum_to w (λ (x : ℕ). g (y * w + x))) high
      ∙ sym (sum_rows h w g)
