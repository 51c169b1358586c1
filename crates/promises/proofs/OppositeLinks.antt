-- The link opposite leads back: on a row or a column that wraps, the steps of a link and of the one opposite come to nothing, or once round.
use mathlib.Core.Path.{◌≡◌, refl, ap, ◌∙◌}
use mathlib.Core.Logic.{◌⊎◌, inl, inr}
use Prim.Native.Nat.{ℕ, zero, suc, ◌+◌, ◌*◌, ◌/◌, ◌%◌, ◌≤◌, ◌<◌}
use native.Mathlib.Omega.{arith}
use native.Mathlib.Nat.{mod-lt, mod-eq_of_lt, mod-add-mod, add-mod_right, div-add-mod', div-lt_iff_lt-mul, mul-add-div_right, mul-add-mod_self_right, div-eq_of_lt}
use Rattle.links.specs.Across.{step_east, step_north, across, opposite}

-- two steps that come to nothing, or once round
abbrev Back : ℕ → ℕ → ℕ → Type 0
Back n a b = (a + b ≡ 0) ⊎ (a + b ≡ n)

back_again : (n a b x : ℕ) → x < n → Back n a b → ((x + a) % n + b) % n ≡ x
back_again n a b x h back = mod-add-mod (x + a) n b ∙ go back
  where
    go : Back n a b → (x + a + b) % n ≡ x
    go (inl e) = let s : x + a + b ≡ x = omega arith in ap (λ (k : ℕ). k % n) s ∙ mod-eq_of_lt h
    go (inr e) = let s : x + a + b ≡ x + n = omega arith in ap (λ (k : ℕ). k % n) s ∙ add-mod_right x n ∙ mod-eq_of_lt h

north_back : (n i : ℕ) → 1 ≤ n → i < 6 → Back n (step_north n i) (step_north n (opposite i))
north_back n zero some h = inl refl
north_back n (suc zero) some h = inr (omega arith)
north_back n (suc (suc zero)) some h = inr (omega arith)
north_back n (suc (suc (suc zero))) some h = inl refl
north_back n (suc (suc (suc (suc zero)))) some h = inr (omega arith)
north_back n (suc (suc (suc (suc (suc zero))))) some h = inr (omega arith)
north_back n (suc (suc (suc (suc (suc (suc i)))))) some h = absurd (omega arith)

east_back : (n i : ℕ) → 1 ≤ n → i < 6 → Back n (step_east n i) (step_east n (opposite i))
east_back n zero some h = inr (omega arith)
east_back n (suc zero) some h = inr (omega arith)
east_back n (suc (suc zero)) some h = inl refl
east_back n (suc (suc (suc zero))) some h = inr (omega arith)
east_back n (suc (suc (suc (suc zero)))) some h = inr (omega arith)
east_back n (suc (suc (suc (suc (suc zero))))) some h = inl refl
east_back n (suc (suc (suc (suc (suc (suc i)))))) some h = absurd (omega arith)

pub there_and_back : (w h chip i : ℕ) → 1 ≤ w → 1 ≤ h → chip < h * w → i < 6 → across w h (across w h chip i) (opposite i) ≡ chip
there_and_back w h chip i wide high there near =
    let y : ℕ = (chip / w + step_north h i) % h in
    let x : ℕ = (chip % w + step_east w i) % w in
    let low : (chip % w + step_east w i) % w < w = mod-lt _ wide in
    let row : (y * w + x) / w ≡ y = omega (arith, mul-add-div_right wide y x, div-eq_of_lt low) in
    let column : (y * w + x) % w ≡ x = mul-add-mod_self_right y w x ∙ mod-eq_of_lt low in
    let north : (y + step_north h (opposite i)) % h ≡ chip / w = back_again h _ _ (chip / w) ((div-lt_iff_lt-mul wide).1 there) (north_back h i high near) in
    let east : (x + step_east w (opposite i)) % w ≡ chip % w = back_again w _ _ (chip % w) (mod-lt chip wide) (east_back w i wide near) in
    (λ j. (row j + step_north h (opposite i)) % h * w + (column j + step_east w (opposite i)) % w) ∙ (λ j. north j * w + east j) ∙ div-add-mod' chip w
