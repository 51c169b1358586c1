-- Steps round a ring: one step more is one place further, and the steps from a place to another are what is left of any that lead there.
use Prim.Native.Nat.{ℕ, zero, suc, ◌+◌, ◌-◌, ◌%◌, ◌≤◌, ◌<◌}
use mathlib.Core.Path.{◌≡◌, sym, ap, ◌∙◌}
use mathlib.Core.Logic.{⊎_elim}
use native.Mathlib.Omega.{arith}
use native.Mathlib.Nat.{mod-lt, mod-eq_of_lt, mod_self, mod-add-mod, add-mod-mod, add-mod_right, mod-eq-sub-mod}
use lib.IntN.{ℤ, pos, negsuc, suc_ℤ, pred_ℤ}
use Rattle.lists.proofs.Firsts.{lt_or_ge}
use Rattle.tree.specs.Way.{turned, offset}

module _ (w : ℕ) where
  abbrev size : ℕ
  size = suc w

  left_low : (n : ℕ) → n % size ≤ w
  left_low n = let h = mod-lt n {m = size} (omega arith) in omega arith

  -- what is left of one more
  one_more : (n : ℕ) → n % size < w → suc n % size ≡ n % size + 1
  one_more n h =
      let e : suc n ≡ n + 1 = omega arith in
      ap (λ (k : ℕ). k % size) e ∙ sym (mod-add-mod n size 1) ∙ mod-eq_of_lt (omega arith)

  one_round : (n : ℕ) → w ≤ n % size → suc n % size ≡ 0
  one_round n h =
      let e : suc n ≡ n + 1 = omega arith in
      let last : n % size + 1 ≡ size = omega (arith, left_low n) in
      ap (λ (k : ℕ). k % size) e ∙ sym (mod-add-mod n size 1) ∙ ap (λ (k : ℕ). k % size) last ∙ mod_self size

  by_round : {X : Type 0} (n : ℕ) → (n % size < w → suc n % size ≡ n % size + 1 → X) → (w ≤ n % size → suc n % size ≡ 0 → X) → X
  by_round n f g = ⊎_elim (λ (h : n % size < w). f h (one_more n h)) (λ (h : w ≤ n % size). g h (one_round n h)) (lt_or_ge (n % size) w)

  low : (k : ℕ) → k ≤ w → k % size ≡ k
  low k h = mod-eq_of_lt (omega arith)

  once_round : (k : ℕ) → size ≤ k → k ≤ w + w → k % size ≡ k - size
  once_round k h l = mod-eq-sub-mod h ∙ low (k - size) (omega arith)

  none : 0 % size ≡ 0
  none = low 0 (omega arith)

  pub turned_low : (z : ℤ) → turned size z < size
  turned_low (pos n) = omega (arith, left_low n)
  turned_low (negsuc n) = omega arith

  pub one_forward : (z : ℤ) → turned size (suc_ℤ z) ≡ (turned size z + 1) % size
  one_forward (pos n) = let e : suc n ≡ n + 1 = omega arith in ap (λ (k : ℕ). k % size) e ∙ sym (mod-add-mod n size 1)
  one_forward (negsuc zero) =
      let e : suc w - 1 - 0 % size + 1 ≡ size = omega (arith, none) in
      none ∙ sym (ap (λ (k : ℕ). k % size) e ∙ mod_self size)
  one_forward (negsuc (suc n)) =
      by_round n
      (λ h e. let f : suc w - 1 - suc n % size + 1 ≡ suc w - 1 - n % size = omega arith in sym (ap (λ (k : ℕ). k % size) f ∙ low _ (omega arith)))
      (λ h e.
      let f : suc w - 1 - suc n % size + 1 ≡ size = omega arith in
      let g : suc w - 1 - n % size ≡ 0 = omega (arith, left_low n) in
      g ∙ sym (ap (λ (k : ℕ). k % size) f ∙ mod_self size))

  pub one_back : (z : ℤ) → turned size (pred_ℤ z) ≡ (turned size z + (size - 1)) % size
  one_back (pos zero) =
      let e : 0 % size + (suc w - 1) ≡ w = omega (arith, none) in
      let f : suc w - 1 - 0 % size ≡ w = omega (arith, none) in
      f ∙ sym (ap (λ (k : ℕ). k % size) e ∙ low w (omega arith))
  one_back (pos (suc n)) =
      let e : suc n + (suc w - 1) ≡ n + size = omega arith in
      sym (mod-add-mod (suc n) size (suc w - 1) ∙ ap (λ (k : ℕ). k % size) e ∙ add-mod_right n size)
  one_back (negsuc n) =
      by_round n
      (λ h e.
      let f : suc w - 1 - suc n % size ≡ suc w - 1 - n % size + (suc w - 1) - size = omega arith in
      f ∙ sym (once_round (suc w - 1 - n % size + (suc w - 1)) (omega arith) (omega arith)))
      (λ h e.
      let f : suc w - 1 - n % size + (suc w - 1) ≡ w = omega (arith, left_low n) in
      let g : suc w - 1 - suc n % size ≡ w = omega arith in
      g ∙ sym (ap (λ (k : ℕ). k % size) f ∙ low w (omega arith)))

  pub standing : (z : ℤ) → turned size z ≡ (turned size z + 0) % size
  standing z =
      let h = turned_low z in
      let e : turned size z + 0 ≡ turned size z = omega arith in
      sym (ap (λ (k : ℕ). k % size) e ∙ mod-eq_of_lt h)

  -- steps that lead from a place to another, and the place that those of the offset lead to
  pub offset_of : (from to t : ℕ) → from < size → t < size → (from + t) % size ≡ to → t ≡ offset size from to
  offset_of from to t f h e =
      let all : from + t + (size - from) ≡ t + size = omega arith in
      sym (ap (λ (k : ℕ). (k + (size - from)) % size) (sym e) ∙ mod-add-mod (from + t) size (size - from) ∙ ap (λ (k : ℕ). k % size) all ∙ add-mod_right t size ∙ mod-eq_of_lt h)

  pub offset_leads : (from to : ℕ) → from < size → to < size → (from + offset size from to) % size ≡ to
  offset_leads from to f t =
      let all : from + (to + (size - from)) ≡ to + size = omega arith in
      add-mod-mod from (to + (size - from)) size ∙ ap (λ (k : ℕ). k % size) all ∙ add-mod_right to size ∙ mod-eq_of_lt t
