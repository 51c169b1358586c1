-- Parts of a list: one put back after a change, what stands in it, before it and behind it; one copied number by number.
use mathlib.Core.Path.{◌≡◌, sym, ap, ◌∙◌}
use mathlib.Core.List.{List, [], ◌∷◌, ◌++◌, append_assoc}
use Prim.Native.Nat.{ℕ, zero, suc, ◌+◌, ◌-◌, ◌≤◌, ◌<◌}
use native.Mathlib.Nat.{zero-add, suc-add}
use native.Mathlib.Numerals.{add-one}
use native.Mathlib.Omega.{arith}
use lib.ListN.{length, get_or, set, take, drop, length-take, length-drop, length-append}
use lib.Seq.{length-take-le, take-append-le, take_at, drop_at, drop-drop, take-take, take-nil, take-suc, drop-cons, set_at, get_or-take}
use Rattle.lists.specs.Lists.{part, put_back}

-- a part is the end of a beginning
pub take_drop : (b k : ℕ) (l : List ℕ) → take k (drop b l) ≡ drop b (take (b + k) l)
take_drop zero k l = ap (λ (m : ℕ). take m l) (sym (zero-add k))
take_drop (suc b) k [] = take-nil k ∙ sym (ap (λ (m : ℕ). drop (suc b) (take m [])) (suc-add b k))
take_drop (suc b) k (x ∷ l) = take_drop b k l ∙ ap (λ (m : ℕ). drop (suc b) (take m (x ∷ l))) (sym (suc-add b k))

-- one number more of s copied over d
pub copy_more : (d s : List ℕ) (j : ℕ) → j < length d → j < length s → set (take j s ++ drop j d) j (get_or s j 0) ≡ take (j + 1) s ++ drop (j + 1) d
copy_more d s j hd hs =
    let v = get_or s j 0 in
    ap (λ (r : List ℕ). set (take j s ++ r) j v) (drop-cons d j 0 hd)
    ∙ set_at (take j s) (get_or d j 0) (drop (suc j) d) v j (length-take-le j s (omega arith))
    ∙ sym (append_assoc (take j s) (v ∷ []) (drop (suc j) d))
    ∙ ap (λ (r : List ℕ). r ++ drop (suc j) d) (sym (take-suc s j 0 hs))
    ∙ ap (λ (k : ℕ). take k s ++ drop k d) (sym (add-one j))

module _ (a n : ℕ) (ys l : List ℕ) (fits : a + n ≤ length l) (long : length ys ≡ n) where
  front : length (take a l) ≡ a
  front = length-take-le a l (omega arith)

  pub length_back : length (put_back a n ys l) ≡ length l
  length_back = simp (length-append, length-take, length-drop) (omega arith)

  -- the part itself
  pub part_same : part a n (put_back a n ys l) ≡ ys
  part_same = ap (take n) (drop_at (take a l) (ys ++ drop n (drop a l)) a front) ∙ take_at ys (drop n (drop a l)) n long

  -- what stands before it
  pub take_before : (b : ℕ) → b ≤ a → take b (put_back a n ys l) ≡ take b l
  take_before b h = take-append-le b (take a l) _ (omega (arith, front)) ∙ take-take b a l h

  -- what stands behind it
  pub drop_behind : (b : ℕ) → a + n ≤ b → drop b (put_back a n ys l) ≡ drop b l
  drop_behind b h =
      let k : ℕ = b - (a + n) in
      let e : b ≡ a + (n + k) = omega arith in
      let tail : List ℕ = drop n (drop a l) in
      ap (λ (m : ℕ). drop m (put_back a n ys l)) e
      ∙ sym (drop-drop (n + k) a (put_back a n ys l))
      ∙ ap (drop (n + k)) (drop_at (take a l) (ys ++ tail) a front)
      ∙ sym (drop-drop k n (ys ++ tail))
      ∙ ap (drop k) (drop_at ys tail n long)
      ∙ drop-drop k n (drop a l)
      ∙ drop-drop (n + k) a l
      ∙ ap (λ (m : ℕ). drop m l) (sym e)

  pub part_behind : (b k : ℕ) → a + n ≤ b → part b k (put_back a n ys l) ≡ part b k l
  part_behind b k h = ap (take k) (drop_behind b h)

  pub part_before : (b k : ℕ) → b + k ≤ a → part b k (put_back a n ys l) ≡ part b k l
  part_before b k h = take_drop b k (put_back a n ys l) ∙ ap (drop b) (take_before (b + k) h) ∙ sym (take_drop b k l)

  pub get_d_before : (i : ℕ) → i < a → get_or (put_back a n ys l) i 0 ≡ get_or l i 0
  get_d_before i h = sym (get_or-take a (put_back a n ys l) i 0 h) ∙ ap (λ (m : List ℕ). get_or m i 0) (take_before a (omega arith)) ∙ get_or-take a l i 0 h
