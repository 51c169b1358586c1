-- Blocks of n words each, one behind the other: where they stand, and that no two share a word.
use Prim.Native.Nat.{ℕ, zero, suc, ◌+◌, ◌*◌, ◌-◌, ◌≤◌, ◌<◌}
use mathlib.Core.Path.{◌≡◌, refl, sym, ap, ◌∙◌}
use mathlib.Core.Logic.{⊎_elim}
use mathlib.Core.List.{List, [], ◌∷◌, ◌++◌}
use native.Mathlib.Omega.{arith}
use native.Mathlib.Nat.{mul-le-mul_right, le_antisymm}
use lib.ListN.{length, get_or, take, drop, length-append, get_or-append}
use lib.Seq.{get_or-append-add, take-suc, take-add, drop-drop}
use Rattle.lists.specs.Lists.{up_to, part}
use Rattle.lists.proofs.UpTo.{rest, upto_split}
use Rattle.lists.proofs.Firsts.{lt_or_ge}

-- block g ends where the blocks behind it begin, or before
pub block_end : (n g m : ℕ) → g < m → g * n + n ≤ m * n
block_end n g m h = let e : suc g * n ≡ g * n + n = omega arith in omega (arith, e, mul-le-mul_right n h)

-- words of two blocks are two words
pub block_apart : (n g h k l : ℕ) → (h ≡ g → ⊥) → k < n → l < n → h * n + k ≡ g * n + l → ⊥
block_apart n g h k l other a b e =
    ⊎_elim (λ (d : h < g). omega (arith, block_end n h g d))
    (λ (d : g ≤ h).
    ⊎_elim (λ (f : g < h). omega (arith, block_end n g h f)) (λ (f : h ≤ g). other (le_antisymm f d)) (lt_or_ge g h))
    (lt_or_ge h g)

module _ (f : ℕ → List ℕ) (n m : ℕ) (each : (g : ℕ) → g < m → length (f g) ≡ n) where
  pub blocks_long : (g : ℕ) → g ≤ m → length (up_to f g) ≡ g * n
  unfolding up_to
  blocks_long zero h = omega arith
  blocks_long (suc g) h =
      let e : suc g * n ≡ g * n + n = omega arith in
      omega (arith, e, length-append (up_to f g) (f g), blocks_long g (omega arith), each g (omega arith))

  -- what stands at k of block g
  pub blocks_at : (g k : ℕ) → g < m → k < n → get_or (up_to f m) (g * n + k) 0 ≡ get_or (f g) k 0
  blocks_at g k h l =
      ap (λ (j : ℕ). get_or (up_to f m) (j + k) 0) (sym (blocks_long g (omega arith)))
      ∙ ap (λ (xs : List ℕ). get_or xs (length (up_to f g) + k) 0) (upto_split f g m h)
      ∙ get_or-append-add (up_to f g) (f g ++ rest f (suc g) (m - suc g)) k 0
      ∙ get_or-append (f g) (rest f (suc g) (m - suc g)) 0 k (omega (arith, each g h))

-- one number each
module _ (f : ℕ → ℕ) where
  pub ones_length : (n : ℕ) → length (up_to (λ (g : ℕ). f g ∷ []) n) ≡ n
  ones_length n = blocks_long (λ (g : ℕ). f g ∷ []) 1 n (λ g h. refl) n (omega arith) ∙ omega arith

  pub ones_at : (n g : ℕ) → g < n → get_or (up_to (λ (g : ℕ). f g ∷ []) n) g 0 ≡ f g
  ones_at n g h =
      let e : g ≡ g * 1 + 0 = omega arith in
      ap (λ (k : ℕ). get_or (up_to (λ (g : ℕ). f g ∷ []) n) k 0) e ∙ blocks_at (λ (g : ℕ). f g ∷ []) 1 n (λ g h. refl) g 0 h (omega arith)

-- the first words of a list, one by one, and a part of it, block by block
pub take_ones : (l : List ℕ) (n : ℕ) → n ≤ length l → take n l ≡ up_to (λ (g : ℕ). get_or l g 0 ∷ []) n
unfolding up_to
take_ones l zero h = refl
take_ones l (suc n) h = take-suc l n 0 (omega arith) ∙ ap (λ (s : List ℕ). s ++ get_or l n 0 ∷ []) (take_ones l n (omega arith))

pub part_blocks : (l : List ℕ) (a n m : ℕ) → part a (m * n) l ≡ up_to (λ (g : ℕ). part (a + g * n) n l) m
unfolding up_to
part_blocks l a n zero = let e : zero * n ≡ 0 = omega arith in ap (λ (k : ℕ). take k (drop a l)) e
part_blocks l a n (suc m) =
    let e : suc m * n ≡ m * n + n = omega arith in
    ap (λ (k : ℕ). take k (drop a l)) e
    ∙ take-add (m * n) n (drop a l)
    ∙ (λ i. part_blocks l a n m i ++ take n (drop-drop (m * n) a l i))
