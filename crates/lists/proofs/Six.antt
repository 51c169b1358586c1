-- Lists of six or nine written out, and stores to every place of a list of nine or ten, one after the other.
use mathlib.Core.Path.{◌≡◌, refl, ap}
use mathlib.Core.List.{List, [], ◌∷◌}
use Prim.Native.Nat.{ℕ}
use native.Mathlib.Omega.{arith}
use lib.ListN.{length, get_or, set}

-- six of anything, written out
pub six : {A : Type 0} (d : A) (l : List A) → length l ≡ 6 → l ≡ get_or l 0 d ∷ get_or l 1 d ∷ get_or l 2 d ∷ get_or l 3 d ∷ get_or l 4 d ∷ get_or l 5 d ∷ []
six d [] h = absurd (omega arith)
six d (a ∷ []) h = absurd (omega arith)
six d (a ∷ b ∷ []) h = absurd (omega arith)
six d (a ∷ b ∷ c ∷ []) h = absurd (omega arith)
six d (a ∷ b ∷ c ∷ e ∷ []) h = absurd (omega arith)
six d (a ∷ b ∷ c ∷ e ∷ f ∷ []) h = absurd (omega arith)
six d (a ∷ b ∷ c ∷ e ∷ f ∷ g ∷ []) h = refl
six d (a ∷ b ∷ c ∷ e ∷ f ∷ g ∷ i ∷ l) h = absurd (omega arith)

-- nine numbers
pub nine : (l : List ℕ) → length l ≡ 9
    → l ≡ get_or l 0 0 ∷ get_or l 1 0 ∷ get_or l 2 0 ∷ get_or l 3 0 ∷ get_or l 4 0 ∷ get_or l 5 0 ∷ get_or l 6 0 ∷ get_or l 7 0 ∷ get_or l 8 0 ∷ []
nine [] h = absurd (omega arith)
nine (a ∷ []) h = absurd (omega arith)
nine (a ∷ b ∷ []) h = absurd (omega arith)
nine (a ∷ b ∷ c ∷ l) h = ap (λ (k : List ℕ). a ∷ b ∷ c ∷ k) (six 0 l (omega arith))

pub nine_stores : (l : List ℕ) (a b c d e f g i j : ℕ) → length l ≡ 9
    → set (set (set (set (set (set (set (set (set l 0 a) 1 b) 2 c) 3 d) 4 e) 5 f) 6 g) 7 i) 8 j ≡ a ∷ b ∷ c ∷ d ∷ e ∷ f ∷ g ∷ i ∷ j ∷ []
nine_stores l a b c d e f g i j h =
    ap (λ (k : List ℕ). set (set (set (set (set (set (set (set (set k 0 a) 1 b) 2 c) 3 d) 4 e) 5 f) 6 g) 7 i) 8 j) (nine l h)

pub ten_stores : (l : List ℕ) (a b c d e f g i j k : ℕ) → length l ≡ 10 → set (set (set (set (set (set (set (set (set (set l 0 a) 1 b) 2 c) 3 d) 4 e) 5 f) 6 g) 7 i) 8 j) 9 k ≡ a ∷ b ∷ c ∷ d ∷ e ∷ f ∷ g ∷ i ∷ j ∷ k ∷ []
ten_stores [] a b c d e f g i j k h = absurd (omega arith)
ten_stores (p0 ∷ []) a b c d e f g i j k h = absurd (omega arith)
ten_stores (p0 ∷ p1 ∷ []) a b c d e f g i j k h = absurd (omega arith)
ten_stores (p0 ∷ p1 ∷ p2 ∷ []) a b c d e f g i j k h = absurd (omega arith)
ten_stores (p0 ∷ p1 ∷ p2 ∷ p3 ∷ []) a b c d e f g i j k h = absurd (omega arith)
ten_stores (p0 ∷ p1 ∷ p2 ∷ p3 ∷ p4 ∷ []) a b c d e f g i j k h = absurd (omega arith)
ten_stores (p0 ∷ p1 ∷ p2 ∷ p3 ∷ p4 ∷ p5 ∷ []) a b c d e f g i j k h = absurd (omega arith)
ten_stores (p0 ∷ p1 ∷ p2 ∷ p3 ∷ p4 ∷ p5 ∷ p6 ∷ []) a b c d e f g i j k h = absurd (omega arith)
ten_stores (p0 ∷ p1 ∷ p2 ∷ p3 ∷ p4 ∷ p5 ∷ p6 ∷ p7 ∷ []) a b c d e f g i j k h = absurd (omega arith)
ten_stores (p0 ∷ p1 ∷ p2 ∷ p3 ∷ p4 ∷ p5 ∷ p6 ∷ p7 ∷ p8 ∷ []) a b c d e f g i j k h = absurd (omega arith)
ten_stores (p0 ∷ p1 ∷ p2 ∷ p3 ∷ p4 ∷ p5 ∷ p6 ∷ p7 ∷ p8 ∷ p9 ∷ []) a b c d e f g i j k h = refl
ten_stores (p0 ∷ p1 ∷ p2 ∷ p3 ∷ p4 ∷ p5 ∷ p6 ∷ p7 ∷ p8 ∷ p9 ∷ p10 ∷ l) a b c d e f g i j k h = absurd (omega arith)
