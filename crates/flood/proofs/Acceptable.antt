-- The codes are acceptable to injection and round: as many as chips times chips, none above 7.
use Prim.Native.Nat.{ℕ, zero, suc, ◌*◌, ◌/◌, ◌%◌, ◌<◌}
use mathlib.Core.Path.{◌≡◌, refl, ap, ◌∙◌}
use mathlib.Core.Bool.{Bool, true, false, cond, ◌&&◌}
use mathlib.Core.List.{List, [], ◌∷◌, ◌++◌}
use native.Mathlib.Omega.{arith}
use lib.Dec.{eqb, ltb}
use borrow.Author.Tests.{lt-ltb, eq-eqb}
use Rattle.tables.specs.Accept.{all_codes, codes_fine}
use Rattle.lists.specs.Lists.{up_to}
use Rattle.mesh.specs.Mesh.{Mesh, many}
use Rattle.flood.specs.Ways.{fewest, first_link}
use Rattle.flood.specs.Codes.{code_of}
use Rattle.flood.specs.Shortest.{Acceptable}
use Rattle.flood.proofs.FirstLinks.{link_most}
use Rattle.flood.proofs.ChipAfterChip.{each_of, long_each, code_at, codes_each}

all_append : (xs ys : List ℕ) → all_codes (xs ++ ys) ≡ (all_codes xs && all_codes ys)
unfolding all_codes
all_append [] ys = refl
all_append (c ∷ xs) ys = go (ltb c 8) (all_append xs ys)
  where
    go : (b : Bool) → all_codes (xs ++ ys) ≡ (all_codes xs && all_codes ys) → (b && all_codes (xs ++ ys)) ≡ ((b && all_codes xs) && all_codes ys)
    go true e = e
    go false e = refl

-- numbers below 8, one after the other
module _ (g : ℕ → ℕ) (low : (k : ℕ) → g k < 8) where
  all_each : (n : ℕ) → all_codes (each_of g n) ≡ true
  unfolding up_to all_codes
  all_each zero = refl
  all_each (suc n) = all_append (each_of g n) (g n ∷ []) ∙ (λ i. all_each n i && (lt-ltb (g n) 8 (low n) i && true))

code_low : {A : Type 0} (m : Mesh A) (from to : ℕ) → code_of m from to < 8
code_low m from to = go (eqb from to) (ltb (fewest m from to) (many m))
  where
    go : (a b : Bool) → cond a 7 (cond b (first_link m from to) 6) < 8
    go true b = omega arith
    go false true = omega (arith, link_most m from to)
    go false false = omega arith

pub acceptable : Acceptable
acceptable A m =
    ap (λ (l : List ℕ). codes_fine l (many m * many m)) (codes_each m)
    ∙ (λ i. eq-eqb _ _ (long_each (code_at m) (many m * many m)) i && all_each (code_at m) (λ k. code_low m (k / many m) (k % many m)) (many m * many m) i)
