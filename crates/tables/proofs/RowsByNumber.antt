-- The rows of a lent table by their numbers: how many they are, and which words are a row's.
use mathlib.Core.Path.{◌≡◌, refl, sym, ◌∙◌}
use mathlib.Core.List.{List, [], ◌∷◌}
use Prim.Native.Nat.{ℕ, zero, suc, ◌+◌, ◌*◌, ◌/◌, ◌<◌}
use native.Mathlib.Omega.{arith}
use lib.ListN.{length, get_or}
use Rattle.tables.specs.Rows.{rows_of, blank_entry}

pub row_at : (s : List ℕ) (i : ℕ) → i * 3 + 2 < length s
    → get_or (rows_of s) i blank_entry ≡ record { key = get_or s (i * 3) 0; mask = get_or s (i * 3 + 1) 0; route = get_or s (i * 3 + 2) 0 }
unfolding rows_of
row_at [] i h = absurd (omega arith)
row_at (k ∷ []) i h = absurd (omega arith)
row_at (k ∷ m ∷ []) i h = absurd (omega arith)
row_at (k ∷ m ∷ r ∷ rest) zero h = refl
row_at (k ∷ m ∷ r ∷ rest) (suc i) h =
    let key : suc i * 3 ≡ suc (suc (suc (i * 3))) = omega arith in
    let mask : suc i * 3 + 1 ≡ suc (suc (suc (i * 3 + 1))) = omega arith in
    let route : suc i * 3 + 2 ≡ suc (suc (suc (i * 3 + 2))) = omega arith in
    let s : List ℕ = k ∷ m ∷ r ∷ rest in
    row_at rest i (omega arith) ∙ (λ j. record { key = get_or s (sym key j) 0; mask = get_or s (sym mask j) 0; route = get_or s (sym route j) 0 })

pub rows_many : (s : List ℕ) → length (rows_of s) ≡ length s / 3
unfolding rows_of
rows_many [] = refl
rows_many (k ∷ []) = refl
rows_many (k ∷ m ∷ []) = refl
rows_many (k ∷ m ∷ r ∷ rest) = omega (arith, rows_many rest)
