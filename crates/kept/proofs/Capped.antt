-- A number that stops at the top: stopped after each sum or only after the last, it is the same.
use Rattle.std.proofs.Common.{◌≡◌, ℕ, ◌+◌, ◌≤◌, Bool, true, false, cond, ltb, sym, refl, ◌∙◌, arith, ltb-false, ltb-true}
use Rattle.kept.specs.Keeping.{most_units, capped}

capped_top : (n : ℕ) → most_units ≤ n → capped n ≡ most_units
capped_top n h = go (ltb most_units n) refl
  where
    go : (b : Bool) → ltb most_units n ≡ b → cond b most_units n ≡ most_units
    go true e = refl
    go false e = omega (arith, ltb-false most_units n e)

pub capped_le : (n : ℕ) → capped n ≤ most_units
capped_le n = go (ltb most_units n) refl
  where
    go : (b : Bool) → ltb most_units n ≡ b → cond b most_units n ≤ most_units
    go true e = omega arith
    go false e = ltb-false most_units n e

pub capped_some : (n : ℕ) → (n ≡ 0 → ⊥) → capped n ≡ 0 → ⊥
capped_some n some = go (ltb most_units n)
  where
    go : (b : Bool) → cond b most_units n ≡ 0 → ⊥
    go true z = omega (arith, z)
    go false z = some z

pub capped_sum : (a b : ℕ) → capped (capped a + b) ≡ capped (a + b)
capped_sum a b = go (ltb most_units a) refl
  where
    go : (t : Bool) → ltb most_units a ≡ t → capped (cond t most_units a + b) ≡ capped (a + b)
    go true e = capped_top (most_units + b) (omega arith) ∙ sym (capped_top (a + b) (omega (arith, ltb-true most_units a e)))
    go false e = refl
