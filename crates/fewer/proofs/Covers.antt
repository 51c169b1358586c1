-- Rows that cover others: what a covered row matches its coverer matches, and covering goes on from row to row.
use Prim.Native.Nat.{ℕ}
use mathlib.Core.Path.{◌≡◌, sym, ap, ◌∙◌}
use mathlib.Core.Bool.{true}
use lib.Bits.{bit_and}
use lib.Dec.{eqb}
use borrow.Author.Tests.{eqb-true, eq-eqb}
use Rattle.lists.proofs.Bools.{both, together}
use Rattle.tables.specs.Rows.{Entry, matches}
use Rattle.tables.proofs.Masked.{and_assoc, through}
use Rattle.fewer.specs.Process.{covers}

module _ (e r : Entry) where
  -- it looks at no bit that the row leaves open, and matches the row's key
  covers_parts : covers e r ≡ true → (bit_and e.mask r.mask ≡ e.mask) × (bit_and r.key e.mask ≡ e.key)
  covers_parts c =
      let parts = both (eqb (bit_and e.mask r.mask) e.mask) (matches r.key e.key e.mask) c in
      (eqb-true _ _ parts.0, eqb-true _ _ parts.1)

  pub covers_by : bit_and e.mask r.mask ≡ e.mask → bit_and r.key e.mask ≡ e.key → covers e r ≡ true
  covers_by m k = together (eq-eqb _ _ m) (eq-eqb _ _ k)

pub covered_matches : (e r : Entry) → covers e r ≡ true → (key : ℕ) → matches key r.key r.mask ≡ true → matches key e.key e.mask ≡ true
covered_matches e r c key m =
    let parts = covers_parts e r c in
    eq-eqb _ _ (through key e.mask r.mask parts.0 ∙ ap (λ (x : ℕ). bit_and x e.mask) (eqb-true (bit_and key r.mask) r.key m) ∙ parts.1)

pub covers_on : (e r s : Entry) → covers e r ≡ true → covers r s ≡ true → covers e s ≡ true
covers_on e r s c d =
    let first = covers_parts e r c in
    let second = covers_parts r s d in
    covers_by e s
    (ap (λ (x : ℕ). bit_and x s.mask) (sym first.0) ∙ and_assoc e.mask r.mask s.mask ∙ ap (bit_and e.mask) second.0 ∙ first.0)
    (through s.key e.mask r.mask first.0 ∙ ap (λ (x : ℕ). bit_and x e.mask) second.1 ∙ first.1)
