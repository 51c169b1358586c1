-- What is known of a call that a record keeps as it is, kind by kind, and how long its record is.
use mathlib.Core.Path.{◌≡◌, refl, sym, ◌∙◌}
use mathlib.Core.Logic.{◌⊎◌, inl, inr}
use mathlib.Core.Bool.{Bool, true, false, ◌&&◌, ◌||◌, and-eq-true_iff}
use mathlib.Core.List.{List, [], ◌∷◌}
use Prim.Native.Nat.{ℕ, ◌≤◌, ◌<◌}
use native.Mathlib.Omega.{arith}
use lib.Dec.{eqb, ltb, leb}
use lib.ListN.{length, get_or}
use borrow.Author.Tests.{eqb-true, eqb-false, ltb-true, leb-true}
use Rattle.records.specs.declared.Call.{Call}
use Rattle.records.specs.Records.{fields_fit, zeros_past, keepable}
use Rattle.records.proofs.ByKind.{by_1, by_2, by_3, by_else}

-- The kinds of a call that is kept, each with what its fields are.
pub data Kept (c : Call) : Type 0 where
  injection : c.kind ≡ 1 → c.chip < 65536 → c.link ≡ 0 → c.up ≡ 0 → (c.length ≡ 5) ⊎ (c.length ≡ 9) → Kept c
  round : c.kind ≡ 2 → c.chip ≡ 0 → c.link ≡ 0 → c.up ≡ 0 → c.length ≡ 0 → Kept c
  change : c.kind ≡ 3 → c.chip < 65536 → c.link < 256 → c.up ≤ 1 → c.length ≡ 0 → Kept c
  read : c.kind ≡ 4 → c.chip < 65536 → c.link ≡ 0 → c.up ≡ 0 → c.length ≡ 0 → Kept c

four : (a b c d : Bool) → (a && b && c && d) ≡ true → (a ≡ true) × ((b ≡ true) × ((c ≡ true) × (d ≡ true)))
four true true true true e = (refl, (refl, (refl, refl)))
four true true true false e = absurd (mathlib.Core.Bool.false≢true e)
four true true false d e = absurd (mathlib.Core.Bool.false≢true e)
four true false c d e = absurd (mathlib.Core.Bool.false≢true e)
four false b c d e = absurd (mathlib.Core.Bool.false≢true e)

either : (a b : Bool) → (a || b) ≡ true → (a ≡ true) ⊎ (b ≡ true)
either true b e = inl refl
either false b e = inr e

module _ (c : Call) (fits : fields_fit c ≡ true) where
  abbrev one : Bool
  one = ltb c.chip 65536 && eqb c.link 0 && eqb c.up 0 && (eqb c.length 5 || eqb c.length 9)

  abbrev two : Bool
  two = eqb c.chip 0 && eqb c.link 0 && eqb c.up 0 && eqb c.length 0

  abbrev three : Bool
  three = ltb c.chip 65536 && ltb c.link 256 && leb c.up 1 && eqb c.length 0

  abbrev other : Bool
  other = eqb c.kind 4 && ltb c.chip 65536 && eqb c.link 0 && eqb c.up 0 && eqb c.length 0

  kept_1 : c.kind ≡ 1 → Kept c
  kept_1 e =
      let h = four (ltb c.chip 65536) (eqb c.link 0) (eqb c.up 0) (eqb c.length 5 || eqb c.length 9) (sym (by_1 one two three other c.kind e) ∙ fits) in
      injection e (ltb-true _ _ h.0) (eqb-true _ _ h.1.0) (eqb-true _ _ h.1.1.0) (length_of (either (eqb c.length 5) (eqb c.length 9) h.1.1.1))
    where
      length_of : (eqb c.length 5 ≡ true) ⊎ (eqb c.length 9 ≡ true) → (c.length ≡ 5) ⊎ (c.length ≡ 9)
      length_of (inl x) = inl (eqb-true _ _ x)
      length_of (inr x) = inr (eqb-true _ _ x)

  kept_2 : c.kind ≡ 2 → Kept c
  kept_2 e =
      let h = four (eqb c.chip 0) (eqb c.link 0) (eqb c.up 0) (eqb c.length 0) (sym (by_2 one two three other c.kind e) ∙ fits) in
      round e (eqb-true _ _ h.0) (eqb-true _ _ h.1.0) (eqb-true _ _ h.1.1.0) (eqb-true _ _ h.1.1.1)

  kept_3 : c.kind ≡ 3 → Kept c
  kept_3 e =
      let h = four (ltb c.chip 65536) (ltb c.link 256) (leb c.up 1) (eqb c.length 0) (sym (by_3 one two three other c.kind e) ∙ fits) in
      change e (ltb-true _ _ h.0) (ltb-true _ _ h.1.0) (leb-true _ _ h.1.1.0) (eqb-true _ _ h.1.1.1)

  kept_else : (c.kind ≡ 1 → ⊥) → (c.kind ≡ 2 → ⊥) → (c.kind ≡ 3 → ⊥) → Kept c
  kept_else x y z =
      let h = four (eqb c.kind 4 && ltb c.chip 65536) (eqb c.link 0) (eqb c.up 0) (eqb c.length 0) (sym (by_else one two three other c.kind x y z) ∙ fits) in
      let k = (and-eq-true_iff (eqb c.kind 4) (ltb c.chip 65536)).0 h.0 in
      read (eqb-true _ _ k.0) (ltb-true _ _ k.1) (eqb-true _ _ h.1.0) (eqb-true _ _ h.1.1.0) (eqb-true _ _ h.1.1.1)

  kept_fields : Kept c
  kept_fields = go (eqb c.kind 1) (eqb c.kind 2) (eqb c.kind 3) refl refl refl
    where
      go : (x y z : Bool) → eqb c.kind 1 ≡ x → eqb c.kind 2 ≡ y → eqb c.kind 3 ≡ z → Kept c
      go true y z e f g = kept_1 (eqb-true _ _ e)
      go false true z e f g = kept_2 (eqb-true _ _ f)
      go false false true e f g = kept_3 (eqb-true _ _ g)
      go false false false e f g = kept_else (eqb-false _ _ e) (eqb-false _ _ f) (eqb-false _ _ g)

pub kept : (c : Call) → keepable c ≡ true → Kept c
kept c e = kept_fields c ((and-eq-true_iff (fields_fit c) (zeros_past c.length c.bytes)).0 e).0

-- ---- ranges

module _ {c : Call} where
  pub kind_small : Kept c → c.kind < 256
  kind_small (injection k a b d e) = omega arith
  kind_small (round k a b d e) = omega arith
  kind_small (change k a b d e) = omega arith
  kind_small (read k a b d e) = omega arith

  pub chip_small : Kept c → c.chip < 65536
  chip_small (injection k a b d e) = a
  chip_small (round k a b d e) = omega arith
  chip_small (change k a b d e) = a
  chip_small (read k a b d e) = a

  pub link_small : Kept c → c.link < 256
  link_small (injection k a b d e) = omega arith
  link_small (round k a b d e) = omega arith
  link_small (change k a b d e) = b
  link_small (read k a b d e) = omega arith

  pub up_small : Kept c → c.up ≤ 1
  up_small (injection k a b d e) = omega arith
  up_small (round k a b d e) = omega arith
  up_small (change k a b d e) = d
  up_small (read k a b d e) = omega arith

  pub length_small : Kept c → c.length ≤ 9
  length_small (injection k a b d (inl e)) = omega arith
  length_small (injection k a b d (inr e)) = omega arith
  length_small (round k a b d e) = omega arith
  length_small (change k a b d e) = omega arith
  length_small (read k a b d e) = omega arith

  pub injection_length : Kept c → c.kind ≡ 1 → (c.length ≡ 9 → ⊥) → c.length ≡ 5
  injection_length (injection k a b d (inl e)) f other = e
  injection_length (injection k a b d (inr e)) f other = absurd (other e)
  injection_length (round k a b d e) f other = absurd (omega arith)
  injection_length (change k a b d e) f other = absurd (omega arith)
  injection_length (read k a b d e) f other = absurd (omega arith)

  pub read_kind : Kept c → (c.kind ≡ 1 → ⊥) → (c.kind ≡ 2 → ⊥) → (c.kind ≡ 3 → ⊥) → c.kind ≡ 4
  read_kind (injection k a b d e) x y z = absurd (x k)
  read_kind (round k a b d e) x y z = absurd (y k)
  read_kind (change k a b d e) x y z = absurd (z k)
  read_kind (read k a b d e) x y z = k

-- ---- the record

-- a list of nine is its nine elements
pub nine_of_lem : (b : List ℕ) → length b ≡ 9
    → b ≡ get_or b 0 0 ∷ get_or b 1 0 ∷ get_or b 2 0 ∷ get_or b 3 0 ∷ get_or b 4 0 ∷ get_or b 5 0 ∷ get_or b 6 0 ∷ get_or b 7 0 ∷ get_or b 8 0 ∷ []
nine_of_lem (a ∷ b ∷ c ∷ d ∷ e ∷ f ∷ g ∷ h ∷ i ∷ []) p = refl
nine_of_lem [] p = absurd (omega arith)
nine_of_lem (a ∷ []) p = absurd (omega arith)
nine_of_lem (a ∷ b ∷ []) p = absurd (omega arith)
nine_of_lem (a ∷ b ∷ c ∷ []) p = absurd (omega arith)
nine_of_lem (a ∷ b ∷ c ∷ d ∷ []) p = absurd (omega arith)
nine_of_lem (a ∷ b ∷ c ∷ d ∷ e ∷ []) p = absurd (omega arith)
nine_of_lem (a ∷ b ∷ c ∷ d ∷ e ∷ f ∷ []) p = absurd (omega arith)
nine_of_lem (a ∷ b ∷ c ∷ d ∷ e ∷ f ∷ g ∷ []) p = absurd (omega arith)
nine_of_lem (a ∷ b ∷ c ∷ d ∷ e ∷ f ∷ g ∷ h ∷ []) p = absurd (omega arith)
nine_of_lem (a ∷ b ∷ c ∷ d ∷ e ∷ f ∷ g ∷ h ∷ i ∷ j ∷ k) p = absurd (omega arith)
