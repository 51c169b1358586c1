-- The processors that a list of targets names on a chip: those of the one target that names it, where no chip is named twice.
use Prim.Native.Nat.{ℕ}
use mathlib.Core.Path.{◌≡◌, refl, sym, ap, ◌∙◌}
use mathlib.Core.Bool.{Bool, true, false, cond, ◌||◌, true≢false}
use mathlib.Core.List.{List, [], ◌∷◌}
use borrow.Author.Tests.{eq-eqb, ne_eqb}
use lib.Bits.{bit_or, or_zero_l}
use lib.Dec.{eqb}
use Rattle.lists.proofs.Bools.{neither}
use Rattle.lists.specs.Lists.{All}
use Rattle.tree.specs.Rooted.{processors_on}
use Rattle.tree.specs.Growing.{Target}
use Rattle.tree.specs.Call.{is_in, named_again}

named_elsewhere : (chip others : ℕ) (t : Target) (ts : List Target) → (t.chip ≡ chip → ⊥) → processors_on chip others (t ∷ ts) ≡ processors_on chip others ts
unfolding processors_on
named_elsewhere chip others t ts n =
    ap (λ (b : Bool). processors_on chip (cond b (bit_or others t.processors) others) ts) (ne_eqb chip t.chip (λ e. n (sym e)))

pub not_named : (chip others : ℕ) (ts : List Target) → All (λ target. target.chip ≡ chip → ⊥) ts → processors_on chip others ts ≡ others
unfolding processors_on All
not_named chip others [] a = refl
not_named chip others (t ∷ ts) a = named_elsewhere chip others t ts a.0 ∙ not_named chip others ts a.1

-- ---- where no chip is named twice

-- a chip that was named before is not named
before : (chip : ℕ) (seen : List ℕ) (ts : List Target) → is_in chip seen ≡ true → named_again seen ts ≡ false → All (λ target. target.chip ≡ chip → ⊥) ts
unfolding named_again is_in All
before chip seen [] i e = tt
before chip seen (t ∷ ts) i e =
    let h = neither (is_in t.chip seen) _ e in
    (λ same. true≢false (sym (ap (λ (c : ℕ). is_in c seen) same ∙ i) ∙ h.0), before chip (t.chip ∷ seen) ts (later (eqb chip t.chip) i) h.1)
  where
    later : (b : Bool) → is_in chip seen ≡ true → (b || is_in chip seen) ≡ true
    later true i = refl
    later false i = i

-- the first target's processors, where no other names its chip
first_named : (t : Target) (ts : List Target) → All (λ target. target.chip ≡ t.chip → ⊥) ts → processors_on t.chip 0 (t ∷ ts) ≡ t.processors
unfolding processors_on
first_named t ts others =
    ap (λ (b : Bool). processors_on t.chip (cond b (bit_or 0 t.processors) 0) ts) (eq-eqb t.chip t.chip refl)
    ∙ not_named t.chip (bit_or 0 t.processors) ts others
    ∙ or_zero_l t.processors

pub each_named : (seen : List ℕ) (ts : List Target) → named_again seen ts ≡ false → All (λ target. processors_on target.chip 0 ts ≡ target.processors) ts
unfolding named_again is_in All
each_named seen [] e = tt
each_named seen (t ∷ ts) e =
    let h = neither (is_in t.chip seen) _ e in
    let others = before t.chip (t.chip ∷ seen) ts (ap (λ (b : Bool). b || is_in t.chip seen) (eq-eqb t.chip t.chip refl)) h.1 in
    (first_named t ts others, later ts others (each_named (t.chip ∷ seen) ts h.1))
  where
    later : (us : List Target) → All (λ target. target.chip ≡ t.chip → ⊥) us → All (λ target. processors_on target.chip 0 ts ≡ target.processors) us
        → All (λ target. processors_on target.chip 0 (t ∷ ts) ≡ target.processors) us
    later [] n a = tt
    later (u ∷ us) n a = (named_elsewhere u.chip 0 t ts (λ e. n.0 (sym e)) ∙ a.0, later us n.1 a.1)
