-- What each code says: 7 oneself, 6 no level within the count, and else a link, the first of a way that is counted.
use Prim.Native.Nat.{ℕ, zero, suc, ◌-◌, ◌≤◌, ◌<◌}
use mathlib.Core.Path.{◌≡◌, refl, sym, ap, ◌∙◌}
use mathlib.Core.Bool.{Bool, true, false, cond, ◌||◌, true≢false}
use native.Mathlib.Omega.{arith}
use lib.Dec.{eqb, ltb}
use borrow.Author.Tests.{lt-ltb, ltb-true}
use Rattle.lists.proofs.Firsts.{first_most, first_holds, before_first}
use Rattle.mesh.specs.Mesh.{Mesh, many}
use Rattle.flood.specs.Ways.{leads_to, within, fewest, first_link}
use Rattle.flood.specs.Codes.{code_of}
use Rattle.flood.proofs.Levels.{first_to}

module _ {A : Type 0} (m : Mesh A) (from to : ℕ) where
  pub link_most : first_link m from to ≤ 6
  link_most = omega (arith, first_most (leads_to m (within m to (fewest m from to - 1)) from) 6)

  -- a chip other than the destination, within
  pub record Reached : Type 0 where
    pub other : eqb from to ≡ false
    pub few : fewest m from to < many m

  pub code_oneself : eqb from to ≡ true → code_of m from to ≡ 7
  code_oneself e = ap (λ (b : Bool). cond b 7 (cond (ltb (fewest m from to) (many m)) (first_link m from to) 6)) e

  pub code_reached : Reached → code_of m from to ≡ first_link m from to
  code_reached r = rw (r.other, lt-ltb _ _ r.few)

  -- where the code is a link
  pub reached : code_of m from to < 6 → Reached
  reached h = go (eqb from to) refl (ltb (fewest m from to) (many m)) refl h
    where
      go : (a : Bool) → eqb from to ≡ a → (b : Bool) → ltb (fewest m from to) (many m) ≡ b → cond a 7 (cond b (first_link m from to) 6) < 6 → Reached
      go true x b y k = absurd (omega arith)
      go false x true y k = record { other = x; few = ltb-true _ _ y }
      go false x false y k = absurd (omega arith)

  module _ (r : Reached) where
    -- a way has a link at least
    pub some_links : suc (fewest m from to - 1) ≡ fewest m from to
    unfolding within
    some_links = go (fewest m from to) refl
      where
        go : (n : ℕ) → fewest m from to ≡ n → suc (n - 1) ≡ n
        go zero e = absurd (true≢false (sym (ap (λ (k : ℕ). within m to k from) (sym e) ∙ first_holds (λ k. within m to k from) (many m) r.few) ∙ r.other))
        go (suc n) e = omega arith

    -- the last level but one is too few, and the last is not
    pub link_below : first_link m from to < 6
    unfolding within
    link_below =
        let j = fewest m from to - 1 in
        let before : within m to j from ≡ false = before_first (λ k. within m to k from) (many m) j (omega (arith, some_links)) in
        let now : within m to (suc j) from ≡ true = ap (λ (k : ℕ). within m to k from) some_links ∙ first_holds (λ k. within m to k from) (many m) r.few in
        omega (arith, ltb-true (first_to m to j from) 6 (ap (λ (b : Bool). b || ltb (first_to m to j from) 6) (sym before) ∙ now))
