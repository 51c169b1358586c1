-- A chip is within k links exactly where a way of at most k links leads from it.
use Prim.Native.Nat.{ℕ, zero, suc, ◌≤◌, ◌<◌}
use mathlib.Core.Path.{◌≡◌, refl, ap, ◌∙◌, subst}
use mathlib.Core.Bool.{Bool, true, false, ◌||◌, and-eq-true_iff, or-true}
use mathlib.Core.List.{List, [], ◌∷◌}
use native.Mathlib.Omega.{arith}
use lib.Dec.{ltb}
use lib.ListN.{length}
use borrow.Author.Tests.{lt-ltb, ltb-true, eq-eqb, eqb-true}
use Rattle.lists.proofs.Firsts.{first_holds}
use Rattle.mesh.specs.Mesh.{Mesh}
use Rattle.flood.specs.Ways.{is_up, beyond, Way, here, onward, leads_to, within}
use Rattle.flood.proofs.Levels.{first_least, first_to}

module _ {A : Type 0} (m : Mesh A) where
  -- a link that leads on, and the rest of the way
  pub record Onward (from to i : ℕ) (links : List ℕ) : Type 0 where
    pub link : i < 6
    pub up : is_up m from i ≡ true
    pub rest : Way m (beyond m from i) to links

  pub first_step : {from to i : ℕ} {links : List ℕ} → Way m from to (i ∷ links) → Onward from to i links
  first_step (onward from to i links h u w) = record { link = h; up = u; rest = w }

  pub leads : (to k from i : ℕ) → is_up m from i ≡ true → within m to k (beyond m from i) ≡ true → leads_to m (within m to k) from i ≡ true
  leads to k from i u w = (and-eq-true_iff (is_up m from i) (within m to k (beyond m from i))).1 (u, w)

  -- a way is counted
  pub way_within : {from to : ℕ} {links : List ℕ} → Way m from to links → within m to (length links) from ≡ true
  unfolding within
  way_within (here chip) = eq-eqb chip chip refl
  way_within (onward from to i links h u w) =
      let near : first_to m to (length links) from < 6 = omega (arith, first_least (leads_to m (within m to (length links)) from) 6 i (leads to (length links) from i u (way_within w))) in
      ap (λ (b : Bool). within m to (length links) from || b) (lt-ltb _ 6 near) ∙ or-true (within m to (length links) from)

  -- ---- what is counted is a way

  pub record WayIn (from to k : ℕ) : Type 0 where
    pub links : List ℕ
    pub way : Way m from to links
    pub short : length links ≤ k

  -- one that begins with a link
  pub record WayBy (from to k i : ℕ) : Type 0 where
    pub links : List ℕ
    pub way : Way m from to (i ∷ links)
    pub short : length links ≤ k

  by_first : (from to k : ℕ) → first_to m to k from < 6 → ((c : ℕ) → within m to k c ≡ true → WayIn c to k) → WayBy from to k (first_to m to k from)
  by_first from to k h next =
      let i = first_to m to k from in
      let both = (and-eq-true_iff (is_up m from i) (within m to k (beyond m from i))).0 (first_holds (leads_to m (within m to k) from) 6 h) in
      let x = next (beyond m from i) both.1 in
      record { links = x.links; way = onward from to i x.links h both.0 x.way; short = x.short }

  pub within_way : (to k from : ℕ) → within m to k from ≡ true → WayIn from to k
  unfolding within
  within_way to zero from e = record { links = []; way = subst (λ (c : ℕ). Way m from c []) (eqb-true from to e) (here from); short = omega arith }
  within_way to (suc k) from e = go (within m to k from) refl (within_way to k) e
    where
      go : (b : Bool) → within m to k from ≡ b → ((c : ℕ) → within m to k c ≡ true → WayIn c to k) → (b || ltb (first_to m to k from) 6) ≡ true → WayIn from to (suc k)
      go true w next f = let x = next from w in record { links = x.links; way = x.way; short = omega (arith, x.short) }
      go false w next f =
          let x = by_first from to k (ltb-true _ 6 f) next in
          record { links = first_to m to k from ∷ x.links; way = x.way; short = omega (arith, x.short) }

  pub way_by_first : (from to k : ℕ) → first_to m to k from < 6 → WayBy from to k (first_to m to k from)
  way_by_first from to k h = by_first from to k h (within_way to k)
