-- The part of a way that is added: it begins within the tree, every chip after that is outside, and none comes twice, since a way that came back would not be shortest.
use Prim.Native.Nat.{ℕ, ◌*◌, ◌≤◌, ◌<◌}
use mathlib.Core.Path.{◌≡◌, refl, sym, ap, ◌∙◌}
use mathlib.Core.Bool.{Bool, true, false, cond}
use mathlib.Core.List.{List, [], ◌∷◌}
use native.Mathlib.Omega.{arith}
use borrow.Author.Tests.{eqb-true, eqb-false, not-true, not-false}
use lib.ListN.{length, get_or, set}
use lib.Seq.{get_or-set_other}
use Rattle.lists.specs.Lists.{All}
use Rattle.links.specs.Across.{across}
use Rattle.tree.specs.Growing.{Part, within, last_shared}
use Rattle.tree.specs.Promises.{chip_after}
use Rattle.tree.proofs.LowRoutes.{LinkLow}

module _ (width height : ℕ) where
  -- every chip that links lead to is outside the tree; none of them is a chip
  pub Out : List ℕ → ℕ → List ℕ → Type 0
  Out entered chip [] = Unit {0}
  Out entered chip (i ∷ is) = (get_or entered (across width height chip i) 0 ≡ 7) × Out entered (across width height chip i) is

  pub Avoids : ℕ → ℕ → List ℕ → Type 0
  Avoids d chip [] = Unit {0}
  Avoids d chip (i ∷ is) = (across width height chip i ≡ d → ⊥) × Avoids d (across width height chip i) is

  -- no links from a chip that lead to the same end are fewer
  abbrev pub Short : ℕ → List ℕ → Type 0
  Short chip is = (links : List ℕ) → All LinkLow links → chip_after width height chip links ≡ chip_after width height chip is → length is ≤ length links

  short_on : (chip i : ℕ) (is : List ℕ) → LinkLow i → Short chip (i ∷ is) → Short (across width height chip i) is
  unfolding chip_after All
  short_on chip i is low s links all e = omega (arith, s (i ∷ links) (low, all) e)

  -- links that are no more than the fewest to an end do not come by where the fewest begin
  avoid : (d bound end : ℕ) → ((links : List ℕ) → All LinkLow links → chip_after width height d links ≡ end → bound ≤ length links)
      → (chip : ℕ) (is : List ℕ) → All LinkLow is → length is ≤ bound → chip_after width height chip is ≡ end → Avoids d chip is
  unfolding chip_after All Avoids
  avoid d bound end s chip [] low few e = tt
  avoid d bound end s chip (i ∷ is) low few e =
      (λ back. absurd (omega (arith, s is low.1 (ap (λ (c : ℕ). chip_after width height c is) (sym back) ∙ e))), avoid d bound end s (across width height chip i) is low.1 (omega arith) e)

  pub never_back : (chip i : ℕ) (is : List ℕ) → All LinkLow (i ∷ is) → Short chip (i ∷ is) → Avoids (across width height chip i) (across width height chip i) is
  unfolding All
  never_back chip i is low s =
      avoid (across width height chip i) (length is) (chip_after width height (across width height chip i) is) (short_on chip i is low.0 s) (across width height chip i) is low.1 (omega arith) refl

  pub short_after : (chip i : ℕ) (is : List ℕ) → All LinkLow (i ∷ is) → Short chip (i ∷ is) → Short (across width height chip i) is
  unfolding All
  short_after chip i is low s = short_on chip i is low.0 s

  -- outside after a chip is entered that is not come by
  pub out_still : (entered : List ℕ) (d v chip : ℕ) (is : List ℕ) → Avoids d chip is → Out entered chip is → Out (set entered d v) chip is
  unfolding Out Avoids
  out_still entered d v chip [] a o = tt
  out_still entered d v chip (i ∷ is) a o = (get_or-set_other entered d (across width height chip i) v 0 a.0 ∙ o.0, out_still entered d v (across width height chip i) is a.1 o.1)

  pub out_first : (entered : List ℕ) (chip i : ℕ) (is : List ℕ) → Out entered chip (i ∷ is) → (get_or entered (across width height chip i) 0 ≡ 7) × Out entered (across width height chip i) is
  unfolding Out
  out_first entered chip i is o = o

  -- ---- the part after the last chip that is shared

  pub record NewPart (entered : List ℕ) (end : ℕ) (part : Part) : Type 0 where
    pub there : part.chip < height * width
    pub begun : get_or entered part.chip 0 ≡ 7 → ⊥
    pub low : All LinkLow part.links
    pub out : Out entered part.chip part.links
    pub short : Short part.chip part.links
    pub ends : chip_after width height part.chip part.links ≡ end

  module _ (on_mesh_lem : (chip i : ℕ) → across width height chip i < height * width) (entered : List ℕ) (end : ℕ) where
    -- a part that is all outside if the rest of the way is
    record SoFar (part : Part) (chip : ℕ) (is : List ℕ) : Type 0 where
      there : part.chip < height * width
      begun : get_or entered part.chip 0 ≡ 7 → ⊥
      low : All LinkLow part.links
      short : Short part.chip part.links
      ends : chip_after width height part.chip part.links ≡ end
      rest_low : All LinkLow is
      rest_short : Short chip is
      rest_ends : chip_after width height chip is ≡ end
      out : Out entered chip is → Out entered part.chip part.links

    new_part_lem : (part : Part) (chip : ℕ) (is : List ℕ) → SoFar part chip is → NewPart entered end (last_shared width height entered part chip is)
    unfolding last_shared chip_after All Out
    new_part_lem part chip [] s = record { there = s.there; begun = s.begun; low = s.low; out = s.out tt; short = s.short; ends = s.ends }
    new_part_lem part chip (i ∷ is) s =
        new_part_lem (cond (within entered (across width height chip i)) (record { chip = across width height chip i; links = is }) part) (across width height chip i) is
        (go (within entered (across width height chip i)) refl)
      where
        go : (b : Bool) → within entered (across width height chip i) ≡ b → SoFar (cond b (record { chip = across width height chip i; links = is }) part) (across width height chip i) is
        go true e = record {
          there = on_mesh_lem chip i;
          begun = eqb-false _ _ (not-true _ e);
          low = s.rest_low.1;
          short = short_after chip i is s.rest_low s.rest_short;
          ends = s.rest_ends;
          rest_low = s.rest_low.1;
          rest_short = short_after chip i is s.rest_low s.rest_short;
          rest_ends = s.rest_ends;
          out = λ o. o;
        }
        go false e = record {
          there = s.there;
          begun = s.begun;
          low = s.low;
          short = s.short;
          ends = s.ends;
          rest_low = s.rest_low.1;
          rest_short = short_after chip i is s.rest_low s.rest_short;
          rest_ends = s.rest_ends;
          out = λ o. s.out (eqb-true _ _ (not-false _ e), o);
        }

    pub whole_new : (source : ℕ) (way : List ℕ) → source < height * width → (get_or entered source 0 ≡ 7 → ⊥) → All LinkLow way → Short source way → chip_after width height source way ≡ end
        → NewPart entered end (last_shared width height entered (record { chip = source; links = way }) source way)
    whole_new source way there begun low short ends =
        new_part_lem (record { chip = source; links = way }) source way
        (record { there = there; begun = begun; low = low; short = short; ends = ends; rest_low = low; rest_short = short; rest_ends = ends; out = λ o. o })
