-- 6 exactly where no way leads: a way of any length means one of fewer links than there are chips, and then the code is a link.
use Prim.Native.Nat.{ℕ, ◌<◌}
use mathlib.Core.Path.{◌≡◌, refl}
use mathlib.Core.Bool.{Bool, true, false, cond}
use mathlib.Core.List.{List}
use native.Mathlib.Omega.{arith}
use lib.Dec.{eqb, ltb}
use lib.ListN.{length}
use borrow.Author.Tests.{ltb-true}
use Rattle.lists.proofs.Firsts.{first_holds}
use Rattle.mesh.specs.Mesh.{Mesh, many}
use Rattle.mesh.specs.Sound.{SoundMesh}
use Rattle.flood.specs.Ways.{Way, within, fewest, first_link}
use Rattle.flood.specs.Codes.{code_of}
use Rattle.flood.specs.Shortest.{SixWhereNoWay}
use Rattle.flood.proofs.WaysWithin.{way_within, within_way}
use Rattle.flood.proofs.AllLevels.{all_levels}
use Rattle.flood.proofs.FirstLinks.{Reached, code_oneself, code_reached, link_below}

module _ {A : Type 0} (m : Mesh A) (sound : SoundMesh m) (from to : ℕ) (hf : from < many m) (ht : to < many m) where
  pub few_links : (links : List ℕ) → Way m from to links → fewest m from to < many m
  few_links links w = all_levels m to ht sound.size (length links) from hf (way_within m w)

  no_way : code_of m from to ≡ 6 → (links : List ℕ) → Way m from to links → ⊥
  no_way e links w = go (eqb from to) refl
    where
      go : (b : Bool) → eqb from to ≡ b → ⊥
      go true x = omega (arith, code_oneself m from to x)
      go false x = let r : Reached m from to = record { other = x; few = few_links links w } in omega (arith, code_reached m from to r, link_below m from to r)

  six : ((links : List ℕ) → Way m from to links → ⊥) → code_of m from to ≡ 6
  unfolding within
  six none = go (eqb from to) refl (ltb (fewest m from to) (many m)) refl
    where
      oneself : eqb from to ≡ true → within m to 0 from ≡ true
      oneself x = x

      found : (k : ℕ) → within m to k from ≡ true → ⊥
      found k e = let x = within_way m to k from e in none x.links x.way

      go : (a : Bool) → eqb from to ≡ a → (b : Bool) → ltb (fewest m from to) (many m) ≡ b → cond a 7 (cond b (first_link m from to) 6) ≡ 6
      go true x b y = absurd (found 0 (oneself x))
      go false x true y = absurd (found (fewest m from to) (first_holds (λ k. within m to k from) (many m) (ltb-true _ _ y)))
      go false x false y = refl

pub six_where_no_way : SixWhereNoWay
six_where_no_way A m sound from to hf ht = record { no_way = no_way m sound from to hf ht; six = six m sound from to hf ht }
