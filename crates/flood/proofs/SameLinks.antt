-- Two meshes of one size whose links are up alike have the same codes and the same fewest links.
use Prim.Native.Nat.{ℕ, zero, suc, ◌-◌, ◌*◌, ◌/◌, ◌%◌, ◌<◌}
use mathlib.Core.Path.{◌≡◌, refl, sym, ap, ◌∙◌}
use mathlib.Core.Bool.{Bool, true, cond, ◌&&◌, ◌||◌}
use mathlib.Core.List.{[], ◌∷◌}
use native.Mathlib.Nat.{div-lt_iff_lt-mul}
use lib.Dec.{eqb, ltb}
use Rattle.tables.specs.Sizes.{size_fine}
use Rattle.lists.specs.Firsts.{first_below}
use Rattle.lists.proofs.Firsts.{first_same}
use Rattle.lists.proofs.UpTo.{upto_same}
use Rattle.links.specs.Across.{across}
use Rattle.mesh.specs.Mesh.{Mesh, many}
use Rattle.flood.specs.Ways.{is_up, beyond, leads_to, within, fewest, first_link}
use Rattle.flood.specs.Codes.{code_of, codes_of}
use Rattle.flood.proofs.Levels.{beyond_there}
use Rattle.flood.proofs.ChipAfterChip.{each_of, code_at, codes_each, some_row}

pub record SameLinks {A : Type 0} (m n : Mesh A) : Type 0 where
  pub fine : size_fine m.width m.height ≡ true
  pub width : n.width ≡ m.width
  pub height : n.height ≡ m.height
  pub links : (chip i : ℕ) → chip < many m → i < 6 → is_up n chip i ≡ is_up m chip i

module _ {A : Type 0} (m n : Mesh A) (s : SameLinks m n) where
  pub many_same : many n ≡ many m
  many_same = λ j. s.height j * s.width j

  pub beyond_same : (chip i : ℕ) → beyond n chip i ≡ beyond m chip i
  beyond_same chip i = λ j. across (s.width j) (s.height j) chip i

  -- the lowest link to where a test holds
  leads_same : (good good' : ℕ → Bool) → ((c : ℕ) → c < many m → good c ≡ good' c) → (c : ℕ) → c < many m → first_below (leads_to n good c) 6 ≡ first_below (leads_to m good' c) 6
  leads_same good good' same c h =
      first_same (leads_to n good c) (leads_to m good' c) 6 (λ i hi j. s.links c i h hi j && (ap good (beyond_same c i) ∙ same (beyond m c i) (beyond_there m s.fine c i)) j)

  module _ (to : ℕ) where
    pub within_same : (k c : ℕ) → c < many m → within n to k c ≡ within m to k c
    unfolding within
    within_same zero c h = refl
    within_same (suc k) c h = λ j. within_same k c h j || ltb (leads_same (within n to k) (within m to k) (within_same k) c h j) 6

    pub fewest_same : (c : ℕ) → c < many m → fewest n c to ≡ fewest m c to
    fewest_same c h = ap (first_below (λ k. within n to k c)) many_same ∙ first_same (λ k. within n to k c) (λ k. within m to k c) (many m) (λ k l. within_same k c h)

    link_same : (c : ℕ) → c < many m → first_link n c to ≡ first_link m c to
    link_same c h =
        leads_same (within n to (fewest n c to - 1)) (within m to (fewest m c to - 1)) (λ d l. ap (λ (k : ℕ). within n to (k - 1) d) (fewest_same c h) ∙ within_same (fewest m c to - 1) d l) c h

    pub code_same : (c : ℕ) → c < many m → code_of n c to ≡ code_of m c to
    code_same c h = λ j. cond (eqb c to) 7 (cond (ltb (fewest_same c h j) (many_same j)) (link_same c h j) 6)

  pub codes_same : codes_of n ≡ codes_of m
  codes_same =
      codes_each n
      ∙ (λ j. each_of (λ k. code_of n (k / many_same j) (k % many_same j)) (many_same j * many_same j))
      ∙ upto_same (λ k. code_of n (k / many m) (k % many m) ∷ []) (λ k. code_at m k ∷ []) (many m * many m)
      (λ k h j. code_same (k % many m) (k / many m) ((div-lt_iff_lt-mul (some_row k (many m) h)).1 h) j ∷ [])
      ∙ sym (codes_each m)
