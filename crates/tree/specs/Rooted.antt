-- The tree is a tree: its links lead from the source to every chip of it, one to each, and its processors are those of its targets.
use Rattle.std.specs.Prelude.{ℕ, suc, ◌*◌, ◌/◌, ◌≤◌, ◌<◌, ◌≡◌, Bool, true, cond, List, [], ◌∷◌, eqb}
use Rattle.std.specs.Int.Bits.{bit_or}
use Rattle.lists.specs.Lists.{All}
use Rattle.steps.specs.Links.{has}
use Rattle.links.specs.Across.{across, opposite}
use Rattle.tree.specs.Growing.{Target, targets_of, Grown}
use Rattle.tree.specs.Rows.{entered_at, route_at}
use Rattle.tree.specs.Call.{grown_tree, refusal_of}

module _ (width height source : ℕ) (t : Grown) where
  -- Whether a link is one of the tree's: it is in the route of the chip that it leaves.
  abbrev pub is_link : ℕ → ℕ → Bool
  is_link chip i = has (route_at t chip) i

  pub record Rooted : Type 0 where
    pub root : entered_at t source ≡ 6
    pub only_root : (chip : ℕ) → chip < height * width → entered_at t chip ≡ 6 → chip ≡ source
    pub kinds : (chip : ℕ) → chip < height * width → entered_at t chip ≤ 7
    -- A chip outside has no route.
    pub outside : (chip : ℕ) → chip < height * width → entered_at t chip ≡ 7 → route_at t chip ≡ 0
    -- A link of the tree leads to a chip that was entered by it.
    pub entered_once : (chip i : ℕ) → chip < height * width → i < 6 → is_link chip i ≡ true → entered_at t (across width height chip i) ≡ i
    -- Every chip of the tree but the source is entered: by a link of the tree, from the chip that lies behind.
    pub entered_from : (chip : ℕ) → chip < height * width → entered_at t chip < 6
        → is_link (across width height chip (opposite (entered_at t chip))) (entered_at t chip) ≡ true
    -- A link leads one deeper, so that none leads back.
    pub depth : ℕ → ℕ
    pub top : depth source ≡ 0
    pub deeper : (chip i : ℕ) → chip < height * width → i < 6 → is_link chip i ≡ true → depth (across width height chip i) ≡ suc (depth chip)

-- The processors that a list of targets names on a chip, with others.
unfoldable pub processors_on : ℕ → ℕ → List Target → ℕ
processors_on chip others [] = others
processors_on chip others (t ∷ ts) = processors_on chip (cond (eqb chip t.chip) (bit_or others t.processors) others) ts

-- What an accepted call grows: a tree, with every target's chip in it, the processors that are named there, and no others.
pub record Grows (width height source : ℕ) (targets : List Target) (t : Grown) : Type 0 where
  pub rooted : Rooted width height source t
  -- No chip is entered twice.
  pub one_way_in : (c d i j : ℕ) → c < height * width → d < height * width → i < 6 → j < 6 → is_link width height source t c i ≡ true → is_link width height source t d j ≡ true
      → across width height c i ≡ across width height d j → (c ≡ d) × (i ≡ j)
  pub targets_within : All (λ target. entered_at t target.chip ≡ 7 → ⊥) targets
  pub processors : (chip : ℕ) → chip < height * width → route_at t chip / 64 ≡ processors_on chip 0 targets
  pub named : All (λ target. route_at t target.chip / 64 ≡ target.processors) targets
  pub no_others : (chip : ℕ) → chip < height * width → All (λ target. target.chip ≡ chip → ⊥) targets → route_at t chip / 64 ≡ 0

abbrev pub ATree : Type 0
ATree = (width height source key mask : ℕ) (words rows starts : List ℕ) → refusal_of width height source key mask words rows starts ≡ 0
    → Grows width height source (targets_of words) (grown_tree width height source key mask words)
