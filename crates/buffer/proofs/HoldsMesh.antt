-- A buffer that holds a mesh: its size, its length, its chips and their links, and each link's count word, at most 8.
use Rattle.std.proofs.Common.{◌≡◌, ℕ, zero, suc, ◌+◌, ◌*◌, ◌<◌, ◌≤◌, Bool, true, ◌&&◌, leb, ◌⊎◌, List, length, get_or, drop, subst, inl, inr, arith, length-drop, length-take-le, leb-true}
use mathlib.Core.Bool.{and-eq-true_iff}
use Rattle.tables.specs.Sizes.{size_fine}
use Rattle.tables.proofs.Sizes.{chips_small}
use Rattle.lists.specs.Lists.{part}
use Rattle.buffer.specs.Layout.{registers_in, chips_of, words_of}
use Rattle.buffer.specs.ChipWords.{link_words}
use Rattle.buffer.specs.OnePass.{chip_words}
use Rattle.mesh.specs.Sound.{registers_fine}
use Rattle.buffer.specs.Holding.{places_fine, link_fine, chip_fine, chips_fine, head_fine, holds_mesh}
use Rattle.buffer.specs.Held.{Few}
use Rattle.buffer.proofs.ChipParts.{order}
use Rattle.buffer.proofs.FineSteps.{head_size}
use Rattle.links.specs.Offsets.{width_at, height_at, header_long, state_at, held_at, places_at, registers_long, chip_long, chip_place}

-- ---- what a mesh that holds keeps

record Parts (a b c d : Bool) : Type 0 where
  first : a ≡ true
  second : b ≡ true
  third : c ≡ true
  fourth : d ≡ true

four : (a b c d : Bool) → (a && b && c && d) ≡ true → Parts a b c d
four a b c d e = let t = simp and-eq-true_iff at e in record { first = t.0.0.0; second = t.0.0.1; third = t.0.1; fourth = t.1 }

module _ (l : List ℕ) (holds : holds_mesh l ≡ true) where
  parts : Parts (leb header_long (length l)) (head_fine l) (leb (words_of l) (length l)) (chips_fine 0 (chips_of l) l)
  parts = four _ _ _ _ holds

  pub holds_head : head_fine l ≡ true
  holds_head = parts.second

  pub holds_chips : chips_fine 0 (chips_of l) l ≡ true
  holds_chips = parts.fourth

  pub holds_size : size_fine (get_or l width_at 0) (get_or l height_at 0) ≡ true
  holds_size = head_size l parts.second

  pub words_enough : words_of l ≤ length l
  words_enough = leb-true _ _ parts.third

-- each chip
chips_at : (n c k : ℕ) (l : List ℕ) → chips_fine c n l ≡ true → c ≤ k → k < c + n → chip_fine (chip_words k l) ≡ true
unfolding chips_fine
chips_at zero c k l e low high = absurd (omega arith)
chips_at (suc n) c k l e low high = go (order c k) (λ t h. chips_at n (suc c) k l t (omega arith) (omega arith))
  where
    both : (chip_fine (chip_words c l) ≡ true) × (chips_fine (suc c) n l ≡ true)
    both = (and-eq-true_iff (chip_fine (chip_words c l)) (chips_fine (suc c) n l)).0 e

    go : (c < k) ⊎ ((c ≡ k) ⊎ (k < c)) → (chips_fine (suc c) n l ≡ true → c < k → chip_fine (chip_words k l) ≡ true) → chip_fine (chip_words k l) ≡ true
    go (inl h) ih = ih both.1 h
    go (inr (inl h)) ih = subst (λ (i : ℕ). chip_fine (chip_words i l) ≡ true) h both.0
    go (inr (inr h)) ih = absurd (omega arith)

pub chip_held : (l : List ℕ) → holds_mesh l ≡ true → (c : ℕ) → c < chips_of l → chip_fine (chip_words c l) ≡ true
chip_held l holds c h = chips_at (chips_of l) 0 c l (parts l holds).fourth (omega arith) (omega arith)

-- each link of a chip
six_true : (r : Bool) (q : ℕ → Bool) → (r && q 0 && q 1 && q 2 && q 3 && q 4 && q 5) ≡ true → (j : ℕ) → j < 6 → q j ≡ true
six_true r q e zero h = let t = simp and-eq-true_iff at e in t.0.0.0.0.0.1
six_true r q e (suc zero) h = let t = simp and-eq-true_iff at e in t.0.0.0.0.1
six_true r q e (suc (suc zero)) h = let t = simp and-eq-true_iff at e in t.0.0.0.1
six_true r q e (suc (suc (suc zero))) h = let t = simp and-eq-true_iff at e in t.0.0.1
six_true r q e (suc (suc (suc (suc zero)))) h = let t = simp and-eq-true_iff at e in t.0.1
six_true r q e (suc (suc (suc (suc (suc zero))))) h = let t = simp and-eq-true_iff at e in t.1
six_true r q e (suc (suc (suc (suc (suc (suc j)))))) h = absurd (omega arith)

before_six : (r : Bool) (q : ℕ → Bool) → (r && q 0 && q 1 && q 2 && q 3 && q 4 && q 5) ≡ true → r ≡ true
before_six r q e = let t = simp and-eq-true_iff at e in t.0.0.0.0.0.0

pub link_held : (l : List ℕ) → chip_fine l ≡ true → (j : ℕ) → j < 6 → link_fine (link_words j l) ≡ true
link_held l e = six_true (registers_fine (registers_in (part 0 registers_long l))) (λ (j : ℕ). link_fine (link_words j l)) e

pub registers_held : (l : List ℕ) → chip_fine l ≡ true → registers_fine (registers_in (part 0 registers_long l)) ≡ true
registers_held l e = before_six (registers_fine (registers_in (part 0 registers_long l))) (λ (j : ℕ). link_fine (link_words j l)) e

-- the count word of each
pub held_few : (l : List ℕ) → holds_mesh l ≡ true → (c j : ℕ) → c < chips_of l → j < 6 → get_or (link_words j (chip_words c l)) held_at 0 ≤ 8
held_few l holds c j hc hj =
    let x = link_words j (chip_words c l) in
    let up = leb (get_or x state_at 0) 1 in
    let few = leb (get_or x held_at 0) 8 in
    let t = (and-eq-true_iff (up && few) (places_fine (get_or x held_at 0) (drop places_at x))).0 (link_held (chip_words c l) (chip_held l holds c hc) j hj) in
    leb-true _ _ ((and-eq-true_iff up few).0 t.0).1

-- each chip's words may be counted
pub few_held : (l : List ℕ) → holds_mesh l ≡ true → (c : ℕ) → c < chips_of l → Few (chip_words c l)
few_held l holds c h =
    record { long = length-take-le chip_long (drop (chip_place c) l) (simp length-drop (omega (arith, words_enough l holds))); few = λ j hj. held_few l holds c j h hj }

-- the chips: at most 144, all of them within the words
pub record Chips (l : List ℕ) (count : ℕ) : Type 0 where
  pub many : count ≤ 144
  pub fit : header_long + count * chip_long ≤ length l

pub chips_held : (l : List ℕ) (count : ℕ) → holds_mesh l ≡ true → count ≡ chips_of l → Chips l count
chips_held l count holds e =
    record {
      many = omega (arith, chips_small (get_or l width_at 0) (get_or l height_at 0) (holds_size l holds));
      fit = omega (arith, words_enough l holds);
    }
