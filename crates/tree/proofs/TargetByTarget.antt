-- The targets of a list of words, cut off it one after the other, and the marks of the chips that were named.
use Prim.Native.Nat.{ℕ, ◌≤◌, ◌<◌, min}
use mathlib.Core.Path.{◌≡◌, refl, sym, ap, ◌∙◌}
use mathlib.Core.Bool.{Bool, true, false, cond, ◌&&◌, ◌||◌, and-eq-true_iff}
use mathlib.Core.List.{List, [], ◌∷◌, ◌++◌}
use native.Mathlib.Omega.{arith}
use native.Mathlib.Decide.{ℕ_discrete}
use borrow.Author.Tests.{lt-ltb, le-ltb, ltb-true, eq-eqb, ne_eqb}
use lib.Dec.{ltb, eqb}
use lib.ListN.{length, get_or, set, replicate, length-set, get_or-replicate}
use lib.Seq.{get_or-set_same, get_or-set_other}
use Rattle.tree.specs.Growing.{Target, targets_of, Grown, grown_by, with_target}
use Rattle.tree.specs.Call.{all_there, is_in, named_again, set_fine, sets_fine}
use Rattle.tree.specs.Walking.{target_of}

pub no_target : (words : List ℕ) → length words ≡ 0 → targets_of words ≡ []
unfolding targets_of
no_target [] e = refl
no_target (w ∷ ws) e = absurd (omega arith)

-- a target's words before those that are left: one or two
abbrev pub Cut : ℕ → List ℕ → List ℕ → List ℕ → Type 0
Cut pair words target after = (words ≡ target ++ after) × (length target ≡ min pair (length words)) × (0 < length words)

abbrev pub target_in : List ℕ → Target
target_in target = target_of (get_or target 0 0) (get_or target 1 0)

pub next_target : {pair : ℕ} (words target after : List ℕ) → pair ≡ 2 → Cut pair words target after → targets_of words ≡ target_in target ∷ targets_of after
unfolding targets_of
next_target words [] after two cut = absurd (omega (arith, cut.1, cut.2))
next_target words (c ∷ []) [] two cut = ap targets_of cut.0
next_target words (c ∷ []) (a ∷ rest) two cut = absurd (omega (arith, ap length cut.0, cut.1))
next_target words (c ∷ p ∷ []) after two cut = ap targets_of cut.0
next_target words (c ∷ p ∷ q ∷ ts) after two cut = absurd (omega (arith, cut.1))

module _ {pair : ℕ} (words target after : List ℕ) (two : pair ≡ 2) (cut : Cut pair words target after) where
  abbrev chip : ℕ
  chip = get_or target 0 0

  abbrev processors : ℕ
  processors = get_or target 1 0

  abbrev left : List Target
  left = targets_of words

  abbrev behind : List Target
  behind = targets_of after

  next : left ≡ target_in target ∷ behind
  next = next_target words target after two cut

  -- ---- chips on the mesh

  module _ (all : ℕ) where
    there_here : all_there all left ≡ (ltb chip all && all_there all behind)
    unfolding all_there
    there_here = ap (all_there all) next

    pub there_on : chip < all → all_there all left ≡ all_there all behind
    there_on l = there_here ∙ simp (lt-ltb chip all l)

    pub there_not : all ≤ chip → all_there all left ≡ false
    there_not l = there_here ∙ simp (le-ltb chip all l)

    pub there_chip : all_there all left ≡ true → chip < all
    there_chip e = ltb-true chip all ((and-eq-true_iff (ltb chip all) (all_there all behind)).0 (sym there_here ∙ e)).0

    pub there_after : all_there all left ≡ true → all_there all behind ≡ true
    there_after e = ((and-eq-true_iff (ltb chip all) (all_there all behind)).0 (sym there_here ∙ e)).1

  -- ---- processor sets

  sets_here : sets_fine left ≡ (set_fine processors && sets_fine behind)
  unfolding sets_fine
  sets_here = ap sets_fine next

  pub sets_on : set_fine processors ≡ true → sets_fine left ≡ sets_fine behind
  sets_on f = sets_here ∙ ap (λ (b : Bool). b && sets_fine behind) f

  pub sets_not : set_fine processors ≡ false → sets_fine left ≡ false
  sets_not f = sets_here ∙ ap (λ (b : Bool). b && sets_fine behind) f

  pub set_small : sets_fine left ≡ true → processors < 1048576
  set_small e =
      let fine = ((and-eq-true_iff (set_fine processors) (sets_fine behind)).0 (sym sets_here ∙ e)).0 in
      ltb-true processors 1048576 ((and-eq-true_iff (ltb 0 processors) (ltb processors 1048576)).0 fine).1

  pub sets_after : sets_fine left ≡ true → sets_fine behind ≡ true
  sets_after e = ((and-eq-true_iff (set_fine processors) (sets_fine behind)).0 (sym sets_here ∙ e)).1

  -- ---- the tree

  pub grown_on : (width height source : ℕ) (t : Grown) → grown_by width height source t left ≡ grown_by width height source (with_target width height source t (target_in target)) behind
  unfolding grown_by
  grown_on width height source t = ap (grown_by width height source t) next

pub there_end : (all : ℕ) (words : List ℕ) → length words ≡ 0 → all_there all (targets_of words) ≡ true
unfolding all_there
there_end all words e = ap (all_there all) (no_target words e)

pub sets_end : (words : List ℕ) → length words ≡ 0 → sets_fine (targets_of words) ≡ true
unfolding sets_fine
sets_end words e = ap sets_fine (no_target words e)

pub grown_end : (width height source : ℕ) (t : Grown) (words : List ℕ) → length words ≡ 0 → grown_by width height source t (targets_of words) ≡ t
unfolding grown_by
grown_end width height source t words e = ap (grown_by width height source t) (no_target words e)

-- ---- chips named twice, by the marks of those that were named

unfoldable pub marked_again : List Bool → List Target → Bool
marked_again named [] = false
marked_again named (t ∷ ts) = get_or named t.chip false || marked_again (set named t.chip true) ts

-- a chip has its mark exactly if it was named
pub record Marked (named : List Bool) (before : List ℕ) : Type 0 where
  pub long : length named ≡ 144
  pub marks : (c : ℕ) → c < 144 → get_or named c false ≡ is_in c before

marked_more : (named : List Bool) (before : List ℕ) (chip : ℕ) → chip < 144 → Marked named before → Marked (set named chip true) (chip ∷ before)
unfolding is_in
marked_more named before chip small m = record { long = simp length-set m.long; marks = λ c h. go c h (ℕ_discrete c chip) }
  where
    go : (c : ℕ) → c < 144 → Dec (c ≡ chip) → get_or (set named chip true) c false ≡ (eqb c chip || is_in c before)
    go c h (yes e) =
        ap (λ (n : ℕ). get_or (set named chip true) n false) e ∙ get_or-set_same named chip true false (omega (arith, m.long))
        ∙ sym (ap (λ (b : Bool). b || is_in c before) (eq-eqb c chip e))
    go c h (no e) = get_or-set_other named chip c true false e ∙ m.marks c h ∙ sym (ap (λ (b : Bool). b || is_in c before) (ne_eqb c chip e))

by_marks : (named : List Bool) (before : List ℕ) (ts : List Target) → Marked named before → all_there 144 ts ≡ true → named_again before ts ≡ marked_again named ts
unfolding named_again marked_again all_there
by_marks named before [] m e = refl
by_marks named before (t ∷ ts) m e =
    let both = (and-eq-true_iff (ltb t.chip 144) (all_there 144 ts)).0 e in
    let low : t.chip < 144 = ltb-true t.chip 144 both.0 in
    let on = by_marks (set named t.chip true) (t.chip ∷ before) ts (marked_more named before t.chip low m) both.1 in
    (λ i. sym (m.marks t.chip low) i || on i)

pub none_marked : (ts : List Target) → all_there 144 ts ≡ true → named_again [] ts ≡ marked_again (replicate 144 false) ts
unfolding is_in
none_marked ts e = by_marks (replicate 144 false) [] ts (record { long = refl; marks = λ c h. get_or-replicate 144 c false false h }) e

module _ {pair : ℕ} (words target after : List ℕ) (two : pair ≡ 2) (cut : Cut pair words target after) (named : List Bool) where
  again_here : marked_again named (targets_of words) ≡ (get_or named (get_or target 0 0) false || marked_again (set named (get_or target 0 0) true) (targets_of after))
  unfolding marked_again
  again_here = ap (marked_again named) (next_target words target after two cut)

  pub again_yes : get_or named (get_or target 0 0) false ≡ true → marked_again named (targets_of words) ≡ true
  again_yes e = again_here ∙ ap (λ (b : Bool). b || marked_again (set named (get_or target 0 0) true) (targets_of after)) e

  pub again_on : get_or named (get_or target 0 0) false ≡ false → marked_again named (targets_of words) ≡ marked_again (set named (get_or target 0 0) true) (targets_of after)
  again_on e = again_here ∙ ap (λ (b : Bool). b || marked_again (set named (get_or target 0 0) true) (targets_of after)) e

pub again_end : (named : List Bool) (words : List ℕ) → length words ≡ 0 → marked_again named (targets_of words) ≡ false
unfolding marked_again
again_end named words e = ap (marked_again named) (no_target words e)

-- a number that is 1 or 0 by a test
pub one_is : (b : Bool) → cond {A = ℕ} b 1 0 ≡ 1 → b ≡ true
one_is true e = refl
one_is false e = absurd (omega arith)

pub one_is_not : (b : Bool) → (cond {A = ℕ} b 1 0 ≡ 1 → ⊥) → b ≡ false
one_is_not true e = absurd (e refl)
one_is_not false e = refl

-- chips below a number are below a larger one
pub there_more : (a b : ℕ) (ts : List Target) → a ≤ b → all_there a ts ≡ true → all_there b ts ≡ true
unfolding all_there
there_more a b [] h e = refl
there_more a b (t ∷ ts) h e =
    let both = (and-eq-true_iff (ltb t.chip a) (all_there a ts)).0 e in
    let here : t.chip < b = omega (arith, ltb-true t.chip a both.0) in
    (and-eq-true_iff (ltb t.chip b) (all_there b ts)).1 (lt-ltb t.chip b here, there_more a b ts h both.1)
