-- One row number more at the end of its group so far: all that stood in the room still stands, because two groups share no word.
use Prim.Native.Nat.{ℕ, suc, ◌+◌, ◌*◌, ◌≤◌, ◌<◌}
use mathlib.Core.Path.{◌≡◌, refl, sym, ap, ◌∙◌, subst}
use mathlib.Core.Logic.{⊎_elim}
use mathlib.Core.Bool.{Bool, true, false, cond, true≢false}
use mathlib.Core.List.{List}
use native.Mathlib.Omega.{arith}
use native.Mathlib.Nat.{le_antisymm}
use borrow.Author.Tests.{eq-eqb, ne_eqb}
use lib.ListN.{length, get_or, set, length-set}
use lib.Seq.{get_or-set_same, get_or-set_other}
use Rattle.lists.proofs.Firsts.{lt_or_ge}
use Rattle.tables.specs.Rows.{Entry}
use Rattle.groups.specs.Groups.{group_of, is_in, room_for}
use Rattle.groups.specs.Building.{Placed, Kept, PutFits, after_put}
use Rattle.groups.proofs.Blocks.{block_end, block_apart}

-- of one number, and of all others
pub one_and_others : (P : ℕ → Type 0) (g : ℕ) → P g → ((h : ℕ) → (h ≡ g → ⊥) → P h) → (h : ℕ) → P h
one_and_others P g here other h =
    ⊎_elim (λ (l : h < g). other h (λ e. omega arith))
    (λ (l : g ≤ h). ⊎_elim (λ (m : g < h). other h (λ e. omega arith)) (λ (m : h ≤ g). subst P (le_antisymm l m) here) (lt_or_ge g h))
    (lt_or_ge h g)

-- the count of a group that is listed may be said in other words
pub said_so : (tops : List ℕ) (rows : List Entry) (many many' : ℕ → ℕ) (room : List ℕ) → ((g : ℕ) → g < 256 → is_in g tops ≡ true → many' g ≡ many g)
    → Placed tops rows many room → Placed tops rows many' room
said_so tops rows many many' room same p =
    record {
      words = λ g h. p.words g h ∙ go g h (is_in g tops) refl;
      there = λ g k h l m. p.there g k h l (omega (arith, same g h l));
    }
  where
    go : (g : ℕ) → g < 256 → (b : Bool) → is_in g tops ≡ b → cond b (suc (many g)) 0 ≡ cond b (suc (many' g)) 0
    go g h true e = ap suc (sym (same g h e))
    go g h false e = refl

-- where more is written, less is kept
module _ (tops : List ℕ) (n : ℕ) where
  pub kept_less : (many many' : ℕ → ℕ) (room₀ room : List ℕ) → ((g : ℕ) → g < 256 → is_in g tops ≡ true → many g ≤ many' g) → Kept tops n many room₀ room → Kept tops n many' room₀ room
  kept_less many many' room₀ room most p = record { same = λ j h u. p.same j h (λ g k s l m e. u g k s l (omega (arith, most g s l)) e) }

  pub kept_none : (many : ℕ → ℕ) (room : List ℕ) → Kept tops n many room room
  kept_none many room = record { same = λ j h u. refl }

  pub kept_both : (many : ℕ → ℕ) (a b c : List ℕ) → Kept tops n many a b → Kept tops n many b c → Kept tops n many a c
  kept_both many a b c p q = record { same = λ j h u. q.same j h u ∙ p.same j h u }

module _ (tops : List ℕ) (rows : List Entry) (many : ℕ → ℕ) (room : List ℕ) (p : Placed tops rows many room) (g : ℕ) (small : g < 256) where
  unlisted : (number : ℕ) → is_in g tops ≡ false → after_put room (length rows) g number ≡ room
  unlisted number e =
      let w : get_or room g 0 ≡ 0 = p.words g small ∙ simp e in
      simp (eq-eqb (get_or room g 0) 0 w)

  word_here : is_in g tops ≡ true → get_or room g 0 ≡ suc (many g)
  word_here e = p.words g small ∙ simp e

  listed : (number : ℕ) → is_in g tops ≡ true
      → after_put room (length rows) g number ≡ set (set room (257 + g * length rows + many g) number) g (suc (suc (many g)))
  listed number e =
      let some : get_or room g 0 ≡ 0 → ⊥ = λ z. omega (arith, word_here e) in
      let at : 256 + g * length rows + get_or room g 0 ≡ 257 + g * length rows + many g = omega (arith, word_here e) in
      let next : get_or room g 0 + 1 ≡ suc (suc (many g)) = omega (arith, word_here e) in
      ap (λ (b : Bool). cond b room (set (set room (256 + g * length rows + get_or room g 0) number) g (get_or room g 0 + 1))) (ne_eqb (get_or room g 0) 0 some)
      ∙ (λ i. set (set room (at i) number) g (next i))

  module _ (more : many g < length rows) (few : length rows ≤ 1024) (fits : room_for (length rows) ≤ length room) where
    pub put_fits : PutFits room (length rows) g
    put_fits = record { few = few; small = small; fits = fits; free = go (is_in g tops) refl }
      where
        go : (b : Bool) → is_in g tops ≡ b → get_or room g 0 ≤ length rows
        go true e = omega (arith, word_here e)
        go false e = let w : get_or room g 0 ≡ 0 = p.words g small ∙ simp e in omega arith

    module _ (number : ℕ) (next : get_or (group_of rows g) (many g) 0 ≡ number) where
      after : List ℕ
      after = set (set room (257 + g * length rows + many g) number) g (suc (suc (many g)))

      -- all but the two words that are written
      elsewhere : (j : ℕ) → (j ≡ g → ⊥) → (j ≡ 257 + g * length rows + many g → ⊥) → get_or after j 0 ≡ get_or room j 0
      unfolding after
      elsewhere j a b =
          get_or-set_other (set room (257 + g * length rows + many g) number) g j (suc (suc (many g))) 0 a
          ∙ get_or-set_other room (257 + g * length rows + many g) j number 0 b

      written : get_or after (257 + g * length rows + many g) 0 ≡ number
      unfolding after
      written =
          get_or-set_other (set room (257 + g * length rows + many g) number) g (257 + g * length rows + many g) (suc (suc (many g))) 0 (λ e. omega arith)
          ∙ get_or-set_same room (257 + g * length rows + many g) number 0 (omega (arith, block_end (length rows) g 256 small))

      moved : get_or after g 0 ≡ suc (suc (many g))
      unfolding after
      moved =
          get_or-set_same (set room (257 + g * length rows + many g) number) g (suc (suc (many g))) 0
          (omega (arith, length-set room (257 + g * length rows + many g) number))

      module _ (many' : ℕ → ℕ) (one : many' g ≡ suc (many g)) (others : (h : ℕ) → (h ≡ g → ⊥) → many' h ≡ many h) (most : (h : ℕ) → many h ≤ length rows) where
        there_here : (k : ℕ) → is_in g tops ≡ true → k < many' g → get_or after (257 + g * length rows + k) 0 ≡ get_or (group_of rows g) k 0
        there_here k e l =
            ⊎_elim
            (λ (m : k < many g). elsewhere (257 + g * length rows + k) (λ z. omega arith) (λ z. omega arith) ∙ p.there g k small e m)
            (λ (m : many g ≤ k).
            let last : many g ≡ k = omega (arith, one) in
            ap (λ (j : ℕ). get_or after (257 + g * length rows + j) 0) (sym last) ∙ written ∙ sym next ∙ ap (λ (j : ℕ). get_or (group_of rows g) j 0) last)
            (lt_or_ge k (many g))

        there_else : (h : ℕ) → (h ≡ g → ⊥) → (k : ℕ) → h < 256 → is_in h tops ≡ true → k < many' h → get_or after (257 + h * length rows + k) 0 ≡ get_or (group_of rows h) k 0
        there_else h n k s e l =
            let m : k < many h = omega (arith, others h n) in
            elsewhere (257 + h * length rows + k) (λ z. omega arith)
            (λ z. block_apart (length rows) g h k (many g) n (omega (arith, most h)) more (omega arith))
            ∙ p.there h k s e m

        placed_listed : is_in g tops ≡ true → Placed tops rows many' after
        placed_listed e =
            record {
              words =
                  one_and_others (λ (h : ℕ). h < 256 → get_or after h 0 ≡ cond (is_in h tops) (suc (many' h)) 0) g
                  (λ s. moved ∙ ap suc (sym one) ∙ simp e)
                  (λ h n s.
                  elsewhere h n (λ z. omega arith) ∙ p.words h s ∙ ap (λ (m : ℕ). cond (is_in h tops) (suc m) 0) (sym (others h n)));
              there =
                  λ h k s d l.
                  one_and_others (λ (h : ℕ). (k : ℕ) → h < 256 → is_in h tops ≡ true → k < many' h → get_or after (257 + h * length rows + k) 0 ≡ get_or (group_of rows h) k 0) g
                  (λ k s d l. there_here k d l)
                  (λ h n k s d l. there_else h n k s d l) h k s d l;
            }

        kept_listed : is_in g tops ≡ true → Kept tops (length rows) many' room after
        kept_listed e = record { same = λ j h u. elsewhere j (λ z. omega arith) (λ z. u g (many g) small e (omega (arith, one)) z) }

        pub put_placed : Placed tops rows many' (after_put room (length rows) g number) × Kept tops (length rows) many' room (after_put room (length rows) g number)
        unfolding after
        put_placed = go (is_in g tops) refl
          where
            go : (b : Bool) → is_in g tops ≡ b → Placed tops rows many' (after_put room (length rows) g number) × Kept tops (length rows) many' room (after_put room (length rows) g number)
            go true e =
                subst (λ (r : List ℕ). Placed tops rows many' r × Kept tops (length rows) many' room r) (sym (listed number e)) (placed_listed e, kept_listed e)
            go false e =
                subst (λ (r : List ℕ). Placed tops rows many' r × Kept tops (length rows) many' room r) (sym (unlisted number e))
                (said_so tops rows many many' room (λ h s d. others h (λ z. true≢false (sym d ∙ ap (λ (k : ℕ). is_in k tops) z ∙ e))) p, kept_none tops (length rows) many' room)
