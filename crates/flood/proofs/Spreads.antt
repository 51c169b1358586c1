-- A level as the code makes it, chip by chip on one list of marks, is a level of the flood; and the codes come of the marks.
use Prim.Native.Nat.{ℕ, zero, suc, ◌+◌, ◌*◌, ◌-◌, ◌≤◌, ◌<◌}
use mathlib.Core.Path.{◌≡◌, refl, sym, ap, ◌∙◌, subst}
use mathlib.Core.Bool.{Bool, true, false, cond, ◌&&◌, ◌||◌, and-eq-true_iff, true≢false}
use mathlib.Core.List.{List}
use mathlib.Core.Logic.{⊎_elim}
use native.Mathlib.Omega.{arith}
use native.Mathlib.Numerals.{add-one}
use lib.Dec.{eqb, ltb}
use lib.ListN.{length, get_or, set, replicate, get_or-replicate}
use lib.Seq.{get_or-set_same, get_or-set_other}
use borrow.Author.Tests.{lt-ltb, le-ltb, ltb-true, ltb-false, ne_eqb, eqb-true, eqb-false}
use Rattle.lists.specs.Firsts.{first_below}
use Rattle.lists.proofs.Firsts.{lt_or_ge, first_holds, before_first, first_is, first_same}
use Rattle.mesh.specs.Mesh.{Mesh, many}
use Rattle.flood.specs.Ways.{is_up, beyond, within, fewest, first_link}
use Rattle.flood.specs.Codes.{code_of}
use Rattle.flood.specs.Marks.{mark_after, Around, is_below, first_on, is_next, marked_on, code_on, Spread}
use Rattle.flood.proofs.Levels.{beyond_there, first_to, not_before, few_within, fewest_next, Still, still_on}

-- ---- chip by chip

pub record SoFar (around before : List ℕ) (level chip : ℕ) (marks : List ℕ) (more : Bool) : Type 0 where
  pub each : (c : ℕ) → c < chip → get_or marks c 0 ≡ marked_on around before level c
  pub rest : (c : ℕ) → chip ≤ c → get_or marks c 0 ≡ get_or before c 0
  pub same : (c : ℕ) → ltb (get_or marks c 0) level ≡ ltb (get_or before c 0) level
  pub still : more ≡ false → (c : ℕ) → c < chip → get_or marks c 0 ≡ get_or before c 0

pub none_yet : (around before : List ℕ) (level : ℕ) → SoFar around before level 0 before false
none_yet around before level = record { each = λ c h. absurd (omega arith); rest = λ c h. refl; same = λ c. refl; still = λ f c h. absurd (omega arith) }

module _ (around before : List ℕ) (level chip : ℕ) (marks : List ℕ) (more : Bool) (s : SoFar around before level chip marks more) where
  -- what this level has marked so far does not count for it
  next_same : is_next around marks level chip ≡ is_next around before level chip
  next_same = λ j. eqb (s.rest chip (omega arith) j) 255 && ltb (first_below (λ i. ltb (get_or around (chip * 6 + i) 0) 144 && s.same (get_or around (chip * 6 + i) 0) j) 6) 6

  -- what holds below a chip and of it
  up_to : (P : ℕ → Type 0) → ((c : ℕ) → c < chip → P c) → P chip → (c : ℕ) → c < chip + 1 → P c
  up_to P below here c h =
      ⊎_elim (λ (l : c < chip). below c l) (λ (l : chip ≤ c). let e : chip ≡ c = omega arith in rw e at here) (lt_or_ge c chip)

  pub not_next : is_next around marks level chip ≡ false → SoFar around before level (chip + 1) marks more
  not_next f =
      let here : get_or marks chip 0 ≡ get_or before chip 0 = s.rest chip (omega arith) in
      record {
        each = up_to (λ c. get_or marks c 0 ≡ marked_on around before level c) s.each
            (here ∙ sym (ap (λ (b : Bool). cond b level (get_or before chip 0)) (sym next_same ∙ f)));
        rest = λ c h. s.rest c (omega arith);
        same = s.same;
        still = λ e. up_to (λ c. get_or marks c 0 ≡ get_or before c 0) (s.still e) here;
      }

  pub next : chip < length marks → level ≤ 255 → is_next around marks level chip ≡ true → SoFar around before level (chip + 1) (set marks chip level) true
  next h small t =
      let here : get_or (set marks chip level) chip 0 ≡ level = get_or-set_same marks chip level 0 h in
      let other : (c : ℕ) → (c ≡ chip → ⊥) → get_or (set marks chip level) c 0 ≡ get_or marks c 0 = λ c d. get_or-set_other marks chip c level 0 d in
      let was : get_or before chip 0 ≡ 255 = eqb-true _ 255 ((and-eq-true_iff (eqb (get_or before chip 0) 255) _).0 (sym next_same ∙ t)).0 in
      record {
        each = up_to (λ c. get_or (set marks chip level) c 0 ≡ marked_on around before level c) (λ c l. other c (λ x. omega arith) ∙ s.each c l)
            (here ∙ sym (ap (λ (b : Bool). cond b level (get_or before chip 0)) (sym next_same ∙ t)));
        rest = λ c l. other c (λ x. omega arith) ∙ s.rest c (omega arith);
        same = λ c. go c (eqb c chip) refl here other was;
        still = λ e. absurd (true≢false e);
      }
    where
      go : (c : ℕ) (b : Bool) → eqb c chip ≡ b → get_or (set marks chip level) chip 0 ≡ level
          → ((c : ℕ) → (c ≡ chip → ⊥) → get_or (set marks chip level) c 0 ≡ get_or marks c 0)
          → get_or before chip 0 ≡ 255 → ltb (get_or (set marks chip level) c 0) level ≡ ltb (get_or before c 0) level
      go c true e here other was =
          let q : c ≡ chip = eqb-true c chip e in
          rw q (le-ltb _ level (omega (arith, here)) ∙ sym (le-ltb (get_or before chip 0) level (omega arith)))
      go c false e here other was = ap (λ (n : ℕ). ltb n level) (other c (eqb-false c chip e)) ∙ s.same c

pub whole_level : (around before : List ℕ) (all level : ℕ) (marks : List ℕ) (more : Bool) → length marks ≡ 144 → SoFar around before level all marks more → Spread around all level before marks more
whole_level around before all level marks more long s = record { long = long; each = s.each; still = s.still }

-- ---- level by level

-- the marks after so many levels, and whether the last marked any chip
pub record Reached {A : Type 0} (m : Mesh A) (all to level : ℕ) (marks : List ℕ) (more : Bool) : Type 0 where
  pub each : (c : ℕ) → c < all → get_or marks c 0 ≡ mark_after m to level c
  pub over : more ≡ false → (c : ℕ) → c < all → mark_after m to level c ≡ mark_after m to (all - 1) c

module _ {A : Type 0} (m : Mesh A) (all to : ℕ) (around : List ℕ) (a : Around m all around) (few : all ≤ 144) where
  -- the marks below a level are of the chips that were within before it
  mark_below : (p j c : ℕ) → j ≤ p → p < all → ltb (mark_after m to p c) (suc j) ≡ within m to j c
  mark_below p j c l h = go (within m to p c) refl
    where
      go : (b : Bool) → within m to p c ≡ b → ltb (cond b (fewest m c to) 255) (suc j) ≡ within m to j c
      go true w = few_within m to j c (omega (arith, a.many_here))
      go false w = le-ltb 255 (suc j) (omega arith) ∙ sym (not_before m to p j c l w)

  -- and all marks of those within
  marked : (p c : ℕ) → p < all → ltb (mark_after m to p c) 255 ≡ within m to p c
  marked p c h = go (within m to p c) refl
    where
      go : (b : Bool) → within m to p c ≡ b → ltb (cond b (fewest m c to) 255) 255 ≡ b
      go true w = lt-ltb (fewest m c to) 255 (omega (arith, ltb-true (fewest m c to) (suc p) (few_within m to p c (omega (arith, a.many_here)) ∙ w)))
      go false w = refl

  module _ (p : ℕ) (marks : List ℕ) (here : p < all) (each : (c : ℕ) → c < all → get_or marks c 0 ≡ mark_after m to p c) where
    first_on_lem : (j c : ℕ) → j ≤ p → c < all → first_on around marks (suc j) c ≡ first_to m to j c
    first_on_lem j c l h = first_same _ _ 6 (λ i hi. ap (is_below marks (suc j)) (a.each c i h hi) ∙ go i (is_up m c i))
      where
        below : (i : ℕ) → beyond m c i < all
        below i = omega (arith, beyond_there m a.size c i, a.many_here)

        go : (i : ℕ) (b : Bool) → is_below marks (suc j) (cond b (beyond m c i) 255) ≡ (b && within m to j (beyond m c i))
        go i true = λ t. lt-ltb (beyond m c i) 144 (omega (arith, below i)) t && (ap (λ (n : ℕ). ltb n (suc j)) (each (beyond m c i) (below i)) ∙ mark_below p j (beyond m c i) l here) t
        go i false = refl

    level_each : suc p < all → (c : ℕ) → c < all → marked_on around marks (suc p) c ≡ mark_after m to (suc p) c
    unfolding within
    level_each more c h = (λ t. cond (eqb (each c h t) 255 && ltb (first_on_lem p c (omega arith) h t) 6) (suc p) (each c h t)) ∙ go (within m to p c) refl
      where
        new : within m to p c ≡ false → (b : Bool) → ltb (first_to m to p c) 6 ≡ b → cond b (suc p) 255 ≡ cond b (fewest m c to) 255
        new w true t = sym (fewest_next m to p c (omega (arith, a.many_here)) w (ap (λ (b : Bool). b || ltb (first_to m to p c) 6) w ∙ t))
        new w false t = refl

        go : (b : Bool) → within m to p c ≡ b
            → cond (eqb (cond b (fewest m c to) 255) 255 && ltb (first_to m to p c) 6) (suc p) (cond b (fewest m c to) 255) ≡ cond (b || ltb (first_to m to p c) 6) (fewest m c to) 255
        go true w =
            let low : fewest m c to < suc p = ltb-true (fewest m c to) (suc p) (few_within m to p c (omega (arith, a.many_here)) ∙ w) in
            ap (λ (b : Bool). cond (b && ltb (first_to m to p c) 6) (suc p) (fewest m c to)) (ne_eqb (fewest m c to) 255 (λ e. omega arith))
        go false w = new w (ltb (first_to m to p c) 6) refl

    -- the last marks give the codes
    abbrev by_mark : ℕ → ℕ → ℕ
    by_mark c n = cond (eqb n 0) 7 (cond (eqb n 255) 6 (first_on around marks n c))

    pub codes_on : suc p ≡ all → (c : ℕ) → c < all → code_on around marks c ≡ code_of m c to
    unfolding within
    codes_on last c h = ap (by_mark c) (each c h) ∙ go (within m to p c) refl
      where
        counted : ltb (fewest m c to) (many m) ≡ within m to p c
        counted = let e : many m ≡ suc p = omega (arith, a.many_here) in ap (ltb (fewest m c to)) e ∙ few_within m to p c (omega arith)

        found : within m to p c ≡ true → (n : ℕ) → fewest m c to ≡ n → by_mark c n ≡ code_of m c to
        found w zero e =
            let low : fewest m c to < many m = ltb-true _ _ (counted ∙ w) in
            let oneself : eqb c to ≡ true = ap (λ (k : ℕ). within m to k c) (sym e) ∙ first_holds (λ k. within m to k c) (many m) low in
            sym (ap (λ (b : Bool). cond b 7 (cond (ltb (fewest m c to) (many m)) (first_link m c to) 6)) oneself)
        found w (suc j) e =
            let low : fewest m c to < many m = ltb-true _ _ (counted ∙ w) in
            let other : eqb c to ≡ false = before_first (λ k. within m to k c) (many m) 0 (omega arith) in
            let near : suc j ≤ p = omega (arith, a.many_here) in
            let back : fewest m c to - 1 ≡ j = omega arith in
            (λ t. cond (ne_eqb (suc j) 0 (λ z. omega arith) t) 7 (cond (ne_eqb (suc j) 255 (λ z. omega arith) t) 6 (first_on_lem j c (omega arith) h t)))
            ∙ sym (λ t. cond (other t) 7 (cond ((counted ∙ w) t) (first_to m to (back t) c) 6))

        go : (b : Bool) → within m to p c ≡ b → by_mark c (cond b (fewest m c to) 255) ≡ code_of m c to
        go true w = found w (fewest m c to) refl
        go false w =
            let other : eqb c to ≡ false = not_before m to p 0 c (omega arith) w in
            let none : ltb (fewest m c to) (many m) ≡ false = counted ∙ w in
            sym (λ t. cond (other t) 7 (cond (none t) (first_link m c to) 6))

  pub level_next : (level : ℕ) (marks after : List ℕ) (more more' : Bool) → level < all - 1 → Reached m all to level marks more → Spread around all (level + 1) marks after more' → Reached m all to (level + 1) after more'
  level_next level marks after more more' h r s = record { each = each; over = over }
    where
      next : (c : ℕ) → c < all → get_or after c 0 ≡ mark_after m to (suc level) c
      next c hc = s.each c hc ∙ ap (λ (l : ℕ). marked_on around marks l c) (add-one level) ∙ level_each level marks (omega arith) r.each (omega arith) c hc

      each : (c : ℕ) → c < all → get_or after c 0 ≡ mark_after m to (level + 1) c
      each c hc = next c hc ∙ ap (λ (i : ℕ). mark_after m to i c) (sym (add-one level))

      over : more' ≡ false → (c : ℕ) → c < all → mark_after m to (level + 1) c ≡ mark_after m to (all - 1) c
      over f c hc =
          let still : Still m to level =
          λ d hd. let l : d < all = omega (arith, a.many_here) in
          sym (marked (suc level) d (omega arith)) ∙ ap (λ (n : ℕ). ltb n 255) (sym (next d l) ∙ s.still f d l ∙ r.each d l) ∙ marked level d (omega arith) in
          let l : c < many m = omega (arith, a.many_here) in
          ap (λ (b : Bool). cond b (fewest m c to) 255) (still_on m to a.size level still (level + 1) c (omega arith) l ∙ sym (still_on m to a.size level still (all - 1) c (omega arith) l))

  pub all_reached : (level : ℕ) (marks : List ℕ) (more : Bool) → level ≤ all - 1 → (more && ltb level (all - 1)) ≡ false → Reached m all to level marks more → (c : ℕ) → c < all → get_or marks c 0 ≡ mark_after m to (all - 1) c
  all_reached level marks more h f r c hc = r.each c hc ∙ go more f r.over
    where
      go : (b : Bool) → (b && ltb level (all - 1)) ≡ false → (b ≡ false → (c : ℕ) → c < all → mark_after m to level c ≡ mark_after m to (all - 1) c) → mark_after m to level c ≡ mark_after m to (all - 1) c
      go true l over = let e : level ≡ all - 1 = omega (arith, ltb-false level (all - 1) l) in ap (λ (i : ℕ). mark_after m to i c) e
      go false l over = over refl c hc

  -- after a level that follows one that marked some chip
  pub level_after : (level : ℕ) (marks after : List ℕ) (more : Bool) → 1 ≤ level → level < all → Reached m all to (level - 1) marks true → Spread around all level marks after more → Reached m all to level after more
  level_after level marks after more some h r s =
      let e : level - 1 + 1 ≡ level = omega arith in
      subst (λ (n : ℕ). Reached m all to n after more) e (level_next (level - 1) marks after true more (omega arith) r (subst (λ (n : ℕ). Spread around all n marks after more) (sym e) s))

-- at first the destination alone
pub reached_first : {A : Type 0} (m : Mesh A) (all to : ℕ) → to < all → all ≤ 144 → many m ≡ all → Reached m all to 0 (set (replicate 144 255) to 0) true
unfolding within
reached_first m all to h few e = record { each = each; over = λ f. absurd (true≢false f) }
  where
    each : (c : ℕ) → c < all → ◌≡◌ {A = ℕ} (get_or (set (replicate 144 255) to 0) c 0) (cond (eqb c to) (fewest m c to) 255)
    each c hc = go (eqb c to) refl
      where
        go : (b : Bool) → eqb c to ≡ b → ◌≡◌ {A = ℕ} (get_or (set (replicate 144 255) to 0) c 0) (cond b (fewest m c to) 255)
        go true t =
            ap (λ (i : ℕ). get_or (set (replicate 144 255) to 0) i 0) (eqb-true c to t) ∙ get_or-set_same (replicate 144 255) to 0 0 (omega arith)
            ∙ sym (first_is (λ k. within m to k c) (many m) 0 (omega arith) t (λ j l. absurd (omega arith)))
        go false t = get_or-set_other (replicate 144 255) to c 0 0 (eqb-false c to t) ∙ get_or-replicate 144 c 255 0 (omega arith)
