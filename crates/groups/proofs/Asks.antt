-- Keys ask one after the other, and where their groups are built the room holds the group of each of them.
use Prim.Native.Nat.{ℕ, suc, ◌+◌, ◌*◌, ◌^◌, ◌≤◌, ◌<◌}
use mathlib.Core.Path.{◌≡◌, refl, sym, ap, ◌∙◌, subst}
use mathlib.Core.Logic.{⊎_elim}
use mathlib.Core.Bool.{Bool, true, false, not, cond}
use mathlib.Core.List.{List, [], ◌∷◌, ◌++◌, map}
use native.Mathlib.Omega.{arith}
use native.Mathlib.Numerals.{add-one}
use borrow.Author.Tests.{eqb-true, eqb-false}
use lib.Dec.{eqb}
use lib.ListN.{length, get_or, set, take, drop, replicate, length-append, length-drop, length-set, length-replicate, get_or-replicate, get_or-append}
use lib.Seq.{ext_get_or, take_at, take-suc-set, take-append-le, length-take-le, get_or_at, get_or-append-add, get_or-set_same, get_or-set_other}
use Rattle.lists.specs.Lists.{up_to, part}
use Rattle.lists.proofs.Firsts.{lt_or_ge}
use Rattle.tables.specs.Rows.{Entry}
use Rattle.groups.specs.Groups.{top_of, group_of, is_in, marks_of, asked, group_word, block_of, room_after, room_for, GroupedFor}
use Rattle.groups.specs.Asking.{Asked, Asking, is_asked, marks_asked, tops_asked, count_asked}
use Rattle.groups.proofs.InOrder.{from_most}
use Rattle.groups.proofs.Blocks.{block_end, blocks_long, blocks_at, ones_length, ones_at}
use Rattle.groups.proofs.Listing.{in_here, in_else, in_none, one_more, bit_asked}
use Rattle.groups.proofs.Placing.{one_and_others}

-- ---- the marks, word by word

module _ (keys : List ℕ) where
  mark_at : (g : ℕ) → g < 256 → get_or (marks_of keys) g 0 ≡ cond (is_in g (map top_of keys)) 1 0
  mark_at g h = ones_at (λ (k : ℕ). cond (is_in k (map top_of keys)) 1 0) 256 g h

  mark_asked : (g : ℕ) → g < 256 → asked (marks_of keys) g ≡ is_in g (map top_of keys)
  mark_asked g h = bit_asked (marks_of keys) g (is_in g (map top_of keys)) (mark_at g h)

  marks_long : length (marks_of keys) ≡ 256
  marks_long = ones_length (λ (k : ℕ). cond (is_in k (map top_of keys)) 1 0) 256

  marks_by_words : (marks : List ℕ) → length marks ≡ 256 → ((g : ℕ) → g < 256 → get_or marks g 0 ≡ cond (is_in g (map top_of keys)) 1 0) → marks ≡ marks_of keys
  marks_by_words marks long words =
      ext_get_or 0 marks (marks_of keys) (long ∙ sym marks_long) (λ g h. let small : g < 256 = omega (arith, long) in words g small ∙ sym (mark_at g small))

-- ---- none has asked

pub asking_none : (tops : List ℕ) → Asking [] (replicate 256 0) tops 0
unfolding is_in
asking_none tops =
    let zeros : (g : ℕ) → g < 256 → ◌≡◌ {A = ℕ} (get_or (replicate 256 0) g 0) 0 = λ g h. get_or-replicate {A = ℕ} 256 g 0 0 h in
    record {
      marked = marks_by_words [] (replicate 256 0) (length-replicate {A = ℕ} 256 0) zeros;
      tops =
          record {
            bits = λ g h. zeros g h ∙ ap (λ (b : Bool). cond b 1 0) (sym (in_none g tops));
            small = λ k h. absurd (omega arith);
            once = λ k h. absurd (omega arith);
          };
      few = omega arith;
    }

-- ---- one key more

bit_zero : (b : Bool) → ◌≡◌ {A = ℕ} (cond b 1 0) 0 → b ≡ false
bit_zero true e = absurd (omega arith)
bit_zero false e = refl

bit_one : (b : Bool) → (◌≡◌ {A = ℕ} (cond b 1 0) 0 → ⊥) → b ≡ true
bit_one true e = refl
bit_one false e = absurd (e refl)

-- a top byte joins the list
module _ (marks marks' list : List ℕ) (t : ℕ) (p : Asked marks list) (small : t < 256) (new : is_in t list ≡ false)
    (one : get_or marks' t 0 ≡ 1) (others : (g : ℕ) → (g ≡ t → ⊥) → g < 256 → get_or marks' g 0 ≡ get_or marks g 0)
  where
    last_or_before : (k : ℕ) → k < length (list ++ t ∷ []) → length list ≤ k → k ≡ length list
    last_or_before k h l = omega (arith, length-append list (t ∷ []))

    list_joined : Asked marks' (list ++ t ∷ [])
    list_joined =
        record {
          bits =
              one_and_others (λ (g : ℕ). g < 256 → get_or marks' g 0 ≡ cond (is_in g (list ++ t ∷ [])) 1 0) t
              (λ h. one ∙ ap (λ (b : Bool). cond b 1 0) (sym (in_here t list)))
              (λ g n h. others g n h ∙ p.bits g h ∙ ap (λ (b : Bool). cond b 1 0) (sym (in_else g t list n)));
          small =
              λ k h.
              ⊎_elim
              (λ (l : k < length list). rw (get_or-append list (t ∷ []) 0 k l) (p.small k l))
              (λ (l : length list ≤ k). rw (get_or_at list t [] 0 k (sym (last_or_before k h l))) small)
              (lt_or_ge k (length list));
          once =
              λ k h.
              ⊎_elim
              (λ (l : k < length list).
              (λ i. is_in (get_or-append list (t ∷ []) 0 k l i) (take-append-le k list (t ∷ []) (omega arith) i)) ∙ p.once k l)
              (λ (l : length list ≤ k).
              (λ i. is_in (get_or_at list t [] 0 k (sym (last_or_before k h l)) i) (take_at list (t ∷ []) k (sym (last_or_before k h l)) i)) ∙ new)
              (lt_or_ge k (length list));
        }

tops_append : (keys : List ℕ) (key : ℕ) → map top_of (keys ++ key ∷ []) ≡ map top_of keys ++ top_of key ∷ []
tops_append [] key = refl
tops_append (k ∷ keys) key = ap (λ (l : List ℕ). top_of k ∷ l) (tops_append keys key)

pub asking_long : (keys marks tops : List ℕ) (count : ℕ) → Asking keys marks tops count → length marks ≡ 256
asking_long keys marks tops count p = ap length p.marked ∙ marks_long keys

module _ (keys marks tops : List ℕ) (count key : ℕ) (p : Asking keys marks tops count) where
  long : length marks ≡ 256
  long = asking_long keys marks tops count p

  word_at : (g : ℕ) → g < 256 → get_or marks g 0 ≡ cond (is_in g (map top_of keys)) 1 0
  word_at g h = ap (λ (l : List ℕ). get_or l g 0) p.marked ∙ mark_at keys g h

  more : length (keys ++ key ∷ []) ≡ length keys + 1
  more = length-append keys (key ∷ [])

  module _ (small : top_of key < 256) where
    -- the marks of one key more, by the mark of its top byte and those of all others
    marks_more : (marks' : List ℕ) → length marks' ≡ 256 → get_or marks' (top_of key) 0 ≡ 1 → ((g : ℕ) → (g ≡ top_of key → ⊥) → get_or marks' g 0 ≡ get_or marks g 0)
        → marks' ≡ marks_of (keys ++ key ∷ [])
    marks_more marks' as_long one others =
        let t : ℕ = top_of key in
        marks_by_words (keys ++ key ∷ []) marks' as_long
        (one_and_others (λ (g : ℕ). g < 256 → get_or marks' g 0 ≡ cond (is_in g (map top_of (keys ++ key ∷ []))) 1 0) t
        (λ h. one ∙ ap (λ (b : Bool). cond b 1 0) (sym (ap (is_in t) (tops_append keys key) ∙ in_here t (map top_of keys))))
        (λ g n h. others g n ∙ word_at g h ∙ ap (λ (b : Bool). cond b 1 0) (sym (ap (is_in g) (tops_append keys key) ∙ in_else g t (map top_of keys) n))))

    -- one that has been asked for
    again : (get_or marks (top_of key) 0 ≡ 0 → ⊥) → Asking (keys ++ key ∷ []) marks tops count
    again some =
        let here : is_in (top_of key) (map top_of keys) ≡ true = bit_one (is_in (top_of key) (map top_of keys)) (λ e. some (word_at (top_of key) small ∙ e)) in
        record {
          marked = marks_more marks long (word_at (top_of key) small ∙ ap (λ (b : Bool). cond b 1 0) here) (λ g n. refl);
          tops = p.tops;
          few = omega (arith, p.few, more);
        }

    -- one that has not
    first : get_or marks (top_of key) 0 ≡ 0 → count < length tops → Asking (keys ++ key ∷ []) (set marks (top_of key) 1) (set tops count (top_of key)) (count + 1)
    first none within =
        let t : ℕ = top_of key in
        let one : get_or (set marks t 1) t 0 ≡ 1 = get_or-set_same marks t 1 0 (omega (arith, long)) in
        let others : (g : ℕ) → (g ≡ t → ⊥) → get_or (set marks t 1) g 0 ≡ get_or marks g 0 = λ g n. get_or-set_other marks t g 1 0 n in
        let listed : take count tops ++ t ∷ [] ≡ take (count + 1) (set tops count t) =
        sym (ap (λ (n : ℕ). take n (set tops count t)) (add-one count) ∙ take-suc-set tops count t within) in
        let new : is_in t (take count tops) ≡ false = bit_zero (is_in t (take count tops)) (sym (p.tops.bits t small) ∙ none) in
        record {
          marked = marks_more (set marks t 1) (length-set marks t 1 ∙ long) one others;
          tops = subst (Asked (set marks t 1)) listed (list_joined marks (set marks t 1) (take count tops) t p.tops small new one (λ g n h. others g n));
          few = omega (arith, p.few, more);
        }

asking_next : (keys marks tops : List ℕ) (count key : ℕ) → Asking keys marks tops count → key < 2 ^ 32 → count < length tops
    → Asking (keys ++ key ∷ []) (marks_asked marks key) (tops_asked marks tops count key) (count_asked marks count key)
asking_next keys marks tops count key p small within = go (eqb (get_or marks (top_of key) 0) 0) refl
  where
    top : top_of key < 256
    top = omega arith

    go : (b : Bool) → eqb (get_or marks (top_of key) 0) 0 ≡ b
        → Asking (keys ++ key ∷ []) (cond (not b) marks (set marks (top_of key) 1)) (cond (not b) tops (set tops count (top_of key))) (cond (not b) count (count + 1))
    go true e = first keys marks tops count key p top (eqb-true (get_or marks (top_of key) 0) 0 e) within
    go false e = again keys marks tops count key p top (eqb-false (get_or marks (top_of key) 0) 0 e)

pub tops_long : (marks tops : List ℕ) (count key : ℕ) → length (tops_asked marks tops count key) ≡ length tops
tops_long marks tops count key = go (is_asked marks key)
  where
    go : (b : Bool) → length (cond b tops (set tops count (top_of key))) ≡ length tops
    go true = refl
    go false = length-set tops count (top_of key)

-- the next of a list of keys
pub asking_one : (keys marks tops : List ℕ) (count i : ℕ) → Asking (take i keys) marks tops count → i < length keys → get_or keys i 0 < 2 ^ 32 → length keys ≤ length tops
    → Asking (take (i + 1) keys) (marks_asked marks (get_or keys i 0)) (tops_asked marks tops count (get_or keys i 0)) (count_asked marks count (get_or keys i 0))
asking_one keys marks tops count i p h small fits =
    rw (one_more keys i h) (asking_next (take i keys) marks tops count (get_or keys i 0) p small (omega (arith, p.few, length-take-le i keys (omega arith))))

-- ---- what stands in a room that is built

module _ (marks : List ℕ) (rows : List Entry) (room : List ℕ) (fits : room_for (length rows) ≤ length room) where
  first_long : length (up_to (λ (g : ℕ). group_word marks rows g ∷ []) 256) ≡ 256
  first_long = ones_length (group_word marks rows) 256

  one_long : length (part 256 1 room) ≡ 1
  one_long = length-take-le 1 (drop 256 room) (omega (arith, length-drop 256 room))

  block_long : (g : ℕ) → g < 256 → length (block_of marks rows room g) ≡ length rows
  block_long g h = go (asked marks g)
    where
      before : length (part (257 + g * length rows) (length rows) room) ≡ length rows
      before =
          length-take-le (length rows) (drop (257 + g * length rows) room)
          (omega (arith, length-drop (257 + g * length rows) room, block_end (length rows) g 256 h))

      go : (b : Bool)
          → length
          (cond b (group_of rows g ++ drop (length (group_of rows g)) (part (257 + g * length rows) (length rows) room)) (part (257 + g * length rows) (length rows) room))
          ≡ length rows
      go true =
          length-append (group_of rows g) (drop (length (group_of rows g)) (part (257 + g * length rows) (length rows) room))
          ∙ omega (arith, length-drop (length (group_of rows g)) (part (257 + g * length rows) (length rows) room), before, from_most g 0 rows)
      go false = before

  blocks_all : length (up_to (block_of marks rows room) 256) ≡ 256 * length rows
  blocks_all = blocks_long (block_of marks rows room) (length rows) 256 block_long 256 (omega arith)

  -- the groups' own words, one word, and the blocks
  front_long : length (up_to (λ (g : ℕ). group_word marks rows g ∷ []) 256 ++ part 256 1 room) ≡ 257
  front_long = length-append (up_to (λ (g : ℕ). group_word marks rows g ∷ []) 256) (part 256 1 room) ∙ omega (arith, first_long, one_long)

  built_long : length (up_to (λ (g : ℕ). group_word marks rows g ∷ []) 256 ++ part 256 1 room ++ up_to (block_of marks rows room) 256) ≡ 257 + 256 * length rows
  built_long =
      length-append (up_to (λ (g : ℕ). group_word marks rows g ∷ []) 256 ++ part 256 1 room) (up_to (block_of marks rows room) 256)
      ∙ omega (arith, front_long, blocks_all)

  room_after_long : length (room_after marks rows room) ≡ length room
  room_after_long =
      length-append (up_to (λ (g : ℕ). group_word marks rows g ∷ []) 256 ++ part 256 1 room ++ up_to (block_of marks rows room) 256) (drop (257 + 256 * length rows) room)
      ∙ omega (arith, built_long, length-drop (257 + 256 * length rows) room)

  word_after : (g : ℕ) → g < 256 → get_or (room_after marks rows room) g 0 ≡ group_word marks rows g
  word_after g h =
      let words : List ℕ = up_to (λ (g : ℕ). group_word marks rows g ∷ []) 256 in
      let blocks : List ℕ = up_to (block_of marks rows room) 256 in
      get_or-append (words ++ part 256 1 room ++ blocks) (drop (257 + 256 * length rows) room) 0 g (omega (arith, built_long))
      ∙ get_or-append (words ++ part 256 1 room) blocks 0 g (omega (arith, front_long))
      ∙ get_or-append words (part 256 1 room) 0 g (omega (arith, first_long))
      ∙ ones_at (group_word marks rows) 256 g h

  number_after : (g k : ℕ) → g < 256 → asked marks g ≡ true → k < length (group_of rows g) → get_or (room_after marks rows room) (257 + g * length rows + k) 0 ≡ get_or (group_of rows g) k 0
  number_after g k h e l =
      let words : List ℕ = up_to (λ (g : ℕ). group_word marks rows g ∷ []) 256 in
      let blocks : List ℕ = up_to (block_of marks rows room) 256 in
      let before : List ℕ = part (257 + g * length rows) (length rows) room in
      let at : 257 + g * length rows + k ≡ length (words ++ part 256 1 room) + (g * length rows + k) = omega (arith, front_long) in
      get_or-append (words ++ part 256 1 room ++ blocks) (drop (257 + 256 * length rows) room) 0 (257 + g * length rows + k)
      (omega (arith, built_long, block_end (length rows) g 256 h, from_most g 0 rows))
      ∙ ap (λ (j : ℕ). get_or (words ++ part 256 1 room ++ blocks) j 0) at
      ∙ get_or-append-add (words ++ part 256 1 room) blocks (g * length rows + k) 0
      ∙ blocks_at (block_of marks rows room) (length rows) 256 block_long g k h (omega (arith, from_most g 0 rows))
      ∙ ap (λ (b : Bool). get_or (cond b (group_of rows g ++ drop (length (group_of rows g)) before) before) k 0) e
      ∙ get_or-append (group_of rows g) (drop (length (group_of rows g)) before) 0 k l

pub after_grouped : (keys : List ℕ) (rows : List Entry) (room₀ : List ℕ) (key : ℕ) → room_for (length rows) ≤ length room₀ → key < 2 ^ 32 → is_in (top_of key) (map top_of keys) ≡ true
    → GroupedFor rows (room_after (marks_of keys) rows room₀) key
after_grouped keys rows room₀ key fits small there =
    let top : top_of key < 256 = omega arith in
    let e : asked (marks_of keys) (top_of key) ≡ true = mark_asked keys (top_of key) top ∙ there in
    record {
      long = omega (arith, room_after_long (marks_of keys) rows room₀ fits);
      many = word_after (marks_of keys) rows room₀ fits (top_of key) top ∙ ap (λ (b : Bool). cond b (suc (length (group_of rows (top_of key)))) 0) e;
      there = λ k l. number_after (marks_of keys) rows room₀ fits (top_of key) k top e l;
    }
