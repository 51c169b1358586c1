-- Where every row number stands in its place and all else is kept, the room holds what it is to hold.
use Prim.Native.Nat.{ℕ, suc, ◌+◌, ◌*◌, ◌-◌, ◌≤◌, ◌<◌}
use mathlib.Core.Path.{◌≡◌, refl, sym, ap, ◌∙◌}
use mathlib.Core.Logic.{⊎_elim}
use mathlib.Core.Bool.{Bool, true, false, cond, true≢false}
use mathlib.Core.List.{List, [], ◌∷◌, ◌++◌}
use native.Mathlib.Omega.{arith}
use lib.ListN.{length, get_or, take, drop, length-append, length-drop, take-append-drop, get_or-append}
use lib.Seq.{length-take-le, ext_get_or, get_or-take, get_or-drop, get_or-append-add, take-add}
use Rattle.lists.specs.Lists.{up_to, part}
use Rattle.lists.proofs.Firsts.{lt_or_ge}
use Rattle.lists.proofs.UpTo.{upto_same}
use Rattle.tables.specs.Rows.{Entry}
use Rattle.groups.specs.Groups.{group_of, is_in, asked, group_word, block_of, room_after, room_for}
use Rattle.groups.specs.Building.{sofar, Placed, Kept}
use Rattle.groups.specs.Asking.{Asked}
use Rattle.groups.proofs.InOrder.{from_most, sofar_none}
use Rattle.groups.proofs.Blocks.{block_end, block_apart, take_ones, part_blocks}
use Rattle.groups.proofs.Placing.{one_and_others}

-- before the first row, in a room that begins with the marks
module _ (marks tops : List ℕ) (rows : List Entry) (room₀ room : List ℕ) (long : length marks ≡ 256) (begun : room ≡ marks ++ drop 256 room₀) where
  pub none_placed : Asked marks tops → Placed tops rows (sofar rows 0) room
  none_placed a =
      record {
        words =
            λ g h.
            ap (λ (l : List ℕ). get_or l g 0) begun
            ∙ get_or-append marks (drop 256 room₀) 0 g (omega arith)
            ∙ a.bits g h
            ∙ ap (λ (n : ℕ). cond (is_in g tops) (suc n) 0) (sym (sofar_none rows g));
        there = λ g k h e l. absurd (omega (arith, sofar_none rows g));
      }

  pub none_written : (many : ℕ → ℕ) → Kept tops (length rows) many room₀ room
  none_written many =
      record {
        same =
            λ j h u.
            let at : j ≡ length marks + (j - 256) = omega arith in
            let at₀ : 256 + (j - 256) ≡ j = omega arith in
            (λ i. get_or (begun i) (at i) 0)
            ∙ get_or-append-add marks (drop 256 room₀) (j - 256) 0
            ∙ get_or-drop 256 room₀ (j - 256) 0
            ∙ ap (λ (n : ℕ). get_or room₀ n 0) at₀;
      }

part_long : (a n : ℕ) (l : List ℕ) → a + n ≤ length l → length (part a n l) ≡ n
part_long a n l h = length-take-le n (drop a l) (omega (arith, length-drop a l))

part_at : (a n : ℕ) (l : List ℕ) (k : ℕ) → k < n → get_or (part a n l) k 0 ≡ get_or l (a + k) 0
part_at a n l k h = get_or-take n (drop a l) k 0 h ∙ get_or-drop a l k 0

-- a list in four parts
in_parts : (l : List ℕ) (n : ℕ) → l ≡ take 256 l ++ part 256 1 l ++ part 257 n l ++ drop (257 + n) l
in_parts l n =
    sym (take-append-drop (257 + n) l)
    ∙ ap (λ (front : List ℕ). front ++ drop (257 + n) l) (take-add 257 n l ∙ ap (λ (front : List ℕ). front ++ part 257 n l) (take-add 256 1 l))

module _ (marks tops : List ℕ) (rows : List Entry) (room₀ room : List ℕ)
    (same : (g : ℕ) → g < 256 → asked marks g ≡ is_in g tops)
    (p : Placed tops rows (λ g. length (group_of rows g)) room)
    (q : Kept tops (length rows) (λ g. length (group_of rows g)) room₀ room)
    (long : length room ≡ length room₀)
    (fits : room_for (length rows) ≤ length room₀)
  where
    -- a word of a block behind the numbers of its group
    kept_word : (g k : ℕ) → g < 256 → k < length rows → (is_in g tops ≡ true → length (group_of rows g) ≤ k) → get_or room (257 + g * length rows + k) 0 ≡ get_or room₀ (257 + g * length rows + k) 0
    kept_word g k s l past =
        q.same (257 + g * length rows + k) (omega arith)
        (λ h j t e m z.
        one_and_others (λ (h : ℕ). is_in h tops ≡ true → j < length (group_of rows h) → 257 + g * length rows + k ≡ 257 + h * length rows + j → ⊥) g
        (λ e m z. omega (arith, past e))
        (λ h n e m z. block_apart (length rows) g h j k n (omega (arith, from_most h 0 rows)) l (omega arith))
        h e m z)

    block_there : (g : ℕ) → g < 256 → part (257 + g * length rows) (length rows) room ≡ block_of marks rows room₀ g
    block_there g s = go (is_in g tops) refl
      where
        many : length (part (257 + g * length rows) (length rows) room) ≡ length rows
        many = part_long (257 + g * length rows) (length rows) room (omega (arith, long, block_end (length rows) g 256 s))

        many₀ : length (part (257 + g * length rows) (length rows) room₀) ≡ length rows
        many₀ = part_long (257 + g * length rows) (length rows) room₀ (omega (arith, block_end (length rows) g 256 s))

        go : (b : Bool) → is_in g tops ≡ b → part (257 + g * length rows) (length rows) room ≡ block_of marks rows room₀ g
        go true e =
            let numbers : List ℕ = group_of rows g in
            let before : List ℕ = part (257 + g * length rows) (length rows) room₀ in
            let there : asked marks g ≡ true = same g s ∙ e in
            ext_get_or 0 (part (257 + g * length rows) (length rows) room) (numbers ++ drop (length numbers) before)
            (many ∙ omega (arith, length-append numbers (drop (length numbers) before), length-drop (length numbers) before, many₀, from_most g 0 rows))
            (λ k l.
            let within : k < length rows = omega (arith, many) in
            part_at (257 + g * length rows) (length rows) room k within
            ∙ ⊎_elim
            (λ (m : k < length numbers). p.there g k s e m ∙ sym (get_or-append numbers (drop (length numbers) before) 0 k m))
            (λ (m : length numbers ≤ k).
            let z : length numbers + (k - length numbers) ≡ k = omega arith in
            kept_word g k s within (λ _. m)
            ∙ sym (part_at (257 + g * length rows) (length rows) room₀ k within)
            ∙ ap (λ (i : ℕ). get_or before i 0) (sym z)
            ∙ sym (get_or-drop (length numbers) before (k - length numbers) 0)
            ∙ sym (get_or-append-add numbers (drop (length numbers) before) (k - length numbers) 0)
            ∙ ap (λ (i : ℕ). get_or (numbers ++ drop (length numbers) before) i 0) z)
            (lt_or_ge k (length numbers)))
            ∙ ap (λ (b : Bool). cond b (numbers ++ drop (length numbers) before) before) (sym there)
        go false e =
            let before : List ℕ = part (257 + g * length rows) (length rows) room₀ in
            let none : asked marks g ≡ false = same g s ∙ e in
            ext_get_or 0 (part (257 + g * length rows) (length rows) room) before (many ∙ sym many₀)
            (λ k l.
            let within : k < length rows = omega (arith, many) in
            part_at (257 + g * length rows) (length rows) room k within
            ∙ kept_word g k s within (λ d. absurd (true≢false (sym d ∙ e)))
            ∙ sym (part_at (257 + g * length rows) (length rows) room₀ k within))
            ∙ ap (λ (b : Bool). cond b (group_of rows g ++ drop (length (group_of rows g)) before) before) (sym none)

    words_there : take 256 room ≡ up_to (λ (g : ℕ). group_word marks rows g ∷ []) 256
    words_there =
        take_ones room 256 (omega (arith, long))
        ∙ upto_same (λ (g : ℕ). get_or room g 0 ∷ []) (λ (g : ℕ). group_word marks rows g ∷ []) 256
        (λ g s. ap (λ (n : ℕ). n ∷ []) (p.words g s ∙ ap (λ (b : Bool). cond b (suc (length (group_of rows g))) 0) (sym (same g s))))

    one_there : part 256 1 room ≡ part 256 1 room₀
    one_there =
        let one : length (part 256 1 room) ≡ 1 = part_long 256 1 room (omega (arith, long)) in
        ext_get_or 0 (part 256 1 room) (part 256 1 room₀) (one ∙ sym (part_long 256 1 room₀ (omega arith)))
        (λ k l.
        let within : k < 1 = omega (arith, one) in
        part_at 256 1 room k within ∙ q.same (256 + k) (omega arith) (λ g j s e m z. omega arith) ∙ sym (part_at 256 1 room₀ k within))

    blocks_there : part 257 (256 * length rows) room ≡ up_to (block_of marks rows room₀) 256
    blocks_there = part_blocks room 257 (length rows) 256 ∙ upto_same (λ (g : ℕ). part (257 + g * length rows) (length rows) room) (block_of marks rows room₀) 256 block_there

    behind_there : drop (257 + 256 * length rows) room ≡ drop (257 + 256 * length rows) room₀
    behind_there =
        let a : ℕ = 257 + 256 * length rows in
        ext_get_or 0 (drop a room) (drop a room₀) (length-drop a room ∙ ap (λ (n : ℕ). n - a) long ∙ sym (length-drop a room₀))
        (λ k l.
        get_or-drop a room k 0
        ∙ q.same (a + k) (omega arith) (λ g j s e m z. omega (arith, block_end (length rows) g 256 s, from_most g 0 rows))
        ∙ sym (get_or-drop a room₀ k 0))

    pub room_holds : room ≡ room_after marks rows room₀
    room_holds =
        in_parts room (256 * length rows)
        ∙ (λ i. words_there i ++ one_there i ++ blocks_there i ++ behind_there i)
