-- The rows in hand by their places: how many there are, which words are a row's, and one put in another's place.
use Prim.Native.Nat.{ℕ, zero, suc, ◌+◌, ◌*◌, ◌<◌}
use mathlib.Core.Path.{◌≡◌, refl, sym, ap, ◌∙◌}
use mathlib.Core.List.{List, [], ◌∷◌, ◌++◌, append_assoc}
use native.Mathlib.Omega.{arith}
use native.Mathlib.Numerals.{add-one}
use lib.ListN.{length, get_or, take, drop, set}
use lib.Seq.{take-suc, take-suc-set, take_at, drop_at, drop-drop, length-take-le, sets-eq}
use Rattle.tables.specs.Rows.{Entry, blank_entry}
use Rattle.fewer.specs.Process.{Numbered, numbered, blank, row_at}
use Rattle.fewer.specs.Call.{words_of}
use Rattle.fewer.specs.declared.Held.{Held}
use Rattle.fewer.specs.Hand.{numbered_of, held_of}

pub held_many : (w : List Held) → length (held_of w) ≡ length w
unfolding held_of
held_many [] = refl
held_many (r ∷ rs) = ap suc (held_many rs)

-- what a read past the end would give
abbrev pub none_held : Held
none_held = record { key = 0; mask = 0; route = 0; number = 0 }

pub held_at : (w : List Held) (i : ℕ) → i < length w → numbered_of (get_or w i none_held) ≡ get_or (held_of w) i blank
unfolding held_of
held_at [] i h = absurd (omega arith)
held_at (r ∷ rs) zero h = refl
held_at (r ∷ rs) (suc i) h = held_at rs i (omega arith)

pub held_put : (w : List Held) (i : ℕ) (row : Held) → held_of (set w i row) ≡ set (held_of w) i (numbered_of row)
unfolding held_of
held_put [] i row = refl
held_put (r ∷ rs) zero row = refl
held_put (r ∷ rs) (suc i) row = ap (λ (l : List Numbered). numbered_of r ∷ l) (held_put rs i row)

pub held_take : (n : ℕ) (w : List Held) → held_of (take n w) ≡ take n (held_of w)
unfolding held_of
held_take zero w = refl
held_take (suc n) [] = refl
held_take (suc n) (r ∷ rs) = ap (λ (l : List Numbered). numbered_of r ∷ l) (held_take n rs)

-- ---- the rows of a table, with their numbers

pub numbered_at : (n : ℕ) (rows : List Entry) (i : ℕ) → i < length rows → record { entry = get_or rows i blank_entry; number = n + i } ≡ get_or (numbered n rows) i blank
unfolding numbered
numbered_at n [] i h = absurd (omega arith)
numbered_at n (r ∷ rows) zero h = ap (λ (k : ℕ). record { entry = r; number = k }) (omega arith)
numbered_at n (r ∷ rows) (suc i) h =
    let e : n + suc i ≡ suc n + i = omega arith in
    ap (λ (k : ℕ). record { entry = get_or rows i blank_entry; number = k }) e ∙ numbered_at (suc n) rows i (omega arith)

-- one row more of those is taken in
pub take_more : (rows taken : List Numbered) (i : ℕ) → i < length rows → i < length taken → take i taken ≡ take i rows
    → take (i + 1) (set taken i (get_or rows i blank)) ≡ take (i + 1) rows
take_more rows taken i h k e = rw (add-one, take-suc-set taken i (get_or rows i blank) k, e) (sym (take-suc rows i blank h))

-- ---- rows given back, three words each

pub length_words : (rows : List Numbered) → length (words_of rows) ≡ length rows * 3
unfolding words_of
length_words [] = refl
length_words (r ∷ rows) = omega (arith, length_words rows)

words_append : (a b : List Numbered) → words_of (a ++ b) ≡ words_of a ++ words_of b
unfolding words_of
words_append [] b = refl
words_append (r ∷ a) b = ap (λ (l : List ℕ). r.entry.key ∷ r.entry.mask ∷ r.entry.route ∷ l) (words_append a b)

pub words_put : (l : List ℕ) (at a b c : ℕ) → at + 2 < length l → set (set (set l at a) (at + 1) b) (at + 2) c ≡ take at l ++ a ∷ b ∷ c ∷ drop (at + 3) l
words_put l at a b c h =
    let e : at + 1 ≡ suc at = omega arith in
    let f : at + 2 ≡ suc (suc at) = omega arith in
    (λ k. set (set (set l at a) (e k) b) (f k) c) ∙ sets-eq (a ∷ b ∷ c ∷ []) l at (omega arith)
    ∙ append_assoc (take at l) (a ∷ b ∷ c ∷ []) (drop (at + 3) l)

pub words_more : (rows : List Numbered) (l : List ℕ) (i : ℕ) → i < length rows
    → take (i * 3) (words_of (take i rows) ++ drop (i * 3) l) ++ (row_at rows i).key ∷ (row_at rows i).mask ∷ (row_at rows i).route ∷ drop (i * 3 + 3) (words_of (take i rows) ++ drop (i * 3) l)
    ≡ words_of (take (i + 1) rows) ++ drop ((i + 1) * 3) l
unfolding words_of
words_more rows l i h =
    let front : List ℕ = words_of (take i rows) in
    let long : length front ≡ i * 3 = length_words (take i rows) ∙ ap (λ (n : ℕ). n * 3) (length-take-le i rows (omega arith)) in
    let row : List ℕ = (row_at rows i).key ∷ (row_at rows i).mask ∷ (row_at rows i).route ∷ [] in
    let e : i * 3 + 3 ≡ (i + 1) * 3 = omega arith in
    let rest : drop (i * 3 + 3) (front ++ drop (i * 3) l) ≡ drop ((i + 1) * 3) l =
    sym (drop-drop 3 (i * 3) (front ++ drop (i * 3) l)) ∙ ap (drop 3) (drop_at front (drop (i * 3) l) (i * 3) long) ∙ drop-drop 3 (i * 3) l ∙ ap (λ (n : ℕ). drop n l) e in
    (λ k. take_at front (drop (i * 3) l) (i * 3) long k ++ (row ++ rest k))
    ∙ sym (append_assoc front row (drop ((i + 1) * 3) l))
    ∙ ap (λ (w : List ℕ). w ++ drop ((i + 1) * 3) l) (sym (ap words_of (ap (λ (n : ℕ). take n rows) (add-one i) ∙ take-suc rows i blank h) ∙ words_append (take i rows) (get_or rows i blank ∷ [])))
