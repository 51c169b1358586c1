-- All codes, chip after chip, are one list: the code at place k is that of chip k / chips for chip k % chips.
use Prim.Native.Nat.{ℕ, zero, suc, ◌+◌, ◌*◌, ◌/◌, ◌%◌, ◌≤◌, ◌<◌}
use mathlib.Core.Path.{◌≡◌, refl, sym, ap, ◌∙◌}
use mathlib.Core.List.{List, [], ◌∷◌, ◌++◌, append-nil, append_assoc}
use mathlib.Core.Logic.{⊎_elim}
use native.Mathlib.Omega.{arith}
use native.Mathlib.Nat.{add-zero, add-suc, div-lt_iff_lt-mul}
use lib.ListN.{length, get_or, length-append, get_or-append}
use lib.Seq.{get_or-append-add}
use Rattle.lists.specs.Lists.{up_to}
use Rattle.lists.proofs.UpTo.{upto_same, one_by_one}
use Rattle.lists.proofs.Firsts.{lt_or_ge}
use Rattle.mesh.specs.Mesh.{Mesh, many}
use Rattle.flood.specs.Codes.{code_of, codes_of}
use Rattle.flood.specs.Marks.{Column}
use Rattle.flood.proofs.Columns.{row_of, column_of}

-- what stands at the numbers below n, one number each
abbrev pub each_of : (ℕ → ℕ) → ℕ → List ℕ
each_of g n = up_to (λ k. g k ∷ []) n

join : (g : ℕ → ℕ) (a b : ℕ) → each_of g (a + b) ≡ each_of g a ++ each_of (λ k. g (a + k)) b
unfolding up_to
join g a zero = ap (each_of g) (add-zero a) ∙ sym (append-nil (each_of g a))
join g a (suc b) =
    ap (each_of g) (add-suc a b) ∙ ap (λ (l : List ℕ). l ++ g (a + b) ∷ []) (join g a b) ∙ append_assoc (each_of g a) (each_of (λ k. g (a + k)) b) (g (a + b) ∷ [])

pub long_each : (g : ℕ → ℕ) (n : ℕ) → length (each_of g n) ≡ n
unfolding up_to
long_each g zero = refl
long_each g (suc n) = simp length-append (omega (arith, long_each g n))

-- each in its place
pub at_each : (g : ℕ → ℕ) (n k : ℕ) → k < n → get_or (each_of g n) k 0 ≡ g k
unfolding up_to
at_each g zero k h = absurd (omega arith)
at_each g (suc n) k h =
    ⊎_elim (λ (l : k < n). get_or-append (each_of g n) (g n ∷ []) 0 k (omega (arith, long_each g n)) ∙ at_each g n k l)
    (λ (l : n ≤ k).
    let e : k ≡ length (each_of g n) + 0 = omega (arith, long_each g n) in
    let f : k ≡ n = omega arith in
    ap (λ (i : ℕ). get_or (each_of g n ++ g n ∷ []) i 0) e ∙ get_or-append-add (each_of g n) (g n ∷ []) 0 0 ∙ ap g (sym f))
    (lt_or_ge k n)

-- row after row
pub rows : (f : ℕ → ℕ → ℕ) (w h : ℕ) → up_to (λ y. each_of (f y) w) h ≡ each_of (λ k. f (k / w) (k % w)) (h * w)
unfolding up_to
rows f w zero = let e : 0 ≡ 0 * w = omega arith in ap (each_of (λ k. f (k / w) (k % w))) e
rows f w (suc h) =
    let g : ℕ → ℕ = λ k. f (k / w) (k % w) in
    let e : h * w + w ≡ suc h * w = omega arith in
    (λ i. rows f w h i ++ upto_same (λ x. f h x ∷ []) (λ x. g (h * w + x) ∷ []) w (λ x hx. λ j. f (sym (row_of w h x hx) j) (sym (column_of w h x hx) j) ∷ []) i)
    ∙ sym (join g (h * w) w)
    ∙ ap (each_of g) e

-- a place below a square says that there is a row
pub some_row : (k all : ℕ) → k < all * all → 1 ≤ all
some_row k zero h = absurd (omega arith)
some_row k (suc all) h = omega arith

module _ {A : Type 0} (m : Mesh A) where
  abbrev pub code_at : ℕ → ℕ
  code_at k = code_of m (k / many m) (k % many m)

  pub codes_each : codes_of m ≡ each_of code_at (many m * many m)
  unfolding codes_of
  codes_each = rows (code_of m) (many m) (many m)

  -- a list of the right length with every code in its place
  pub codes_whole : (all : ℕ) → many m ≡ all → (codes : List ℕ) → length codes ≡ all * all → ((k : ℕ) → k < all * all → get_or codes k 0 ≡ code_of m (k / all) (k % all)) → codes ≡ codes_of m
  codes_whole all e codes long each =
      one_by_one 0 codes
      ∙ (λ i. up_to (λ k. get_or codes k 0 ∷ []) (long i))
      ∙ upto_same (λ k. get_or codes k 0 ∷ []) (λ k. code_of m (k / all) (k % all) ∷ []) (all * all) (λ k h. ap (λ (c : ℕ). c ∷ []) (each k h))
      ∙ (λ i. each_of (λ k. code_of m (k / sym e i) (k % sym e i)) (sym e i * sym e i))
      ∙ sym codes_each

  -- one more destination
  pub column_more : (all to : ℕ) (code : ℕ → ℕ) (before after : List ℕ) → 1 ≤ all → Column all to code before after
      → ((c : ℕ) → c < all → code c ≡ code_of m c to)
      → ((k : ℕ) → k < all * all → k % all < to → get_or before k 0 ≡ code_of m (k / all) (k % all))
      → (k : ℕ) → k < all * all → k % all < to + 1 → get_or after k 0 ≡ code_of m (k / all) (k % all)
  column_more all to code before after some column codes done k h l =
      ⊎_elim (λ (b : k % all < to). column.others k (λ e. omega arith) ∙ done k h b)
      (λ (b : to ≤ k % all).
      let e : k % all ≡ to = omega arith in
      column.written k h e ∙ codes (k / all) ((div-lt_iff_lt-mul some).1 h) ∙ ap (code_of m (k / all)) (sym e))
      (lt_or_ge (k % all) to)
