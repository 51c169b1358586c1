-- A search by fours: one of a list passes where one of its pieces of four or of what is left of them does.
use Prim.Native.Nat.{ℕ, zero, suc, ◌*◌, ◌/◌, ◌≤◌, ◌<◌}
use mathlib.Core.Path.{◌≡◌, refl, sym, ap, ◌∙◌, subst}
use mathlib.Core.Bool.{Bool, true, false, ◌||◌, or_assoc}
use mathlib.Core.List.{List, [], ◌∷◌, ◌++◌}
use native.Mathlib.Omega.{arith}
use lib.ListN.{length, take, drop, length-append, take-append-drop}
use lib.Seq.{length-take-le, take_at, drop_at, drop-drop, get_or-take}
use Rattle.std.specs.List.{list_any}
use Rattle.std.specs.Borrow.{Bor}
use Rattle.std.specs.Iterator.{AlwaysYields}
use Rattle.std.specs.Slice.Iter.{chunks_exact_rest, chunks_exact_size, chunks_exact_steps}
use Rattle.tables.specs.Rows.{Entry}
use Rattle.fewer.specs.Process.{Numbered, blank, covers, row_at}
use Rattle.fewer.specs.declared.Held.{Held}
use Rattle.fewer.specs.Hand.{numbered_of, held_of, Covered, some_covers}
use Rattle.fewer.proofs.HeldRows.{held_take}

module _ {A : Type 0} where
  pub pieces : ℕ → List A → List (List A)
  pieces zero l = []
  pieces (suc n) l = take 4 l ∷ pieces n (drop 4 l)

  pub gives : (n : ℕ) (s : _) → chunks_exact_size s ≡ 4 → n ≡ length (chunks_exact_rest s) / 4 → AlwaysYields chunks_exact_steps (λ (y : Bor (List A)). y.now) s (pieces n (chunks_exact_rest s))
  unfolding pieces
  gives zero s e f = λ x t p. absurd (omega (arith, f, e, p.1.1, ap length p.1.0, length-append x.now (chunks_exact_rest t)))
  gives (suc n) s e f = (
    λ t p. absurd (omega (arith, f, e, p.1.0)),
    λ x t p.
        let four : length x.now ≡ 4 = p.1.1 ∙ e in
        let all = p.1.0 in
        let long = ap length all ∙ length-append x.now (chunks_exact_rest t) in
        let rest : chunks_exact_rest t ≡ drop 4 (chunks_exact_rest s) = sym (ap (drop 4) all ∙ drop_at x.now (chunks_exact_rest t) 4 four) in
        let first : x.now ≡ take 4 (chunks_exact_rest s) = sym (ap (take 4) all ∙ take_at x.now (chunks_exact_rest t) 4 four) in (
          first,
          subst (λ (l : List A). AlwaysYields chunks_exact_steps (λ (y : Bor (List A)). y.now) t (pieces n l)) rest (gives n t (p.0 ∙ e) (omega (arith, f, four, long))),
        ),
  )

  any_both : (p : A → Bool) (a b : List A) → list_any p (a ++ b) ≡ (list_any p a || list_any p b)
  any_both p [] b = refl
  any_both p (x ∷ a) b = ap (λ (c : Bool). p x || c) (any_both p a b) ∙ sym (or_assoc (p x) (list_any p a) (list_any p b))

  -- a piece is found where the list has one
  pub by_pieces : (p : A → Bool) (n : ℕ) (l : List A) → (list_any (list_any p) (pieces n l) || list_any p (drop (n * 4) l)) ≡ list_any p l
  unfolding pieces
  by_pieces p zero l = refl
  by_pieces p (suc n) l =
      or_assoc (list_any p (take 4 l)) (list_any (list_any p) (pieces n (drop 4 l))) (list_any p (drop (suc n * 4) l))
      ∙ ap (λ (c : Bool). list_any p (take 4 l) || c)
      (ap (λ (k : List A). list_any (list_any p) (pieces n (drop 4 l)) || list_any p k) (ap (λ (m : ℕ). drop m l) (omega arith) ∙ sym (drop-drop (n * 4) 4 l)) ∙ by_pieces p n (drop 4 l))
      ∙ sym (any_both p (take 4 l) (drop 4 l)) ∙ ap (list_any p) (take-append-drop 4 l)

-- what a search of rows in hand says of them
module _ (r : Entry) where
  next : (h : Held) (hs : List Held) (a b : Bool) → covers (numbered_of h).entry r ≡ a → Covered (held_of hs) r 0 (length hs) b → Covered (held_of (h ∷ hs)) r 0 (suc (length hs)) (a || b)
  unfolding held_of
  next h hs true b e k = (0, (omega arith, e))
  next h hs false true e (i, (less, f)) = (suc i, (omega arith, f))
  next h hs false false e none = λ i from upto. place i upto
    where
      place : (i : ℕ) → i < suc (length hs) → covers (row_at (held_of (h ∷ hs)) i) r ≡ false
      place zero upto = e
      place (suc i) upto = none i (omega arith) (omega arith)

  pub told : (held : List Held) → Covered (held_of held) r 0 (length held) (some_covers r held)
  told [] = λ i from upto. absurd (omega arith)
  told (h ∷ hs) = next h hs (covers (numbered_of h).entry r) (some_covers r hs) refl (told hs)

  from_front : (rows : List Numbered) (upto : ℕ) (b : Bool) → Covered (take upto rows) r 0 upto b → Covered rows r 0 upto b
  from_front rows upto true (i, (less, e)) = (i, (less, ap (λ (n : Numbered). covers n.entry r) (sym (get_or-take upto rows i blank less)) ∙ e))
  from_front rows upto false none = λ i from less. ap (λ (n : Numbered). covers n.entry r) (sym (get_or-take upto rows i blank less)) ∙ none i from less

  -- by the pieces of the first rows, and then what is left of them
  pub covered_of : (held : List Held) (upto n : ℕ) (a b : Bool) → upto ≤ length held → a ≡ list_any (some_covers r) (pieces n (take upto held)) → b ≡ some_covers r (drop (n * 4) (take upto held)) → Covered (held_of held) r 0 upto (a || b)
  covered_of held upto n a b h first rest =
      let all : (a || b) ≡ some_covers r (take upto held) = (λ i. first i || rest i) ∙ by_pieces (λ (e : Held). covers (numbered_of e).entry r) n (take upto held) in
      let here = subst (λ (m : ℕ). Covered (held_of (take upto held)) r 0 m (some_covers r (take upto held))) (length-take-le upto held h) (told (take upto held)) in
      from_front (held_of held) upto (a || b) (subst (λ (l : List Numbered). Covered l r 0 upto (a || b)) (held_take upto held) (subst (Covered (held_of (take upto held)) r 0 upto) (sym all) here))
