-- What the call answers and writes, where it refuses and where it does not.
use Prim.Native.Nat.{ℕ, ◌+◌, ◌-◌, ◌/◌, ◌≤◌}
use mathlib.Core.Path.{◌≡◌, sym, ap, ◌∙◌}
use mathlib.Core.Bool.{Bool, true, false, cond}
use mathlib.Core.List.{List, ◌++◌, append_assoc}
use native.Mathlib.Omega.{arith}
use borrow.Author.Tests.{eq-eqb, ne_eqb}
use lib.Dec.{eqb}
use lib.ListN.{length, take, drop, take-append-drop}
use lib.Seq.{length-take-le, drop-append-le}
use Rattle.tables.specs.Places.{route_place}
use Rattle.tables.specs.Rows.{rows_of}
use Rattle.tables.proofs.RowsByNumber.{rows_many}
use Rattle.fewer.specs.declared.Fewer.{Fewer}
use Rattle.fewer.specs.Process.{ended}
use Rattle.fewer.specs.Call.{words_of, refusal_of, end_of, fewer_of, left_after, gone_after}
use Rattle.fewer.specs.Hand.{Shortened}
use Rattle.fewer.proofs.AllAccounted.{all_accounted}

module _ (rows left gone : List ℕ) where
  abbrev done : Fewer
  done = record { refusal = 0; rows = length (end_of rows left gone).left; gone = length (end_of rows left gone).gone; place = 0 }

  abbrev undone : ℕ → Fewer
  undone refusal = record { refusal = refusal; rows = 0; gone = 0; place = cond (eqb refusal 17) (route_place rows) 0 }

  abbrev new_left : List ℕ
  new_left = words_of (end_of rows left gone).left ++ drop (length (words_of (end_of rows left gone).left)) left

  abbrev new_gone : List ℕ
  new_gone = (end_of rows left gone).gone ++ drop (length (end_of rows left gone).gone) gone

  module _ (refusal place : ℕ) (is : refusal ≡ refusal_of rows left gone) (not_None : refusal ≡ 0 → ⊥) (told : place ≡ cond (eqb refusal 17) (route_place rows) 0) where
    off : eqb (refusal_of rows left gone) 0 ≡ false
    off = ne_eqb (refusal_of rows left gone) 0 (λ e. not_None (is ∙ e))

    pub refused : (record { refusal = refusal; rows = 0; gone = 0; place = place } ≡ fewer_of rows left gone) × ((left ≡ left_after rows left gone) × (gone ≡ gone_after rows left gone))
    refused = (
      ap (λ (p : ℕ). record { refusal = refusal; rows = 0; gone = 0; place = p }) told ∙ ap undone is ∙ sym (ap (λ (b : Bool). cond b done (undone (refusal_of rows left gone))) off),
      (sym (ap (λ (b : Bool). cond b new_left left) off), sym (ap (λ (b : Bool). cond b new_gone gone) off)),
    )

  module _ (r : ℕ) (left' gone' : List ℕ) (is : refusal_of rows left gone ≡ 0) (room : length rows / 3 ≤ length gone)
      (short : Shortened (ended (rows_of rows)) left (take (length rows / 3) gone) left' gone' r) where
    accounted : r + length (ended (rows_of rows)).gone ≡ length rows / 3
    accounted = omega (arith, short.many, (all_accounted (rows_of rows)).1, rows_many rows)

    pub left_few : r ≤ length rows / 3
    left_few = omega (arith, accounted)

    on : eqb (refusal_of rows left gone) 0 ≡ true
    on = eq-eqb (refusal_of rows left gone) 0 is

    -- the part of the room that was lent, with the rest behind it
    rejoined : gone' ++ drop (length rows / 3) gone ≡ new_gone
    rejoined =
        let listed : List ℕ = (ended (rows_of rows)).gone in
        let lent : List ℕ = take (length rows / 3) gone in
        ap (λ (l : List ℕ). l ++ drop (length rows / 3) gone) short.numbers
        ∙ append_assoc listed (drop (length listed) lent) (drop (length rows / 3) gone)
        ∙ ap (λ (l : List ℕ). listed ++ l)
        (sym (drop-append-le (length listed) lent (drop (length rows / 3) gone) (omega (arith, accounted, length-take-le (length rows / 3) gone room)))
        ∙ ap (drop (length listed)) (take-append-drop (length rows / 3) gone))

    pub accepted : (record { refusal = 0; rows = r; gone = length rows / 3 - r; place = 0 } ≡ fewer_of rows left gone)
        × ((left' ≡ left_after rows left gone) × (gone' ++ drop (length rows / 3) gone ≡ gone_after rows left gone))
    accepted =
        let gone_many : length rows / 3 - r ≡ length (ended (rows_of rows)).gone = omega (arith, accounted) in (
          (λ k. record { refusal = 0; rows = short.many k; gone = gone_many k; place = 0 }) ∙ sym (ap (λ (b : Bool). cond b done (undone (refusal_of rows left gone))) on),
          (short.words ∙ sym (ap (λ (b : Bool). cond b new_left left) on), rejoined ∙ sym (ap (λ (b : Bool). cond b new_gone gone) on)),
        )
