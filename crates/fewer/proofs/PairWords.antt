-- Two neighbours in hand: what the words say where they are no pair, and where they are made one and a walk has taken out what the joined row covers.
use Prim.Native.Nat.{ℕ, suc, ◌+◌, ◌-◌, ◌≤◌, ◌<◌}
use mathlib.Core.Path.{◌≡◌, sym, ap, ◌∙◌, subst}
use mathlib.Core.Bool.{true, false}
use mathlib.Core.List.{List, [], ◌∷◌, ◌++◌, append_assoc}
use native.Mathlib.Omega.{arith}
use native.Mathlib.Numerals.{add-one}
use borrow.Author.Count.{below_more}
use lib.ListN.{length, get_or, take, drop, set, length-take}
use lib.Seq.{length-take-le, take_at, take-take, take-set-lt, take-suc-set, drop-set-lt, get_or-take}
use Rattle.fewer.specs.declared.Pairs.{Pairs}
use Rattle.fewer.specs.declared.Walk.{Walk}
use Rattle.fewer.specs.Process.{Numbered, blank, pair, joins, with_pair, step}
use Rattle.fewer.specs.declared.Held.{Held}
use Rattle.fewer.specs.Hand.{held_of, joined_of, with_left, Onward, AllMatch, Walked, walk_rows, Walking, TookOut, AtPairs, WentPast, JoinedAll}
use Rattle.fewer.proofs.HeldRows.{held_many}
use Rattle.fewer.proofs.Onwards.{onward_none, onward_on, one_step}
use Rattle.fewer.proofs.Pairing.{nothing_left, pair_step, walk_from_pair, match_with_pair, none_above}
use Rattle.fewer.proofs.Steps.{steps_same, length_pair}

module _ (held : List Held) (gone : List ℕ) (p : Pairs) (now : AtPairs held gone p) (more : p.at + 1 < p.rows) (upper lower : Numbered)
    (is-upper : upper ≡ get_or (held_of held) p.at blank) (is-lower : lower ≡ get_or (held_of held) (p.at + 1) blank) where
  abbrev H : List Numbered
  H = held_of held

  abbrev L : List Numbered
  L = take p.rows H

  enough : p.rows ≤ length H
  enough = omega (arith, held_many held, now.fits)

  many : length L ≡ p.rows
  many = length-take-le p.rows H enough

  upper_there : get_or L p.at blank ≡ upper
  upper_there = get_or-take p.rows H p.at blank (omega arith) ∙ sym is-upper

  lower_there : get_or L (p.at + 1) blank ≡ lower
  lower_there = get_or-take p.rows H (p.at + 1) blank more ∙ sym is-lower

  tested : joins L p.at ≡ pair upper.entry lower.entry
  tested = λ k. pair (upper_there k).entry (lower_there k).entry

  pub no_pair : pair upper.entry lower.entry ≡ false
      → (AtPairs held gone (record { rows = p.rows; at = p.at + 1 })) × (WentPast held gone p held gone (record { rows = p.rows; at = p.at + 1 }))
  no_pair e = (
    record {
      within = omega arith;
      listed = now.listed;
      fits = now.fits;
      quiet = now.quiet;
      above = below_more (λ (i : ℕ). joins L i ≡ false) p.at now.above (tested ∙ e);
    },
    record { onward = onward_none held gone L; nearer = omega arith },
  )

  module _ (is : pair upper.entry lower.entry ≡ true) (held₁ : List Held) (words : length held₁ ≡ length held) (put : held_of held₁ ≡ set H p.at (joined_of upper lower)) where
    abbrev gone₁ : List ℕ
    gone₁ = set gone (length gone - p.rows) lower.number

    abbrev walk : Walk
    walk = record { kept = p.at + 1; next = p.at + 2; count = p.rows }

    made_one : walk_rows held₁ walk ≡ with_pair L p.at
    made_one =
        let one : Numbered = joined_of upper lower in
        let front : take (p.at + 1) (set H p.at one) ≡ take p.at L ++ one ∷ [] =
        rw add-one (take-suc-set H p.at one (omega (arith, enough))) ∙ ap (λ (l : List Numbered). l ++ one ∷ []) (sym (take-take p.at p.rows H (omega arith))) in
        let rest : drop (p.at + 2) (take p.rows (set H p.at one)) ≡ drop (p.at + 2) L =
        ap (drop (p.at + 2)) (take-set-lt p.rows H p.at one (omega arith)) ∙ drop-set-lt (p.at + 2) L p.at one (omega arith) in
        ap (λ (l : List Numbered). take (p.at + 1) l ++ drop (p.at + 2) (take p.rows l)) put
        ∙ (λ k. front k ++ rest k)
        ∙ append_assoc (take p.at L) (one ∷ []) (drop (p.at + 2) L)
        ∙ (λ k. take p.at L ++ joined_of (sym upper_there k) (sym lower_there k) ∷ drop (p.at + 2) L)

    joins_there : joins L p.at ≡ true
    joins_there = tested ∙ is

    below : p.at + 1 < length L
    below = omega (arith, many)

    fewer : suc (length (walk_rows held₁ walk)) ≡ length L
    fewer = rw made_one (length_pair L p.at below)

    stepped : step (with_left L gone) ≡ record { left = walk_rows held₁ walk; gone = take (length gone - length L) gone ++ lower.number ∷ [] }
    stepped =
        pair_step L now.quiet p.at below joins_there (take (length gone - length L) gone) now.above
        ∙ (λ k. record { left = sym made_one k; gone = take (length gone - length L) gone ++ (lower_there k).number ∷ [] })

    onward : Onward held gone L held₁ gone₁ (walk_rows held₁ walk)
    onward = one_step held held₁ gone L (walk_rows held₁ walk) p.rows lower.number words many now.listed fewer stepped

    pub walk_begins : (Walking p.at (p.at + 1) held₁ gone₁ walk) × (AllMatch (walk_rows held₁ walk))
    walk_begins = (
      record {
        behind = omega arith;
        within = omega arith;
        listed = omega (arith, onward.room, now.listed);
        fits = omega (arith, now.fits);
        lower = omega arith;
        walked = subst (λ (l : List Numbered). Walked p.at (p.at + 1) l (p.at + 1)) (sym made_one) (walk_from_pair L now.quiet p.at below joins_there);
      },
      subst AllMatch (sym made_one) (match_with_pair L now.quiet p.at below joins_there),
    )

    module _ (held₂ : List Held) (gone₂ : List ℕ) (r : ℕ) (took : TookOut held₁ gone₁ walk held₂ gone₂ r) where
      same_front : take (p.at + 1) (take r (held_of held₂)) ≡ take (p.at + 1) (with_pair L p.at)
      same_front =
          take-take (p.at + 1) r (held_of held₂) took.more
          ∙ took.front
          ∙ sym (take_at (take (p.at + 1) (held_of held₁)) _ (p.at + 1) (length-take-le (p.at + 1) (held_of held₁) (omega (arith, held_many held₁, now.fits))))
          ∙ ap (take (p.at + 1)) made_one

      left_many : length (take r (held_of held₂)) ≡ r
      left_many = length-take-le r (held_of held₂) (omega (arith, held_many held₂, took.onward.words, took.most, now.fits))

      pub pair_joined : (AtPairs held₂ gone₂ (record { rows = r; at = p.at - 1 })) × (WentPast held gone p held₂ gone₂ (record { rows = r; at = p.at - 1 }))
      pair_joined = (
        record {
          within = omega (arith, took.more);
          listed = omega (arith, took.most, took.onward.room, onward.room, now.listed);
          fits = omega (arith, took.most, took.onward.words, now.fits);
          quiet = took.quiet;
          above = none_above L now.quiet p.at below joins_there now.above (take r (held_of held₂)) same_front;
        },
        record { onward = onward_on onward took.onward; nearer = omega (arith, took.onward.fewer, left_many, fewer, many) },
      )

-- ---- past the last pair

module _ (held₀ : List Held) (gone₀ : List ℕ) (count : ℕ) (held : List Held) (gone : List ℕ) (p : Pairs) (now : AtPairs held gone p) (last : p.rows ≤ p.at + 1)
    (onward : Onward held₀ gone₀ (take count (held_of held₀)) held gone (take p.rows (held_of held))) where
  pub all_joined : JoinedAll held₀ gone₀ count held gone p.rows
  all_joined =
      let rows : List Numbered = take p.rows (held_of held) in
      let many : length rows ≡ p.rows = length-take-le p.rows (held_of held) (omega (arith, held_many held, now.fits)) in
      record {
        onward = onward;
        most = omega (arith, onward.fewer, many, length-take count (held_of held₀));
        over = steps_same (with_left rows gone) (nothing_left rows now.quiet (take (length gone - length rows) gone) (λ i h. now.above i (omega (arith, many)))) (length rows);
      }
