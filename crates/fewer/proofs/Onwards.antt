-- Going on from what has gone on, and what a walk has come to at its end.
use Prim.Native.Nat.{ℕ, suc, ◌+◌, ◌-◌, ◌≤◌}
use mathlib.Core.Path.{◌≡◌, refl, sym, ap, ◌∙◌, subst}
use mathlib.Core.List.{List, [], ◌∷◌, ◌++◌, append-nil}
use native.Mathlib.Omega.{arith}
use lib.ListN.{length, take, drop, set, length-set, drop_of_length-le}
use lib.Seq.{length-take-le, take-take, take-suc-set, drop-drop, drop-set-lt}
use Rattle.fewer.specs.declared.Walk.{Walk}
use Rattle.fewer.specs.Process.{Numbered, step}
use Rattle.fewer.specs.declared.Held.{Held}
use Rattle.fewer.specs.Hand.{held_of, with_left, end_from, Onward, Stays, walk_rows, Walking, WentOn, TookOut}
use Rattle.fewer.proofs.HeldRows.{held_many}
use Rattle.fewer.proofs.Steps.{end_step}

drop_further : (s t : List ℕ) (i j : ℕ) → i ≤ j → drop i s ≡ drop i t → drop j s ≡ drop j t
drop_further s t i j h e =
    let f : i + (j - i) ≡ j = omega arith in
    rw (← f) (sym (drop-drop (j - i) i s) ∙ ap (drop (j - i)) e ∙ drop-drop (j - i) i t)

take_less : (s t : List Numbered) (i j : ℕ) → i ≤ j → take j s ≡ take j t → take i s ≡ take i t
take_less s t i j h e = sym (take-take i j s h) ∙ ap (take i) e ∙ take-take i j t h

module _ (held : List Held) (gone : List ℕ) (rows : List Numbered) where
  pub onward_none : Onward held gone rows held gone rows
  onward_none = record { words = refl; room = refl; fewer = omega arith; ends = refl; rest = refl }

pub onward_on : {held₀ held₁ held₂ : List Held} {gone₀ gone₁ gone₂ : List ℕ} {rows₀ rows₁ rows₂ : List Numbered} → Onward held₀ gone₀ rows₀ held₁ gone₁ rows₁ → Onward held₁ gone₁ rows₁ held₂ gone₂ rows₂
    → Onward held₀ gone₀ rows₀ held₂ gone₂ rows₂
onward_on {gone₀ = gone₀} {gone₁ = gone₁} {gone₂ = gone₂} {rows₁ = rows₁} {rows₂ = rows₂} a b =
    record {
      words = b.words ∙ a.words;
      room = b.room ∙ a.room;
      fewer = omega (arith, a.fewer, b.fewer);
      ends = b.ends ∙ a.ends;
      rest = b.rest ∙ drop_further gone₁ gone₀ (length gone₁ - length rows₁) (length gone₂ - length rows₂) (omega (arith, b.room, b.fewer)) a.rest;
    }

-- by a step, which lists one number more
module _ (held held' : List Held) (gone : List ℕ) (rows rows' : List Numbered) (n number : ℕ) (words : length held' ≡ length held) (many : length rows ≡ n) (room : n ≤ length gone)
    (fewer : suc (length rows') ≡ length rows)
    (stepped : step (with_left rows gone) ≡ record { left = rows'; gone = take (length gone - length rows) gone ++ number ∷ [] }) where
  gone' : List ℕ
  gone' = set gone (length gone - n) number

  same_room : length gone' ≡ length gone
  unfolding gone'
  same_room = length-set gone (length gone - n) number

  listed : length gone' - length rows' ≡ suc (length gone - n)
  listed = omega (arith, same_room)

  one_more : take (length gone' - length rows') gone' ≡ take (length gone - length rows) gone ++ number ∷ []
  unfolding gone'
  one_more = rw (listed, many) (take-suc-set gone (length gone - n) number (omega arith))

  pub one_step : Onward held gone rows held' (set gone (length gone - n) number) rows'
  unfolding gone'
  one_step =
      record {
        words = words;
        room = same_room;
        fewer = omega arith;
        ends = ap (λ (g : List ℕ). end_from (record { left = rows'; gone = g })) one_more ∙ ap end_from (sym stepped) ∙ end_step (with_left rows gone);
        rest = rw listed (drop-set-lt (suc (length gone - n)) gone (length gone - n) number (omega arith));
      }

-- ---- walks

pub went_none : (held : List Held) (gone : List ℕ) (w : Walk) → WentOn held gone w held gone w
went_none held gone w = record { onward = onward_none held gone (walk_rows held w); same = refl; more = omega arith; front = refl; matching = λ all. all }

pub went_on : {held₀ held₁ held₂ : List Held} {gone₀ gone₁ gone₂ : List ℕ} {w₀ w₁ w₂ : Walk} → WentOn held₀ gone₀ w₀ held₁ gone₁ w₁ → WentOn held₁ gone₁ w₁ held₂ gone₂ w₂
    → WentOn held₀ gone₀ w₀ held₂ gone₂ w₂
went_on {held₁ = held₁} {held₂ = held₂} {w₀ = w₀} {w₁ = w₁} a b =
    record {
      onward = onward_on a.onward b.onward;
      same = b.same ∙ a.same;
      more = omega (arith, a.more, b.more);
      front = take_less (held_of held₂) (held_of held₁) w₀.kept w₁.kept a.more b.front ∙ a.front;
      matching = λ all. b.matching (a.matching all);
    }

module _ (lo hi : ℕ) (held₀ : List Held) (gone₀ : List ℕ) (w₀ : Walk) (held : List Held) (gone : List ℕ) (w : Walk) (walking : Walking lo hi held gone w) (over : w.count ≤ w.next) (went : WentOn held₀ gone₀ w₀ held gone w) where
  pub took_out : TookOut held₀ gone₀ w₀ held gone w.kept
  took_out =
      record {
        onward = subst (λ (l : List Numbered). Onward held₀ gone₀ (walk_rows held₀ w₀) held gone l) all_kept went.onward;
        more = went.more;
        most = omega (arith, walking.behind, walking.within, went.same);
        front = went.front;
        quiet = λ i h. subst (λ (l : List Numbered). Stays l i) all_kept (walking.walked.above i (omega (arith, many)));
      }
    where
      enough : w.count ≤ length (held_of held)
      enough = omega (arith, held_many held, walking.fits)

      many : length (take w.kept (held_of held)) ≡ w.kept
      many = length-take-le w.kept (held_of held) (omega (arith, walking.behind, walking.within, enough))

      none_left : drop w.next (take w.count (held_of held)) ≡ []
      none_left = drop_of_length-le (take w.count (held_of held)) {i = w.next} (omega (arith, length-take-le w.count (held_of held) enough))

      all_kept : walk_rows held w ≡ take w.kept (held_of held)
      all_kept = ap (λ (l : List Numbered). take w.kept (held_of held) ++ l) none_left ∙ append-nil (take w.kept (held_of held))
