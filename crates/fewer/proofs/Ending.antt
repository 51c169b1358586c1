-- From all rows of a table to the end of the process: where the walk and the joining begin, and what is written when they are over.
use Prim.Native.Nat.{ℕ, ◌-◌, ◌*◌, ◌/◌, ◌≤◌}
use mathlib.Core.Path.{◌≡◌, sym, ap, ◌∙◌}
use mathlib.Core.List.{List, ◌++◌}
use mathlib.Core.Logic.{⊎_elim}
use native.Mathlib.Omega.{arith}
use lib.ListN.{length, take, drop, length-take, take-append-drop}
use lib.Seq.{length-take-le}
use Rattle.tables.specs.Rows.{rows_of}
use Rattle.tables.proofs.RowsByNumber.{rows_many}
use Rattle.fewer.specs.Process.{numbered, begun, ended, steps}
use Rattle.fewer.specs.Call.{words_of}
use Rattle.fewer.specs.declared.Held.{Held}
use Rattle.fewer.specs.Hand.{held_of, with_left, end_from, Onward, Walking, TookOut, AtPairs, JoinedAll, Shortened}
use Rattle.fewer.proofs.AtRest.{length_numbered}
use Rattle.fewer.proofs.HeldRows.{held_many, length_words}
use Rattle.fewer.proofs.Onwards.{onward_on}

module _ (held₀ : List Held) (gone₀ : List ℕ) (count : ℕ) (listed : count ≤ length gone₀) (fits : count ≤ length held₀) where
  pub walk_from_top : Walking 0 count held₀ gone₀ (record { kept = 0; next = 0; count = count })
  walk_from_top =
      record {
        behind = omega arith;
        within = omega arith;
        listed = listed;
        fits = fits;
        lower = omega arith;
        walked = record {
          above = λ i h. absurd (omega arith);
          only = λ i j h k l past. absurd (⊎_elim (λ a. omega arith) (λ a. omega (arith, length-take count (held_of held₀))) past);
        };
      }

  module _ (held₁ : List Held) (gone₁ : List ℕ) (r : ℕ) (took : TookOut held₀ gone₀ (record { kept = 0; next = 0; count = count }) held₁ gone₁ r) where
    pub pairs_from_top : AtPairs held₁ gone₁ (record { rows = r; at = 0 })
    pairs_from_top =
        record {
          within = omega arith;
          listed = omega (arith, took.most, took.onward.room);
          fits = omega (arith, took.most, took.onward.words);
          quiet = took.quiet;
          above = λ i h. absurd (omega arith);
        }

    module _ (rows : List ℕ) (taken : take count (held_of held₀) ≡ numbered 0 (rows_of rows)) (room : length gone₀ ≡ count) (all : count ≡ length rows / 3) (held₂ : List Held) (gone₂ : List ℕ) (n : ℕ)
        (joined : JoinedAll held₁ gone₁ r held₂ gone₂ n) where
      onward : Onward held₀ gone₀ (take count (held_of held₀)) held₂ gone₂ (take n (held_of held₂))
      onward = onward_on took.onward joined.onward

      many : length (take n (held_of held₂)) ≡ n
      many = length-take-le n (held_of held₂) (omega (arith, held_many held₂, onward.words, joined.most, took.most))

      began : with_left (take count (held_of held₀)) gone₀ ≡ begun (rows_of rows)
      began =
          let none : length gone₀ - length (take count (held_of held₀)) ≡ 0 = omega (arith, ap length taken, length_numbered 0 (rows_of rows), rows_many rows) in
          λ k. record { left = taken k; gone = take (none k) gone₀ }

      came : ended (rows_of rows) ≡ with_left (take n (held_of held₂)) gone₂
      unfolding ended
      came =
          ap (λ (k : ℕ). steps k (begun (rows_of rows))) (sym (length_numbered 0 (rows_of rows)))
          ∙ ap end_from (sym began)
          ∙ sym onward.ends
          ∙ joined.over

      pub shortened : (written₀ written : List ℕ) → written ≡ words_of (take n (held_of held₂)) ++ drop (n * 3) written₀ → Shortened (ended (rows_of rows)) written₀ gone₀ written gone₂ n
      shortened written₀ written e =
          let listed : length (take (length gone₂ - length (take n (held_of held₂))) gone₂) ≡ length gone₂ - length (take n (held_of held₂)) =
          length-take-le (length gone₂ - length (take n (held_of held₂))) gone₂ (omega arith) in
          let words : length (words_of (take n (held_of held₂))) ≡ n * 3 = length_words (take n (held_of held₂)) ∙ ap (λ (k : ℕ). k * 3) many in
          rw came
          (record {
            many = sym many;
            words = e ∙ ap (λ (k : ℕ). words_of (take n (held_of held₂)) ++ drop k written₀) (sym words);
            numbers = sym (take-append-drop (length gone₂ - length (take n (held_of held₂))) gone₂)
                ∙ ap (λ (l : List ℕ). take (length gone₂ - length (take n (held_of held₂))) gone₂ ++ l) onward.rest
                ∙ ap (λ (k : ℕ). take (length gone₂ - length (take n (held_of held₂))) gone₂ ++ drop k gone₀) (sym listed);
          })
