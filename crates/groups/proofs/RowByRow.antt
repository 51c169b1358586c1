-- One row's number put into one of its groups: there is room for it, and then it is in its place.
use Prim.Native.Nat.{ℕ, suc, ◌+◌, ◌≤◌, ◌<◌}
use mathlib.Core.Path.{◌≡◌, sym, ap, ◌∙◌}
use mathlib.Core.Bool.{Bool, true, false, cond}
use mathlib.Core.List.{List}
use native.Mathlib.Omega.{arith}
use lib.ListN.{length, get_or, take}
use lib.Seq.{take-length}
use Rattle.tables.specs.Rows.{Entry, blank_entry}
use Rattle.groups.specs.Groups.{top_of, fixes_top, group_of, is_in, room_for}
use Rattle.groups.specs.Building.{sofar, Listed, Placed, Kept, PutFits, after_put}
use Rattle.groups.proofs.InOrder.{next_there, fixed_here, free_here, sofar_here, sofar_else, sofar_most}
use Rattle.groups.proofs.Listing.{in_none, in_next, in_other}
use Rattle.groups.proofs.Placing.{one_and_others, said_so, kept_less, put_fits, put_placed}

-- one number more in each of the first k groups that are listed
abbrev pub partly : List ℕ → List Entry → ℕ → ℕ → ℕ → ℕ
partly tops rows i k g = cond (is_in g (take k tops)) (suc (sofar rows i g)) (sofar rows i g)

module _ (tops : List ℕ) (rows : List Entry) (few : length rows ≤ 1024) (i : ℕ) (h : i < length rows) (room : List ℕ) where
  -- before the first of them and behind the last
  pub partly_none : Placed tops rows (sofar rows i) room → Placed tops rows (partly tops rows i 0) room
  partly_none p = said_so tops rows (sofar rows i) (partly tops rows i 0) room (λ g s e. simp (in_none g tops)) p

  module _ (f : fixes_top (get_or rows i blank_entry) ≡ false) where
    all_there : (g : ℕ) → is_in g tops ≡ true → sofar rows (i + 1) g ≡ partly tops rows i (length tops) g
    all_there g e =
        let there : is_in g (take (length tops) tops) ≡ true = ap (is_in g) (take-length tops) ∙ e in
        sofar_here rows g i h (free_here rows g i h f) ∙ simp there

    pub partly_all : Placed tops rows (partly tops rows i (length tops)) room → Placed tops rows (sofar rows (i + 1)) room
    partly_all p = said_so tops rows (partly tops rows i (length tops)) (sofar rows (i + 1)) room (λ g s e. all_there g e) p

    pub kept_all : (room₀ : List ℕ) → Kept tops (length rows) (partly tops rows i (length tops)) room₀ room → Kept tops (length rows) (sofar rows (i + 1)) room₀ room
    kept_all room₀ p = kept_less tops (length rows) (partly tops rows i (length tops)) (sofar rows (i + 1)) room₀ room (λ g s e. omega (arith, all_there g e)) p

  module _ (fits : room_for (length rows) ≤ length room) where
    -- into the one group of its top byte
    module _ (p : Placed tops rows (sofar rows i) room) (g : ℕ) (small : g < 256) where
      more : sofar rows i g < length rows
      more = omega (arith, sofar_most rows i g (omega arith))

      pub fixed_fits : PutFits room (length rows) g
      fixed_fits = put_fits tops rows (sofar rows i) room p g small more few fits

      pub fixed_put : fixes_top (get_or rows i blank_entry) ≡ true → top_of (get_or rows i blank_entry).key ≡ g
          → Placed tops rows (sofar rows (i + 1)) (after_put room (length rows) g i) × Kept tops (length rows) (sofar rows (i + 1)) room (after_put room (length rows) g i)
      fixed_put f top =
          put_placed tops rows (sofar rows i) room p g small more few fits i
          (next_there rows g i h (fixed_here rows g i h f top)).1
          (sofar rows (i + 1))
          (sofar_here rows g i h (fixed_here rows g i h f top))
          (λ k n. sofar_else rows k i h f (λ d. n (sym d ∙ top)))
          (λ k. omega (arith, sofar_most rows i k (omega arith)))

    -- into the k-th of those that are listed
    module _ (l : Listed tops) (k : ℕ) (within : k < length tops) (p : Placed tops rows (partly tops rows i k) room) where
      before : partly tops rows i k (get_or tops k 0) ≡ sofar rows i (get_or tops k 0)
      before = simp (l.once k within)

      then : partly tops rows i (k + 1) (get_or tops k 0) ≡ suc (partly tops rows i k (get_or tops k 0))
      then = simp (in_next tops k within, l.once k within)

      others : (g : ℕ) → (g ≡ get_or tops k 0 → ⊥) → partly tops rows i (k + 1) g ≡ partly tops rows i k g
      others g n = simp (in_other tops k within g n)

      most : (g : ℕ) → partly tops rows i k g ≤ length rows
      most g = go (is_in g (take k tops))
        where
          go : (b : Bool) → cond b (suc (sofar rows i g)) (sofar rows i g) ≤ length rows
          go true = omega (arith, sofar_most rows i g (omega arith))
          go false = omega (arith, sofar_most rows i g (omega arith))

      less : partly tops rows i k (get_or tops k 0) < length rows
      less = omega (arith, before, sofar_most rows i (get_or tops k 0) (omega arith))

      pub free_fits : PutFits room (length rows) (get_or tops k 0)
      free_fits = put_fits tops rows (partly tops rows i k) room p (get_or tops k 0) (l.small k within) less few fits

      pub free_put : fixes_top (get_or rows i blank_entry) ≡ false
          → Placed tops rows (partly tops rows i (k + 1)) (after_put room (length rows) (get_or tops k 0) i)
          × Kept tops (length rows) (partly tops rows i (k + 1)) room (after_put room (length rows) (get_or tops k 0) i)
      free_put f =
          let g : ℕ = get_or tops k 0 in
          put_placed tops rows (partly tops rows i k) room p g (l.small k within) less few fits i
          (ap (λ (m : ℕ). get_or (group_of rows g) m 0) before ∙ (next_there rows g i h (free_here rows g i h f)).1)
          (partly tops rows i (k + 1))
          then others most

      pub partly_more : (g : ℕ) → partly tops rows i k g ≤ partly tops rows i (k + 1) g
      partly_more =
          one_and_others (λ (g : ℕ). partly tops rows i k g ≤ partly tops rows i (k + 1) g) (get_or tops k 0) (omega (arith, then)) (λ g n. omega (arith, others g n))
