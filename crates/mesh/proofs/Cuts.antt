-- What of all tables that are lent is one chip's: it is there, and as long as the starts say.
use Rattle.std.proofs.Common.{◌≡◌, ℕ, suc, ◌+◌, ◌-◌, ◌*◌, ◌/◌, ◌<◌, ◌≤◌, length, get_or, drop, sym, subst, le_refl, suc-mul, mul-le-mul, arith, length-drop, length-take-le, le_trans, take, ◌∙◌, le_of_eq}
use native.Mathlib.Nat.{add-sub_cancel_left}
use Rattle.tables.specs.Tables.{chip_tables}
use Rattle.tables.proofs.Starts.{start_below, start_end, starts_one_more}
use Rattle.mesh.specs.Lending.{Tables, rows_at, codes_at, tables_at}
use Rattle.mesh.specs.Refusals.{Lent}

-- with these a chip's own are cut out of all that is lent, and stay small
pub record Cuts (t : Tables) (chips c : ℕ) : Type 0 where
  pub small : c < 144
  pub start : c + 1 < length t.starts
  pub fixed : c < length t.fixed
  pub code_small : c * chips + chips ≤ 20736
  pub code_end : c * chips + chips ≤ length t.codes
  pub row_below : get_or t.starts c 0 ≤ get_or t.starts (c + 1) 0
  pub row_end : get_or t.starts (c + 1) 0 * 3 ≤ length t.rows

module _ (t : Tables) (chips c : ℕ) (lent : Lent t chips) (below : c < chips) where
  pub rows_below : get_or t.starts c 0 ≤ get_or t.starts (c + 1) 0
  rows_below = start_below t.starts chips (length t.rows / 3) c lent.starts below

  pub starts_long : length t.starts ≡ chips + 1
  starts_long = starts_one_more t.starts chips (length t.rows / 3) c lent.starts

  pub rows_end : get_or t.starts (c + 1) 0 * 3 ≤ length t.rows
  rows_end = omega (arith, start_end t.starts chips (length t.rows / 3) (c + 1) lent.starts (omega arith))

  pub codes_end : c * chips + chips ≤ length t.codes
  codes_end =
      let e : suc c * chips ≡ c * chips + chips = simp suc-mul in
      subst (λ (n : ℕ). c * chips + chips ≤ n) (sym lent.codes) (subst (λ (n : ℕ). n ≤ chips * chips) e (mul-le-mul below (le_refl chips)))

  pub fixed_there : c < length t.fixed
  fixed_there = omega (arith, lent.fixed)

  pub codes_long : length (codes_at t chips c) ≡ chips
  codes_long = length-take-le chips (drop (c * chips) t.codes) (simp length-drop (omega (arith, codes_end)))

  pub codes_enough : (all : ℕ) → all ≡ chips → chips ≤ length (take (c * all + all - c * all) (drop (c * all) t.codes))
  codes_enough all e =
      let many : c * all + all - c * all ≡ chips = add-sub_cancel_left (c * all) all ∙ e in
      le_of_eq (sym ((λ i. length (take (many i) (drop (c * e i) t.codes))) ∙ codes_long))

  pub rows_long : length (rows_at t c) / 3 ≡ get_or t.starts (c + 1) 0 - get_or t.starts c 0
  rows_long =
      let long = length-take-le ((get_or t.starts (c + 1) 0 - get_or t.starts c 0) * 3) (drop (get_or t.starts c 0 * 3) t.rows) (simp length-drop (omega (arith, rows_end, rows_below))) in
      omega (arith, long)

  pub cuts : chips ≤ 144 → Cuts t chips c
  cuts few =
      record {
        small = omega (arith, below, few);
        start = omega (arith, below, starts_long);
        fixed = fixed_there;
        code_small = le_trans codes_end (subst (λ (k : ℕ). k ≤ 20736) (sym lent.codes) (mul-le-mul few few));
        code_end = codes_end;
        row_below = rows_below;
        row_end = rows_end;
      }

  -- by the places that are worked out from the starts
  pub tables_places : (first next all : ℕ) → first ≡ get_or t.starts c 0 * 3 → next ≡ get_or t.starts (c + 1) 0 * 3 → all ≡ chips
      → chip_tables (take (next - first) (drop first t.rows)) (take (c * all + all - c * all) (drop (c * all) t.codes)) (get_or t.fixed c 0) ≡ tables_at t chips c
  tables_places first next all e₁ e₂ e₃ =
      let long : next - first ≡ (get_or t.starts (c + 1) 0 - get_or t.starts c 0) * 3 = omega (arith, e₁, e₂) in
      let many : c * all + all - c * all ≡ chips = add-sub_cancel_left (c * all) all ∙ e₃ in
      λ i. chip_tables (take (long i) (drop (e₁ i) t.rows)) (take (many i) (drop (c * e₃ i) t.codes)) (get_or t.fixed c 0)
