-- The wanted set takes nothing from the rows but for a packet that goes by them, so that they need not be searched for any other.
use mathlib.Core.Path.{◌≡◌, refl, sym, ap, ◌∙◌}
use mathlib.Core.Bool.{Bool, true, false, cond, not, ◌&&◌, true≢false, false≢true}
use mathlib.Core.List.{List}
use Prim.Native.Nat.{ℕ}
use lib.Dec.{eqb}
use Rattle.packet.specs.declared.Packet.{Packet}
use Rattle.packet.specs.Control.{kind_of, mark_of}
use Rattle.packet.specs.Types.{is_mc}
use Rattle.std.specs.Prelude.{Option, None}
use Rattle.tables.specs.Rows.{rows_of, route_for}
use Rattle.tables.specs.Tables.{ChipTables}
use Rattle.steps.specs.declared.Setting.{Setting}
use Rattle.steps.specs.declared.Wanted.{Wanted}
use Rattle.steps.specs.Wants.{wants, wanted_given, wanted_of, match_wanted, by_rows}

module _ (errors : ℕ) (p : Packet) (source : ℕ) (found : Option ℕ) (codes : List ℕ) (fixed : ℕ) (t : Setting) where
  abbrev given : Option ℕ → Wanted
  given m = wanted_given errors p source m codes fixed t

  pub as_matched : by_rows errors p.control ≡ true → given found ≡ match_wanted found (mark_of p.control) source t.monitor
  as_matched = go (eqb errors 0) (is_mc p.control) (eqb (mark_of p.control) 2) refl refl refl
    where
      go : (a b c : Bool) → eqb errors 0 ≡ a → is_mc p.control ≡ b → eqb (mark_of p.control) 2 ≡ c → (a && b && not c) ≡ true → given found ≡ match_wanted found (mark_of p.control) source t.monitor
      go true true false e f g h = simp (e, f, g)
      go true true true e f g h = absurd (false≢true h)
      go true false c e f g h = absurd (false≢true h)
      go false b c e f g h = absurd (false≢true h)

  pub as_missed : by_rows errors p.control ≡ false → given found ≡ given None
  as_missed = go (eqb errors 0) (is_mc p.control) (eqb (mark_of p.control) 2) refl refl refl
    where
      go : (a b c : Bool) → eqb errors 0 ≡ a → is_mc p.control ≡ b → eqb (mark_of p.control) 2 ≡ c → (a && b && not c) ≡ false → given found ≡ given None
      go false b c e f g h = simp e
      go true false c e f g h = simp (e, f)
      go true true true e f g h = simp (e, f, g)
      go true true false e f g h = absurd (true≢false h)

  -- an MC packet without error that does not go by the rows is marked 10
  pub wants_nothing : errors ≡ 0 → kind_of p.control ≡ 0 → by_rows errors p.control ≡ false → wants 0 ≡ given None
  wants_nothing none mc h = go (eqb (mark_of p.control) 2) refl (simp (none, mc) at h)
    where
      go : (c : Bool) → eqb (mark_of p.control) 2 ≡ c → not c ≡ false → wants 0 ≡ given None
      go true g h = simp (none, mc, g)
      go false g h = absurd (true≢false h)

module _ (errors : ℕ) (p : Packet) (source : ℕ) (tables : ChipTables) (t : Setting) where
  abbrev routed : Option ℕ
  routed = route_for p.word (rows_of tables.rows)

  pub wanted_by_rows : (goes : Bool) (found : Option ℕ) → goes ≡ by_rows errors p.control → found ≡ cond goes routed None
      → wanted_given errors p source found tables.codes tables.fixed t ≡ wanted_of errors p source tables t
  unfolding wanted_of
  wanted_by_rows true found e f = ap (λ (m : Option ℕ). wanted_given errors p source m tables.codes tables.fixed t) f
  wanted_by_rows false found e f = ap (λ (m : Option ℕ). wanted_given errors p source m tables.codes tables.fixed t) f ∙ sym (as_missed errors p source routed tables.codes tables.fixed t (sym e))
