-- A chip's registers stay in range: what is kept of a unit is its packet, its link, the source and the phase of a pass, and the number of units stops at the top.
use mathlib.Core.Path.{◌≡◌, refl}
use mathlib.Core.Logic.{inl, inr}
use mathlib.Core.Bool.{Bool, true, false, cond, ◌&&◌, ◌||◌, and-eq-true_iff, and-false}
use Prim.Native.Nat.{ℕ, ◌+◌, ◌≤◌, ◌<◌}
use native.Mathlib.Omega.{arith}
use lib.Dec.{eqb, ltb, leb, lit<}
use borrow.Author.Tests.{eqb-true, eqb-false, ltb-true, leb-true, eq-eqb, ne_eqb, lt-ltb, le-leb}
use Rattle.packet.specs.declared.Packet.{Packet}
use Rattle.steps.specs.declared.Outcome.{Outcome}
use Rattle.kept.specs.declared.Registers.{Registers}
use Rattle.steps.specs.declared.Setting.{Setting}
use Rattle.steps.specs.Links.{has}
use Rattle.steps.specs.Deciding.{decided, outcome_of, Source, Checked}
use Rattle.kept.specs.Keeping.{is_empty, drop_count, most_units, capped, more_of, lowest, first_drop, with_units, kept_of}
use Rattle.kept.proofs.Capped.{capped_le, capped_some}
use Rattle.mesh.specs.Sound.{all_zeros, registers_fine, Passable}
use Rattle.mesh.proofs.SoundSends.{stamped_passable}
use Rattle.tables.specs.Tables.{ChipTables}

lowest_link_below : (set : ℕ) → lowest set < 6
lowest_link_below set = go (has set 0) (has set 1) (has set 2) (has set 3) (has set 4)
  where
    go : (a b c d e : Bool) → cond a 0 (cond b 1 (cond c 2 (cond d 3 (cond e 4 5)))) < 6
    go true b c d e = lit< tt
    go false true c d e = lit< tt
    go false false true d e = lit< tt
    go false false false true e = lit< tt
    go false false false false true = lit< tt
    go false false false false false = lit< tt

flag_le : (b : Bool) → cond b 1 0 ≤ 1
flag_le true = omega arith
flag_le false = omega arith

either_below : (b : Bool) (m n : ℕ) → m < 6 → n < 6 → cond b m n < 6
either_below true m n h k = h
either_below false m n h k = k

source_fine_lem : (s : ℕ) → Source s → (ltb s 6 || eqb s 7) ≡ true
source_fine_lem s (inl near) = simp (lt-ltb s 6 near)
source_fine_lem s (inr local) = simp local

-- what the tests of registers say of the unit that they hold
record Tested (control link leg source phase : Bool) : Type 0 where
  byte : control ≡ true
  there : link ≡ true
  flag : leg ≡ true
  from : source ≡ true
  when : phase ≡ true

one_by_one : (a b c d e f g h : Bool) → (a && b && c && d && e && f && g && h) ≡ true → Tested a b c e f
one_by_one a b c d e f g h all =
    let t : _ = simp and-eq-true_iff at all in
    record { byte = t.0.0.0.0.0.0.0; there = t.0.0.0.0.0.0.1; flag = t.0.0.0.0.0.1; from = t.0.0.0.1; when = t.0.0.1 }

-- registers that hold some unit are in range where each number is
in_range_lem : (r : Registers) → r.control < 256 → r.link < 6 → r.leg ≤ 1 → r.more ≡ more_of r.units → (ltb r.source 6 || eqb r.source 7) ≡ true → r.phase ≤ 3 → r.units ≤ most_units
    → (r.units ≡ 0 → ⊥) → registers_fine r ≡ true
in_range_lem r control link leg more source phase units some =
    simp (lt-ltb r.control 256 control, lt-ltb r.link 6 link, le-leb r.leg 1 leg, eq-eqb r.more (more_of r.units) more, source, le-leb r.phase 3 phase, le-leb r.units most_units units, ne_eqb r.units 0 some)

-- the first dropped unit
first_fine : (o : Outcome) → o.packet.control < 256 → Source o.source → o.phase ≤ 3 → (drop_count o ≡ 0 → ⊥) → registers_fine (first_drop o) ≡ true
first_fine o byte from phase some =
    in_range_lem (first_drop o) byte (either_below (eqb o.dropped 0) _ _ (lowest_link_below o.leg_dropped) (lowest_link_below o.dropped)) (flag_le (eqb o.dropped 0)) refl
    (source_fine_lem o.source from) phase (capped_le (drop_count o)) (capped_some (drop_count o) some)

-- another number of units
units_fine : (r : Registers) (n : ℕ) → registers_fine r ≡ true → (n ≡ 0 → ⊥) → registers_fine (with_units r (capped n)) ≡ true
units_fine r n fine some =
    let t = one_by_one (ltb r.control 256) (ltb r.link 6) (leb r.leg 1) (eqb r.more (more_of r.units)) (ltb r.source 6 || eqb r.source 7) (leb r.phase 3) (leb r.units most_units) _ fine in
    in_range_lem (with_units r (capped n)) (ltb-true _ _ t.byte) (ltb-true _ _ t.there) (leb-true _ _ t.flag) refl t.from (leb-true _ _ t.when) (capped_le n) (capped_some n some)

module _ (p : Packet) (s : ℕ) (tables : ChipTables) (t : Setting) (h : Checked p s tables t) (from : Source s) where
  pub registers_kept : Passable p → (r : Registers) → registers_fine r ≡ true → registers_fine (kept_of r (outcome_of p s tables t)) ≡ true
  unfolding outcome_of decided
  registers_kept passable r fine = go (eqb (drop_count o) 0) refl (is_empty r) refl
    where
      o : Outcome
      o = outcome_of p s tables t

      go : (b : Bool) → eqb (drop_count (outcome_of p s tables t)) 0 ≡ b → (c : Bool) → is_empty r ≡ c
          → registers_fine (cond b r (cond c (first_drop (outcome_of p s tables t)) (with_units r (capped (r.units + drop_count (outcome_of p s tables t)))))) ≡ true
      go true d c e = fine
      go false d true e = first_fine o (stamped_passable p s tables t h from passable).control from h.phase (eqb-false _ _ d)
      go false d false e = units_fine r (r.units + drop_count o) fine (λ z. eqb-false (drop_count o) 0 d (omega (arith, z)))

-- ---- empty registers

absorbed : (x a : Bool) → (a ≡ true → x ≡ true) → (x && a) ≡ a
absorbed x true h = simp (h refl)
absorbed x false h = and-false x

-- where no unit is kept the other eight numbers decide
pub zeros_decide : (r : Registers) → r.units ≡ 0 → registers_fine r ≡ all_zeros r
zeros_decide r none = simp none (absorbed _ (all_zeros r) in_turn)
  where
    in_turn : all_zeros r ≡ true → (ltb r.control 256 && ltb r.link 6 && leb r.leg 1 && eqb r.more 0 && (ltb r.source 6 || eqb r.source 7) && leb r.phase 3 && leb 0 most_units) ≡ true
    in_turn zeros =
        let t : _ = simp and-eq-true_iff at zeros in
        simp (eqb-true r.control 0 t.0.0.0.0.0.0.0, eqb-true r.link 0 t.0.0.0.0.1, eqb-true r.leg 0 t.0.0.0.1, eqb-true r.more 0 t.0.0.1, eqb-true r.source 0 t.0.1, eqb-true r.phase 0 t.1)
