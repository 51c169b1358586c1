-- The error flags, one by one: which error each tells of, that none is found where there is no error, and what age says of the stamp.
use mathlib.Core.Path.{◌≡◌, refl, sym, ◌∙◌}
use mathlib.Core.Bool.{Bool, true, false, ◌&&◌, not, and-eq-true_iff, true≢false}
use Prim.Native.Nat.{ℕ, ◌+◌, ◌-◌, ◌/◌, ◌%◌, ◌≤◌, ◌<◌}
use native.Mathlib.Omega.{arith}
use lib.Dec.{eqb, ltb}
use borrow.Author.Tests.{eq-eqb, eqb-true, ltb-true, lt-ltb}
use Rattle.packet.specs.declared.Packet.{Packet}
use Rattle.packet.specs.Control.{stamp_of}
use Rattle.packet.specs.Types.{is_stamped}
use Rattle.packet.specs.Parity.{is_odd}
use Rattle.steps.specs.Errors.{errors_of, too_old, wrong_length, bad_local, flag}

module _ (a b c d : Bool) where
  abbrev four : ℕ
  four = flag a 1 + flag b 2 + flag c 4 + flag d 8

four_flags : (a b c d : Bool) → (four a b c d % 2 ≡ flag a 1) × (four a b c d / 2 % 2 ≡ flag b 1) × (four a b c d / 4 % 2 ≡ flag c 1) × (four a b c d / 8 % 2 ≡ flag d 1)
four_flags false false false false = (refl, refl, refl, refl)
four_flags false false false true = (refl, refl, refl, refl)
four_flags false false true false = (refl, refl, refl, refl)
four_flags false false true true = (refl, refl, refl, refl)
four_flags false true false false = (refl, refl, refl, refl)
four_flags false true false true = (refl, refl, refl, refl)
four_flags false true true false = (refl, refl, refl, refl)
four_flags false true true true = (refl, refl, refl, refl)
four_flags true false false false = (refl, refl, refl, refl)
four_flags true false false true = (refl, refl, refl, refl)
four_flags true false true false = (refl, refl, refl, refl)
four_flags true false true true = (refl, refl, refl, refl)
four_flags true true false false = (refl, refl, refl, refl)
four_flags true true false true = (refl, refl, refl, refl)
four_flags true true true false = (refl, refl, refl, refl)
four_flags true true true true = (refl, refl, refl, refl)

-- no error means that none of the four was found
pub record WithoutError (p : Packet) (s phase : ℕ) : Type 0 where
  pub odd : is_odd p ≡ true
  pub young : too_old p.control s phase ≡ false
  pub long : wrong_length p ≡ false
  pub local : bad_local p.control s ≡ false

module _ (p : Packet) (s phase : ℕ) where
  pub error_flags : (errors_of p s phase % 2 ≡ flag (not (is_odd p)) 1) × (errors_of p s phase / 2 % 2 ≡ flag (too_old p.control s phase) 1)
      × (errors_of p s phase / 4 % 2 ≡ flag (wrong_length p) 1)
      × (errors_of p s phase / 8 % 2 ≡ flag (bad_local p.control s) 1)
  error_flags = four_flags (not (is_odd p)) (too_old p.control s phase) (wrong_length p) (bad_local p.control s)

  pub without_error : errors_of p s phase ≡ 0 → WithoutError p s phase
  without_error e =
      record {
        odd = unset (is_odd p) (off (not (is_odd p)) 1 (omega arith) (omega arith));
        young = off (too_old p.control s phase) 2 (omega arith) (omega arith);
        long = off (wrong_length p) 4 (omega arith) (omega arith);
        local = off (bad_local p.control s) 8 (omega arith) (omega arith);
      }
    where
      off : (b : Bool) (n : ℕ) → 1 ≤ n → flag b n ≡ 0 → b ≡ false
      off true n h f = absurd (omega arith)
      off false n h f = refl

      unset : (b : Bool) → not b ≡ false → b ≡ true
      unset true f = refl
      unset false f = sym f

  -- no error means that the stamp is not the phase with both bits flipped
  pub young_stamp : s < 6 → errors_of p s phase ≡ 0 → is_stamped p.control ≡ true → ¬ (stamp_of p.control ≡ 3 - phase)
  young_stamp near none low e =
      let wrong : too_old p.control s phase ≡ true = simp (lt-ltb _ _ near, low, eq-eqb _ _ e) in
      true≢false (sym wrong ∙ (without_error none).young)

  -- the age flag is set just where it is
  pub old_stamp : errors_of p s phase / 2 % 2 ≡ 1 → (s < 6) × (is_stamped p.control ≡ true) × (stamp_of p.control ≡ 3 - phase)
  old_stamp e =
      let parts = (and-eq-true_iff (ltb s 6 && is_stamped p.control) (eqb (stamp_of p.control) (3 - phase))).0 (set (too_old p.control s phase) (sym error_flags.1 ∙ e)) in
      let near = (and-eq-true_iff (ltb s 6) (is_stamped p.control)).0 parts.0 in
      (ltb-true _ _ near.0, near.1, eqb-true _ _ parts.1)
    where
      set : (b : Bool) → flag b 1 ≡ 1 → b ≡ true
      set true f = refl
      set false f = absurd (omega arith)
