-- What is known where a call on a mesh is accepted.
use mathlib.Core.Path.{◌≡◌, refl}
use mathlib.Core.Bool.{Bool, true, false, cond, and-eq-true_iff}
use mathlib.Core.List.{List}
use Prim.Native.Nat.{ℕ, ◌*◌, ◌/◌, ◌≤◌, ◌<◌}
use native.Mathlib.Omega.{arith}
use lib.Dec.{eqb, lit<}
use lib.ListN.{length}
use borrow.Author.Tests.{ltb-true, ltb-false, eqb-true, not-false}
use Rattle.packet.specs.Bytes.{control_at, word_at, packet_at, right_length}
use Rattle.packet.specs.Control.{is_direct}
use Rattle.packet.specs.Refusal.{first_of}
use Rattle.packet.proofs.First.{not_refused}
use Rattle.tables.specs.Accept.{all_codes, all_fixed, starts_right, rows_few, fixed_fine, codes_fine}
use Rattle.groups.specs.Room.{longest, room_short}
use Rattle.mesh.specs.Lending.{Tables}
use Rattle.mesh.specs.Sound.{Passable}
use Rattle.mesh.specs.Refusals.{Lent, inject_refusals, round_refusals}

lent_tables : (t : Tables) (chips : ℕ) → starts_right t.starts chips (length t.rows / 3) ≡ true → rows_few t.starts ≡ true → fixed_fine t.fixed chips ≡ true → codes_fine t.codes (chips * chips) ≡ true
    → Lent t chips
lent_tables t chips right few fixed codes =
    record {
      starts = (and-eq-true_iff (starts_right t.starts chips (length t.rows / 3)) (rows_few t.starts)).1 (right, few);
      codes = eqb-true _ _ ((and-eq-true_iff (eqb (length t.codes) (chips * chips)) (all_codes t.codes)).0 codes).0;
      fixed = eqb-true _ _ ((and-eq-true_iff (eqb (length t.fixed) chips) (all_fixed t.fixed)).0 fixed).0;
    }

pub record RoundGoes (held : Bool) (chips flying : ℕ) (t : Tables) (size : ℕ) : Type 0 where
  pub holds : held ≡ true
  pub lent : Lent t chips
  pub room : flying * 6 ≤ size
  pub enough : room_short t.room (longest t.starts chips) ≡ false

pub round_goes : (holds : Bool) (chips flying : ℕ) (t : Tables) (room : ℕ) → first_of (round_refusals holds chips flying t room) ≡ 0 → RoundGoes holds chips flying t room
round_goes holds chips flying t room e =
    let fine = not_refused (round_refusals holds chips flying t room) refl e in
    record {
      holds = not-false _ (fine 8);
      lent = lent_tables t chips (not-false _ (fine 15)) (not-false _ (fine 16)) (not-false _ (fine 18)) (not-false _ (fine 11));
      room = ltb-false _ _ (fine 10);
      enough = fine 29;
    }

-- a packet that is accepted may pass
passable_at : (bytes : List ℕ) → is_direct (control_at bytes) ≡ false → Passable (packet_at bytes)
passable_at bytes plain =
    record { control = omega arith; plain = plain; nine = few (eqb (length bytes) 9); absent = none (eqb (length bytes) 9) }
  where
    few : (b : Bool) → cond b 1 0 < 2
    few true = lit< tt
    few false = lit< tt

    none : (b : Bool) → ◌≡◌ {A = ℕ} (cond b 1 0) 0 → cond b (word_at bytes 5) 0 ≡ 0
    none true e = absurd (omega arith)
    none false e = refl

pub record InjectGoes (held : Bool) (chips chip : ℕ) (t : Tables) (size : ℕ) (bytes : List ℕ) : Type 0 where
  pub holds : held ≡ true
  pub there : chip < chips
  pub lent : Lent t chips
  pub room : 6 ≤ size
  pub whole : right_length bytes ≡ true
  pub passable : Passable (packet_at bytes)

pub inject_goes : (holds : Bool) (chips chip : ℕ) (t : Tables) (room : ℕ) (bytes : List ℕ) → first_of (inject_refusals holds chips chip t room bytes) ≡ 0
    → InjectGoes holds chips chip t room bytes
inject_goes holds chips chip t room bytes e =
    let fine = not_refused (inject_refusals holds chips chip t room bytes) refl e in
    record {
      holds = not-false _ (fine 8);
      there = ltb-true _ _ (not-false _ (fine 9));
      lent = lent_tables t chips (not-false _ (fine 15)) (not-false _ (fine 16)) (not-false _ (fine 18)) (not-false _ (fine 11));
      room = ltb-false _ _ (fine 10);
      whole = not-false _ (fine 2);
      passable = passable_at bytes (fine 4);
    }
