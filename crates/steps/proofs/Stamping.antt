-- What stamping leaves as it was, and the packet after it: its type, its stamp, its parity and length.
use mathlib.Core.Path.{◌≡◌, refl, sym, ◌∙◌}
use mathlib.Core.Bool.{Bool, true, false, cond, ◌&&◌, and-false}
use Prim.Native.Nat.{ℕ, ◌≤◌, ◌<◌}
use native.Mathlib.Omega.{arith}
use lib.Dec.{eqb}
use borrow.Author.Tests.{eq-eqb, ne_eqb, eqb-true, not-false}
use Rattle.packet.specs.declared.Packet.{Packet}
use Rattle.packet.specs.Control.{kind_of, mark_of, stamp_of, carries_of}
use Rattle.packet.specs.Types.{is_stamped}
use Rattle.packet.specs.Parity.{is_odd, with_stamp}
use Rattle.packet.proofs.Rewrite.{FieldSet, stamp_set}
use Rattle.tables.specs.Tables.{ChipTables}
use Rattle.steps.specs.declared.Setting.{Setting}
use Rattle.steps.specs.Errors.{errors_of, stamped_of}
use Rattle.steps.specs.Deciding.{decided, outcome_of, Source, Checked}
use Rattle.steps.proofs.Flags.{without_error}

pub record StampedFrom (p q : Packet) : Type 0 where
  pub kind : kind_of q.control ≡ kind_of p.control
  pub mark : mark_of q.control ≡ mark_of p.control
  pub carries : carries_of q.control ≡ carries_of p.control
  pub byte : q.control < 256
  pub nine : q.nine ≡ p.nine
  pub word : q.word ≡ p.word
  pub payload : q.payload ≡ p.payload

pub stamped : (p : Packet) (s e phase : ℕ) → p.control < 256 → phase ≤ 3 → StampedFrom p (stamped_of p s e phase)
stamped p s e phase hc hp = go (eqb e 0 && eqb s 7 && is_stamped p.control)
  where
    go : (b : Bool) → StampedFrom p (cond b (with_stamp p phase) p)
    go true =
        let f : FieldSet stamp_of mark_of p (with_stamp p phase) phase = stamp_set p phase hc (omega arith) in
        record { kind = f.kind; mark = f.beside; carries = f.carries; byte = f.byte; nine = f.nine; word = f.word; payload = f.payload }
    go false = record { kind = refl; mark = refl; carries = refl; byte = hc; nine = refl; word = refl; payload = refl }

module _ (p : Packet) (s : ℕ) (tables : ChipTables) (t : Setting) (h : Checked p s tables t) (from : Source s) where
  pub outcome_stamped : StampedFrom p (outcome_of p s tables t).packet
  unfolding outcome_of decided
  outcome_stamped = stamped p s (errors_of p s t.phase) t.phase h.control h.phase

  -- odd parity where there is no error
  pub stamped_odd : errors_of p s t.phase ≡ 0 → is_odd (outcome_of p s tables t).packet ≡ true
  unfolding outcome_of decided
  stamped_odd none = go (eqb (errors_of p s t.phase) 0 && eqb s 7 && is_stamped p.control)
    where
      go : (b : Bool) → is_odd (cond b (with_stamp p t.phase) p) ≡ true
      go true = let f : FieldSet stamp_of mark_of p (with_stamp p t.phase) t.phase = stamp_set p t.phase h.control (omega arith) in f.odd
      go false = (without_error p s t.phase none).odd

  -- and then the length that its control byte tells
  pub stamped_right : errors_of p s t.phase ≡ 0 → (outcome_of p s tables t).packet.nine ≡ carries_of (outcome_of p s tables t).packet.control
  stamped_right none =
      let fits : carries_of p.control ≡ p.nine = eqb-true _ _ (not-false _ (without_error p s t.phase none).long) in
      outcome_stamped.nine ∙ sym fits ∙ sym outcome_stamped.carries

  -- from a link nothing is stamped
  pub stamp_from_link : s < 6 → (outcome_of p s tables t).packet ≡ p
  unfolding outcome_of decided
  stamp_from_link near =
      let far : ¬ (s ≡ 7) = λ e. omega arith in
      simp (ne_eqb s 7 far, and-false)

  -- "A local MC or P2P packet without error is stamped with the phase."
  pub stamp_local : s ≡ 7 → errors_of p s t.phase ≡ 0 → is_stamped p.control ≡ true → stamp_of (outcome_of p s tables t).packet.control ≡ t.phase
  unfolding outcome_of decided
  stamp_local local none low = go (errors_of p s t.phase) none
    where
      go : (e : ℕ) → e ≡ 0 → stamp_of (stamped_of p s e t.phase).control ≡ t.phase
      go e z = simp (eq-eqb _ _ z, eq-eqb _ _ local, low) (stamp_set p t.phase h.control (omega (arith, h.phase))).new
