-- What a pass sends is sound: of a used type, right in length and parity, not NN with T = 1.
use mathlib.Core.Path.{◌≡◌, refl, sym, ◌∙◌, subst}
use mathlib.Core.Bool.{Bool, true, false, cond, ◌&&◌, ◌||◌, and-eq-true_iff}
use Prim.Native.Nat.{ℕ, ◌<◌}
use native.Mathlib.Omega.{arith}
use lib.Dec.{eqb}
use borrow.Author.Tests.{eqb-false, lt-ltb, eq-eqb}
use Rattle.packet.specs.declared.Packet.{Packet}
use Rattle.packet.specs.Control.{is_direct}
use Rattle.packet.specs.Types.{is_marked, is_stamped}
use Rattle.packet.specs.Parity.{is_odd, with_stamp}
use Rattle.packet.proofs.Rewrite.{FieldSet, stamp_set}
use Rattle.packet.proofs.Types.{same_stamped, marked_stamped, stamped_not_nn}
use Rattle.steps.specs.declared.Setting.{Setting}
use Rattle.steps.specs.Links.{has}
use Rattle.steps.specs.Errors.{errors_of}
use Rattle.steps.specs.Deciding.{decided, outcome_of, packet_on, leg_packet, Source, Checked}
use Rattle.steps.proofs.SentBy.{sent_no_error, leg_no_error, leg_marked}
use Rattle.steps.proofs.SentPackets.{sent_marked, sent_plain, sent_leg, sent_right, leg_right}
use Rattle.steps.proofs.Stamping.{stamped_odd, stamped_right}
use Rattle.links.specs.Link.{Right}
use Rattle.mesh.specs.Sound.{Passable, SoundPacket}
use Rattle.tables.specs.Tables.{ChipTables}

-- a packet that may pass, right in length and parity, is sound
pub passable_sound : (p : Packet) → Passable p → is_odd p ≡ true → Right p → SoundPacket p
passable_sound p h odd right = record { fine = simp (lt-ltb _ _ h.control, h.plain, odd) (there (eqb p.nine 1) refl); right = right }
  where
    there : (b : Bool) → eqb p.nine 1 ≡ b → (eqb p.nine 1 || eqb p.payload 0) ≡ true
    there true e = simp e
    there false e = let short : ¬ (p.nine ≡ 1) = eqb-false _ _ e in simp (e, eq-eqb _ _ (h.absent (omega (arith, h.nine))))

-- what has a stamp knows no T
not_direct : (c : ℕ) → is_stamped c ≡ true → is_direct c ≡ false
not_direct c h = simp (stamped_not_nn c h)

-- a new mark or stamp leaves a packet that has a stamp one that may pass
field_passable : {own other : ℕ → ℕ} {p q : Packet} {v : ℕ} → FieldSet own other p q v → is_stamped p.control ≡ true → Passable p → Passable q
field_passable {p = p} {q = q} f stamp h =
    record {
      control = f.byte;
      plain = not_direct q.control (same_stamped _ _ f.kind ∙ stamp);
      nine = omega (arith, f.nine, h.nine);
      absent = λ e. f.payload ∙ h.absent (sym f.nine ∙ e);
    }

module _ (p : Packet) (s : ℕ) (tables : ChipTables) (t : Setting) (h : Checked p s tables t) (from : Source s) (passable : Passable p) where
  -- the packet after stamping
  pub stamped_passable : Passable (outcome_of p s tables t).packet
  unfolding outcome_of decided
  stamped_passable = go (eqb (errors_of p s t.phase) 0 && eqb s 7 && is_stamped p.control) refl
    where
      go : (b : Bool) → (eqb (errors_of p s t.phase) 0 && eqb s 7 && is_stamped p.control) ≡ b → Passable (cond b (with_stamp p t.phase) p)
      go true e =
          let stamp = ((and-eq-true_iff (eqb (errors_of p s t.phase) 0 && eqb s 7) (is_stamped p.control)).0 e).1 in
          field_passable (stamp_set p t.phase h.control (omega (arith, h.phase))) stamp passable
      go false e = passable

  -- what has a mark gets a new one, any other packet goes as it is
  sent_sound : errors_of p s t.phase ≡ 0 → (i : ℕ) → SoundPacket (packet_on (outcome_of p s tables t) i)
  sent_sound none i = go (is_marked (outcome_of p s tables t).packet.control) refl
    where
      go : (b : Bool) → is_marked (outcome_of p s tables t).packet.control ≡ b → SoundPacket (packet_on (outcome_of p s tables t) i)
      go true marked =
          let f = sent_marked p s tables t h from i marked in
          passable_sound _ (field_passable f (marked_stamped _ marked) stamped_passable) f.odd (sent_right p s tables t h from none i)
      go false other =
          subst SoundPacket (sym (sent_plain p s tables t h from i other))
          (passable_sound _ stamped_passable (stamped_odd p s tables t h from none) (stamped_right p s tables t h from none))

  pub sends_sound : (i : ℕ) → i < 6 → has (outcome_of p s tables t).sent i ≡ true → SoundPacket (packet_on (outcome_of p s tables t) i)
  sends_sound i hi sent = sent_sound (sent_no_error p s tables t h from i hi sent) i

  pub legs_sound : (i : ℕ) → i < 6 → has (outcome_of p s tables t).leg_sent i ≡ true → SoundPacket (leg_packet (outcome_of p s tables t))
  legs_sound i hi leg =
      let f = sent_leg p s tables t h from in
      let none = leg_no_error p s tables t h from i hi leg in
      passable_sound _ (field_passable f (marked_stamped _ (leg_marked p s tables t h from i hi leg)) stamped_passable) f.odd (leg_right p s tables t h from none)
