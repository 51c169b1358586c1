-- What a pass sends: odd parity, the mark asked for, and all else as in the packet after stamping.
use mathlib.Core.Path.{◌≡◌, refl, sym, ◌∙◌, subst}
use mathlib.Core.Bool.{Bool, true, false, cond}
use Prim.Native.Nat.{ℕ, ◌<◌}
use lib.Dec.{lit<}
use Rattle.packet.specs.declared.Packet.{Packet}
use Rattle.packet.specs.Control.{kind_of, mark_of, stamp_of, carries_of}
use Rattle.packet.specs.Types.{is_marked}
use Rattle.packet.proofs.Rewrite.{FieldSet, mark_set}
use Rattle.tables.specs.Tables.{ChipTables}
use Rattle.steps.specs.declared.Outcome.{Outcome}
use Rattle.steps.specs.declared.Setting.{Setting}
use Rattle.steps.specs.Links.{has, links_of}
use Rattle.steps.specs.Errors.{errors_of}
use Rattle.steps.specs.Deciding.{decided, outcome_of, mark_on, packet_on, leg_packet, Source, Checked}
use Rattle.steps.proofs.Stamping.{outcome_stamped, stamped_right}

-- what a new mark leaves as it was
pub record SameButMark (p q : Packet) : Type 0 where
  pub kind : kind_of q.control ≡ kind_of p.control
  pub stamp : stamp_of q.control ≡ stamp_of p.control
  pub nine : q.nine ≡ p.nine
  pub carries : carries_of q.control ≡ carries_of p.control

marked_same : {p q : Packet} {m : ℕ} → FieldSet mark_of stamp_of p q m → SameButMark p q
marked_same f = record { kind = f.kind; stamp = f.beside; nine = f.nine; carries = f.carries }

module _ (p : Packet) (s : ℕ) (tables : ChipTables) (t : Setting) (h : Checked p s tables t) (from : Source s) where
  byte : (outcome_of p s tables t).packet.control < 256
  byte = (outcome_stamped p s tables t h from).byte

  -- with a mark: odd parity, the mark of step 5, and all else as in the packet after stamping
  pub sent_marked : (i : ℕ) → is_marked (outcome_of p s tables t).packet.control ≡ true
      → FieldSet mark_of stamp_of (outcome_of p s tables t).packet (packet_on (outcome_of p s tables t) i) (mark_on (outcome_of p s tables t) i)
  sent_marked i marked = simp marked (mark_set (outcome_of p s tables t).packet (mark_on (outcome_of p s tables t) i) byte (small (has o.carried i) (has (links_of o.wanted) i)))
    where
      o : Outcome
      o = outcome_of p s tables t

      small : (a b : Bool) → cond a (cond b 1 2) 0 < 4
      small true true = lit< tt
      small true false = lit< tt
      small false b = lit< tt

  -- without a mark: the packet after stamping itself
  pub sent_plain : (i : ℕ) → is_marked (outcome_of p s tables t).packet.control ≡ false → packet_on (outcome_of p s tables t) i ≡ (outcome_of p s tables t).packet
  sent_plain i other = simp other

  -- which takes no detours
  pub no_detour : is_marked (outcome_of p s tables t).packet.control ≡ false → (outcome_of p s tables t).carried ≡ 0
  unfolding outcome_of decided
  no_detour other = simp other

  -- the second leg: odd parity, mark 11, and all else as in the packet after stamping
  pub sent_leg : FieldSet mark_of stamp_of (outcome_of p s tables t).packet (leg_packet (outcome_of p s tables t)) 3
  sent_leg = mark_set (outcome_of p s tables t).packet 3 byte (lit< tt)

  pub sent_same : (i : ℕ) → SameButMark (outcome_of p s tables t).packet (packet_on (outcome_of p s tables t) i)
  sent_same i = go (is_marked (outcome_of p s tables t).packet.control) refl
    where
      go : (b : Bool) → is_marked (outcome_of p s tables t).packet.control ≡ b → SameButMark (outcome_of p s tables t).packet (packet_on (outcome_of p s tables t) i)
      go true marked = marked_same (sent_marked i marked)
      go false other = subst (SameButMark (outcome_of p s tables t).packet) (sym (sent_plain i other)) (record { kind = refl; stamp = refl; nine = refl; carries = refl })

  pub leg_same : SameButMark (outcome_of p s tables t).packet (leg_packet (outcome_of p s tables t))
  leg_same = marked_same sent_leg

  -- so that what is sent is right in length where there is no error
  same_right : {q : Packet} → SameButMark (outcome_of p s tables t).packet q → errors_of p s t.phase ≡ 0 → q.nine ≡ carries_of q.control
  same_right f none = f.nine ∙ stamped_right p s tables t h from none ∙ sym f.carries

  pub sent_right : errors_of p s t.phase ≡ 0 → (i : ℕ) → (packet_on (outcome_of p s tables t) i).nine ≡ carries_of (packet_on (outcome_of p s tables t) i).control
  sent_right none i = same_right (sent_same i) none

  pub leg_right : errors_of p s t.phase ≡ 0 → (leg_packet (outcome_of p s tables t)).nine ≡ carries_of (leg_packet (outcome_of p s tables t)).control
  leg_right none = same_right leg_same none
