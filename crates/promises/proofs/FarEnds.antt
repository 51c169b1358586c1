-- A detour is invisible at the far end: the packet marked 11 that came over the middle chip and the one marked 00 that would have come over the lost link are one packet but for mark and parity, and their
-- default routes are one link.
use mathlib.Core.Path.{◌≡◌, refl, sym, ap, ◌∙◌, subst}
use mathlib.Core.Bool.{true, false, cond, ◌||◌, and-false}
use Prim.Native.Nat.{ℕ, ◌+◌, ◌<◌}
use native.Mathlib.Nat.{mod-lt}
use lib.Dec.{eqb, lit<}
use Rattle.packet.specs.declared.Packet.{Packet}
use Rattle.packet.specs.Control.{mark_of, stamp_of}
use Rattle.packet.specs.Types.{is_marked}
use Rattle.packet.specs.Parity.{with_mark}
use Rattle.packet.proofs.Types.{same_marked}
use Rattle.packet.proofs.Rewrite.{FieldSet, mark_set, mark_twice}
use Rattle.tables.specs.Tables.{ChipTables}
use Rattle.steps.specs.declared.Setting.{Setting}
use Rattle.steps.specs.Links.{link}
use Rattle.steps.specs.Detour.{plain_send_set, plain_drop_set}
use Rattle.steps.specs.Errors.{errors_of}
use Rattle.steps.specs.Deciding.{decided, outcome_of, mark_on, packet_on, leg_set}
use Rattle.promises.specs.Detoured.{far_source, straight_source, At, pass_at, ButForMark, SameTreatment, InvisibleAtTheFarEnd}
use Rattle.promises.proofs.DetourLinks.{same_default}
use Rattle.promises.proofs.FixedRoutes.{on_marked}
use Rattle.promises.proofs.Detours.{leg_of, leg_by, as_it_came, marked_first, byte_first, arrived}
use Rattle.promises.proofs.Twins.{Twins, SameWay, same_errors, kept_p, kept_q, marked_q, same_wanted, same_sent, same_dropped, same_mark, kept_alike}

-- ---- a packet marked anew

-- two marks leave all else alike
marks_alike : {p q u : Packet} {m n : ℕ} → FieldSet mark_of stamp_of p q m → FieldSet mark_of stamp_of p u n → ButForMark q u
marks_alike f g =
    record {
      kind = f.kind ∙ sym g.kind;
      stamp = f.beside ∙ sym g.beside;
      carries = f.carries ∙ sym g.carries;
      nine = f.nine ∙ sym g.nine;
      word = f.word ∙ sym g.word;
      payload = f.payload ∙ sym g.payload;
    }

-- no second leg for marks 00 and 11
no_leg : (a : At) → a.source < 6 → (eqb (mark_of a.packet.control) 1 || eqb (mark_of a.packet.control) 2) ≡ false → ((pass_at a).leg_sent ≡ 0) × ((pass_at a).leg_dropped ≡ 0)
no_leg a from none =
    let empty : leg_of a ≡ 0 =
    (λ i. leg_set (errors_of a.packet a.source a.setting.phase) (as_it_came a from i) a.source) ∙ simp (none, and-false) in
    ((leg_by a).0 ∙ ap (λ (s : ℕ). plain_send_set s a.setting.ready) empty, (leg_by a).1 ∙ ap (λ (s : ℕ). plain_drop_set s a.setting.ready) empty)

-- ---- the far chip

module _ (p : Packet) (b : ℕ) (tables : ChipTables) (t : Setting) (h : b < 6) (byte : p.control < 256) (marked : is_marked p.control ≡ true) where
  abbrev far : At
  far = record { packet = with_mark p 3; source = far_source b; tables = tables; setting = t }

  abbrev direct : At
  direct = record { packet = with_mark p 0; source = straight_source b; tables = tables; setting = t }

  three : FieldSet mark_of stamp_of p (with_mark p 3) 3
  three = mark_set p 3 byte (lit< tt)

  none : FieldSet mark_of stamp_of p (with_mark p 0) 0
  none = mark_set p 0 byte (lit< tt)

  twins : Twins (with_mark p 3) (with_mark p 0) (far_source b) (straight_source b)
  twins =
      record {
        like = marks_alike three none;
        odd = three.odd ∙ sym none.odd;
        one = mod-lt _ (lit< tt);
        other = mod-lt _ (lit< tt);
        marked = same_marked _ _ three.kind ∙ marked;
      }

  way_on : SameWay (with_mark p 3) (with_mark p 0) (far_source b) (straight_source b)
  way_on =
      record {
        one = ap (λ (m : ℕ). eqb m 2) three.new;
        other = ap (λ (m : ℕ). eqb m 2) none.new;
        default = (λ i. link (cond (eqb (three.new i) 3) (far_source b + 2) (far_source b + 3)))
            ∙ same_default b h
            ∙ sym (λ i. link (cond (eqb (none.new i) 3) (straight_source b + 2) (straight_source b + 3)));
      }

  -- whichever mark it came with, it is sent on with the new one alone
  on_far : (i : ℕ) → packet_on (pass_at far) i ≡ with_mark p (mark_on (pass_at far) i)
  on_far i =
      let k = kept_p _ _ _ _ tables t twins in
      on_marked (pass_at far) i (ap (λ (x : Packet). is_marked x.control) k ∙ twins.marked)
      ∙ ap (λ (x : Packet). with_mark x (mark_on (pass_at far) i)) k
      ∙ mark_twice p 3 (mark_on (pass_at far) i)

  on_direct : (i : ℕ) → packet_on (pass_at direct) i ≡ with_mark p (mark_on (pass_at direct) i)
  on_direct i =
      let k = kept_q _ _ _ _ tables t twins in
      on_marked (pass_at direct) i (ap (λ (x : Packet). is_marked x.control) k ∙ marked_q _ _ _ _ tables t twins)
      ∙ ap (λ (x : Packet). with_mark x (mark_on (pass_at direct) i)) k
      ∙ mark_twice p 0 (mark_on (pass_at direct) i)

  legs_far : ((pass_at far).leg_sent ≡ 0) × ((pass_at far).leg_dropped ≡ 0)
  legs_far = no_leg far twins.one (λ i. eqb (three.new i) 1 || eqb (three.new i) 2)

  legs_direct : ((pass_at direct).leg_sent ≡ 0) × ((pass_at direct).leg_dropped ≡ 0)
  legs_direct = no_leg direct twins.other (λ i. eqb (none.new i) 1 || eqb (none.new i) 2)

  kept : ButForMark (pass_at far).packet (pass_at direct).packet
  kept =
      subst (λ (x : Packet). ButForMark x (pass_at direct).packet) (sym (kept_p _ _ _ _ tables t twins))
      (subst (λ (x : Packet). ButForMark (with_mark p 3) x) (sym (kept_q _ _ _ _ tables t twins)) twins.like)

  same_phase : (pass_at far).phase ≡ (pass_at direct).phase
  unfolding outcome_of decided
  same_phase = refl

  errors : (pass_at far).errors ≡ (pass_at direct).errors
  unfolding outcome_of decided
  errors = same_errors _ _ _ _ tables t twins

  same_treatment : SameTreatment (pass_at far) (pass_at direct)
  same_treatment =
      let dropped = same_dropped _ _ _ _ tables t twins way_on in
      let wanted = same_wanted _ _ _ _ tables t twins way_on in
      record {
        errors = errors;
        wanted = wanted.0;
        missed = wanted.1;
        sent = same_sent _ _ _ _ tables t twins way_on;
        packets = λ i hi. on_far i ∙ ap (with_mark p) (same_mark _ _ _ _ tables t twins way_on i) ∙ sym (on_direct i);
        dropped = dropped;
        leg_sent = (legs_far.0, legs_direct.0);
        leg_dropped = (legs_far.1, legs_direct.1);
        delivered = kept;
        registers = λ r. kept_alike r (pass_at far) (pass_at direct) kept dropped (legs_far.1 ∙ sym legs_direct.1) same_phase;
      }

pub invisible_at_the_far_end : InvisibleAtTheFarEnd
invisible_at_the_far_end first middle b tables t lost mid =
    subst (λ (x : Packet). SameTreatment (outcome_of x (far_source b) tables t) (outcome_of (with_mark (pass_at first).packet 0) (straight_source b) tables t)) (sym (arrived first middle b lost mid))
    (same_treatment (pass_at first).packet b tables t lost.there (byte_first first middle b lost mid) (marked_first first middle b lost mid))
