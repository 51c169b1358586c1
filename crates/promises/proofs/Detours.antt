-- The first and the middle chip of a detour: the packet leaves by the detour link marked 01 or 10, is without error at the middle chip, and leaves it by the second leg's link marked 11. What carries
-- it: a packet that is sent has odd parity and the right length, and what comes by a link is not stamped.
use mathlib.Core.Path.{◌≡◌, refl, sym, ap, ◌∙◌, subst}
use mathlib.Core.Bool.{Bool, true, false, cond, ◌&&◌, ◌||◌, not, and-false}
use Prim.Native.Nat.{ℕ, ◌+◌, ◌^◌, ◌<◌}
use native.Mathlib.Nat.{mod-lt}
use native.Mathlib.Omega.{arith}
use lib.Dec.{eqb, lit<}
use borrow.Author.Tests.{eq-eqb, ne_eqb}
use Rattle.packet.specs.declared.Packet.{Packet}
use Rattle.packet.specs.Control.{mark_of, stamp_of, carries_of}
use Rattle.packet.specs.Types.{is_marked}
use Rattle.packet.specs.Parity.{with_mark}
use Rattle.packet.proofs.Types.{same_marked}
use Rattle.packet.proofs.Rewrite.{FieldSet, mark_set, mark_twice}
use Rattle.steps.specs.declared.Outcome.{Outcome}
use Rattle.steps.specs.Links.{has, links_of}
use Rattle.steps.specs.Detour.{carry_set, send_set, drop_set, plain_send_set, plain_drop_set}
use Rattle.steps.specs.Errors.{flag, errors_of}
use Rattle.steps.specs.Deciding.{decided, outcome_of, mark_on, leg_packet, has_leg, leg_set}
use Rattle.steps.proofs.Stamping.{outcome_stamped}
use Rattle.steps.proofs.SentPackets.{sent_marked, sent_right}
use Rattle.promises.specs.Detoured.{detour_link, middle_source, second_leg, At, pass_at, Lost, Middle, Arrives, DetourArrives, MarkedOnItsWay}
use Rattle.promises.proofs.FixedRoutes.{on_marked}
use Rattle.promises.proofs.DetourLinks.{detour_carried, detour_sent, not_dropped, ready_leg}

-- ---- a pass of a packet with a mark

pub record WithDetours (o : Outcome) (ready : ℕ) : Type 0 where
  pub sent : o.sent ≡ send_set (links_of o.wanted) ready
  pub carried : o.carried ≡ carry_set (links_of o.wanted) ready
  pub dropped : o.dropped ≡ drop_set (links_of o.wanted) ready

pub with_detours : (a : At) → is_marked (pass_at a).packet.control ≡ true → WithDetours (pass_at a) a.setting.ready
unfolding outcome_of decided
with_detours a marked = record { sent = simp marked; carried = simp marked; dropped = simp marked }

-- its second leg
abbrev pub leg_of : At → ℕ
leg_of a = leg_set (errors_of a.packet a.source a.setting.phase) (pass_at a).packet a.source

pub leg_by : (a : At) → ((pass_at a).leg_sent ≡ plain_send_set (leg_of a) a.setting.ready) × ((pass_at a).leg_dropped ≡ plain_drop_set (leg_of a) a.setting.ready)
unfolding outcome_of decided
leg_by a = (refl, refl)

pub not_local : (s : ℕ) → s < 6 → eqb s 7 ≡ false
not_local s near = ne_eqb s 7 (λ e. omega arith)

-- what comes by a link is not stamped
pub as_it_came : (a : At) → a.source < 6 → (pass_at a).packet ≡ a.packet
unfolding outcome_of decided
as_it_came a near = simp (not_local a.source near, and-false)

-- ---- the three chips

module _ (first middle : At) (b : ℕ) (lost : Lost first b) (mid : Middle first b middle) where
  pub marked_first : is_marked (pass_at first).packet.control ≡ true
  marked_first = same_marked _ _ (outcome_stamped first.packet first.source first.tables first.setting lost.given.checked lost.given.from).kind ∙ lost.marked

  pub byte_first : (pass_at first).packet.control < 256
  byte_first = (outcome_stamped first.packet first.source first.tables first.setting lost.given.checked lost.given.from).byte

  sets : WithDetours (pass_at first) first.setting.ready
  sets = with_detours first marked_first

  -- the detour link carries the detour, so that its mark is 01 or 10
  mark_on_lem : mark_on (pass_at first) (detour_link b) ≡ cond (has (links_of (pass_at first).wanted) (detour_link b)) 1 2
  mark_on_lem =
      let c : has (pass_at first).carried (detour_link b) ≡ true =
      ap (λ (x : ℕ). has x (detour_link b)) sets.carried
      ∙ detour_carried (links_of (pass_at first).wanted) first.setting.ready b lost.there lost.wanted lost.not_ready lost.detour_ready in
      λ i. cond (c i) (cond (has (links_of (pass_at first).wanted) (detour_link b)) 1 2) 0

  -- what comes to the middle chip
  pub way : FieldSet mark_of stamp_of (pass_at first).packet middle.packet (mark_on (pass_at first) (detour_link b))
  way =
      subst (λ (p : Packet). FieldSet mark_of stamp_of (pass_at first).packet p (mark_on (pass_at first) (detour_link b))) (sym mid.packet)
      (sent_marked first.packet first.source first.tables first.setting lost.given.checked lost.given.from (detour_link b) marked_first)

  pub near : middle.source < 6
  near = subst (λ (s : ℕ). s < 6) (sym mid.source) (mod-lt (detour_link b + 3) (lit< tt))

  pub marked_middle : is_marked middle.packet.control ≡ true
  marked_middle = same_marked _ _ way.kind ∙ marked_first

  no_error_first : errors_of first.packet first.source first.setting.phase ≡ 0
  unfolding outcome_of decided
  no_error_first = lost.no_error

  right : middle.packet.nine ≡ carries_of middle.packet.control
  right =
      subst (λ (p : Packet). p.nine ≡ carries_of p.control) (sym mid.packet)
      (sent_right first.packet first.source first.tables first.setting lost.given.checked lost.given.from no_error_first (detour_link b))

  pub no_error_middle : errors_of middle.packet middle.source middle.setting.phase ≡ 0
  no_error_middle = λ i.
      flag (not (way.odd i)) 1 + flag (mid.young i) 2 + flag (not (eq-eqb _ _ (sym right) i)) 4
      + flag (not_local middle.source near i && is_marked middle.packet.control && not (eqb (mark_of middle.packet.control) 0)) 8

  -- the second leg
  leg : has_leg 0 middle.packet ≡ true
  leg = (λ i. marked_middle i && (eqb (m i) 1 || eqb (m i) 2)) ∙ either (has (links_of (pass_at first).wanted) (detour_link b))
    where
      m : mark_of middle.packet.control ≡ cond (has (links_of (pass_at first).wanted) (detour_link b)) 1 2
      m = way.new ∙ mark_on_lem

      either : (x : Bool) → (eqb (cond x 1 2) 1 || eqb (cond x 1 2) 2) ≡ true
      either true = refl
      either false = refl

  leg_set_lem : leg_of middle ≡ 2 ^ second_leg b
  leg_set_lem =
      (λ i. leg_set (no_error_middle i) (as_it_came middle near i) (mid.source i))
      ∙ (λ i. cond (leg i) (2 ^ second_leg b) 0)

  leg_sets : ((pass_at middle).leg_sent ≡ 2 ^ second_leg b) × ((pass_at middle).leg_dropped ≡ 0)
  leg_sets =
      let r = ready_leg (second_leg b) middle.setting.ready (mod-lt (middle_source b + 5) (lit< tt)) mid.given.checked.ready mid.leg_ready in
      let there = leg_by middle in
      (there.0 ∙ ap (λ (s : ℕ). plain_send_set s middle.setting.ready) leg_set_lem ∙ r.0, there.1 ∙ ap (λ (s : ℕ). plain_drop_set s middle.setting.ready) leg_set_lem ∙ r.1)

  -- what comes to the far chip: the packet of the first chip, marked 11
  pub arrived : leg_packet (pass_at middle) ≡ with_mark (pass_at first).packet 3
  arrived =
      ap (λ (p : Packet). with_mark p 3) (as_it_came middle near ∙ mid.packet ∙ on_marked (pass_at first) (detour_link b) marked_first)
      ∙ mark_twice (pass_at first).packet (mark_on (pass_at first) (detour_link b)) 3

  pub marked_on_its_way : MarkedOnItsWay first b middle
  marked_on_its_way =
      record { both = λ e. way.new ∙ mark_on_lem ∙ ap (λ (x : Bool). cond x 1 2) e; alone = λ e. way.new ∙ mark_on_lem ∙ ap (λ (x : Bool). cond x 1 2) e }

  pub arrives : Arrives first b middle
  arrives =
      let wanted = links_of (pass_at first).wanted in
      let ready = first.setting.ready in
      record {
        leaves = ap (λ (s : ℕ). has s (detour_link b)) sets.sent ∙ detour_sent wanted ready b lost.there lost.wanted lost.not_ready lost.detour_ready;
        not_dropped = ap (λ (s : ℕ). has s b) sets.dropped ∙ not_dropped wanted ready b lost.there lost.wanted lost.not_ready lost.detour_ready;
        goes_on = leg_sets.0;
        not_lost = leg_sets.1;
        second_leg_lem = ap (λ (p : Packet). mark_of p.control) arrived ∙ (mark_set (pass_at first).packet 3 byte_first (lit< tt)).new;
      }

pub detour_arrives : DetourArrives
detour_arrives = arrives
