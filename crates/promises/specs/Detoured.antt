-- "A detour is invisible at the far end." Three chips: the first, where a wanted link is lost; the middle one, to which its detour link leads; the far one, at which the lost link ends. Said of
-- every type with a mark, "for MC and fixed-route packets at once".
use Rattle.std.specs.Prelude.{ℕ, ◌+◌, ◌*◌, ◌^◌, ◌≤◌, ◌<◌, ◌≡◌, true, false}
use Rattle.packet.specs.declared.Packet.{Packet}
use Rattle.packet.specs.Control.{kind_of, mark_of, stamp_of, carries_of}
use Rattle.packet.specs.Types.{is_marked}
use Rattle.packet.specs.Parity.{with_mark}
use Rattle.tables.specs.Tables.{ChipTables}
use Rattle.steps.specs.declared.Setting.{Setting}
use Rattle.steps.specs.declared.Outcome.{Outcome}
use Rattle.steps.specs.Links.{has, links_of, link}
use Rattle.steps.specs.Errors.{too_old}
use Rattle.steps.specs.Deciding.{outcome_of, packet_on, leg_packet, Source, Checked}
use Rattle.kept.specs.declared.Registers.{Registers}
use Rattle.kept.specs.Keeping.{kept_of}
use Rattle.links.specs.Across.{across, opposite}

-- ---- the links: link b is lost, and its detour goes over link b - 1

abbrev pub detour_link : ℕ → ℕ
detour_link b = link (b + 5)

-- By which link the packet then comes to the middle chip, and by which it leaves it: "a second leg on link (source-1) mod 6".
abbrev pub middle_source : ℕ → ℕ
middle_source b = opposite (detour_link b)

abbrev pub second_leg : ℕ → ℕ
second_leg b = link (middle_source b + 5)

-- By which link it comes to the far chip, and by which it would have come over the lost link.
abbrev pub far_source : ℕ → ℕ
far_source b = opposite (second_leg b)

abbrev pub straight_source : ℕ → ℕ
straight_source b = opposite b

-- Over the detour link and then the second leg's link one comes to the chip at which the lost link ends; one arrives there by the link from which (source+2) leads where (source+3) leads from the
-- lost link's end.
pub record SameEnd (width height chip b : ℕ) : Type 0 where
  pub far_chip : across width height (across width height chip (detour_link b)) (second_leg b) ≡ across width height chip b
  pub default : link (far_source b + 2) ≡ link (straight_source b + 3)

abbrev pub Geometry : Type 0
Geometry = (width height chip b : ℕ) → 1 ≤ width → 1 ≤ height → chip < height * width → b < 6 → SameEnd width height chip b

-- ---- the passes

-- A packet at a chip: all that a pass is given.
pub record At : Type 0 where
  pub packet : Packet
  pub source : ℕ
  pub tables : ChipTables
  pub setting : Setting

abbrev pub pass_at : At → Outcome
pass_at a = outcome_of a.packet a.source a.tables a.setting

pub record Given (a : At) : Type 0 where
  pub checked : Checked a.packet a.source a.tables a.setting
  pub from : Source a.source

-- "Take one wanted link not ready, its detour link ready": at the first chip, for a packet without error, "too old" there no more than at the middle chip.
pub record Lost (first : At) (b : ℕ) : Type 0 where
  pub given : Given first
  pub marked : is_marked first.packet.control ≡ true
  pub no_error : (pass_at first).errors ≡ 0
  pub there : b < 6
  pub wanted : has (links_of (pass_at first).wanted) b ≡ true
  pub not_ready : has first.setting.ready b ≡ false
  pub detour_ready : has first.setting.ready (detour_link b) ≡ true

-- What then comes to the middle chip, where "the second leg's link [is] ready" and the packet is not too old.
pub record Middle (first : At) (b : ℕ) (middle : At) : Type 0 where
  pub given : Given middle
  pub packet : middle.packet ≡ packet_on (pass_at first) (detour_link b)
  pub source : middle.source ≡ middle_source b
  pub young : too_old middle.packet.control middle.source middle.setting.phase ≡ false
  pub leg_ready : has middle.setting.ready (second_leg b) ≡ true

-- The far chip: the packet that then arrives marked 11, and the one marked 00 that would have come over the lost link, "given the same tables, phase and ready links there".
abbrev pub detoured : At → ℕ → Setting → ChipTables → At
detoured middle b t tables = record { packet = leg_packet (pass_at middle); source = far_source b; tables = tables; setting = t }

abbrev pub straight : At → ℕ → Setting → ChipTables → At
straight first b t tables = record { packet = with_mark (pass_at first).packet 0; source = straight_source b; tables = tables; setting = t }

-- ---- what is said

-- Packets that differ at most in mark and parity.
pub record ButForMark (p q : Packet) : Type 0 where
  pub kind : kind_of p.control ≡ kind_of q.control
  pub stamp : stamp_of p.control ≡ stamp_of q.control
  pub carries : carries_of p.control ≡ carries_of q.control
  pub nine : p.nine ≡ q.nine
  pub word : p.word ≡ q.word
  pub payload : p.payload ≡ q.payload

-- Registers that differ at most in mark, parity and arrival source.
pub record ButForMarkAndSource (r s : Registers) : Type 0 where
  pub kind : kind_of r.control ≡ kind_of s.control
  pub stamp : stamp_of r.control ≡ stamp_of s.control
  pub carries : carries_of r.control ≡ carries_of s.control
  pub word : r.word ≡ s.word
  pub payload : r.payload ≡ s.payload
  pub link : r.link ≡ s.link
  pub leg : r.leg ≡ s.leg
  pub more : r.more ≡ s.more
  pub phase : r.phase ≡ s.phase
  pub units : r.units ≡ s.units

-- "Same wanted set, packets sent, processors reached and links dropped": processors are those of the wanted set. "Deliveries and error registers differ at most in mark, parity and arrival source", whatever the
-- registers kept before.
pub record SameTreatment (o o' : Outcome) : Type 0 where
  pub errors : o.errors ≡ o'.errors
  pub wanted : o.wanted ≡ o'.wanted
  pub missed : o.missed ≡ o'.missed
  pub sent : o.sent ≡ o'.sent
  pub packets : (i : ℕ) → i < 6 → packet_on o i ≡ packet_on o' i
  pub dropped : o.dropped ≡ o'.dropped
  pub leg_sent : (o.leg_sent ≡ 0) × (o'.leg_sent ≡ 0)
  pub leg_dropped : (o.leg_dropped ≡ 0) × (o'.leg_dropped ≡ 0)
  pub delivered : ButForMark o.packet o'.packet
  pub registers : (r : Registers) → ButForMarkAndSource (kept_of r o) (kept_of r o')

-- The packet leaves the first chip by the detour link and the middle chip by the second leg's link, marked 11.
pub record Arrives (first : At) (b : ℕ) (middle : At) : Type 0 where
  pub leaves : has (pass_at first).sent (detour_link b) ≡ true
  pub not_dropped : has (pass_at first).dropped b ≡ false
  pub goes_on : (pass_at middle).leg_sent ≡ 2 ^ second_leg b
  pub not_lost : (pass_at middle).leg_dropped ≡ 0
  pub second_leg_lem : mark_of (leg_packet (pass_at middle)).control ≡ 3

abbrev pub DetourArrives : Type 0
DetourArrives = (first middle : At) (b : ℕ) → Lost first b → Middle first b middle → Arrives first b middle

abbrev pub InvisibleAtTheFarEnd : Type 0
InvisibleAtTheFarEnd = (first middle : At) (b : ℕ) (tables : ChipTables) (t : Setting) → Lost first b → Middle first b middle
    → SameTreatment (pass_at (detoured middle b t tables)) (pass_at (straight first b t tables))

-- ---- what the middle chip does besides

-- The packet marked 00, come by the same link.
abbrev pub unmarked : At → At
unmarked a = record { packet = with_mark a.packet 0; source = a.source; tables = a.tables; setting = a.setting }

-- A packet marked 10 does nothing there but go on. One marked 01, which the detour link's own branch carries, is also routed there, as one marked 00 that came by the same link.
pub record Besides (middle : At) : Type 0 where
  pub emergency_only : mark_of middle.packet.control ≡ 2 → ((pass_at middle).wanted ≡ 0) × ((pass_at middle).sent ≡ 0) × ((pass_at middle).dropped ≡ 0)
  pub both : mark_of middle.packet.control ≡ 1
      → ((pass_at middle).wanted ≡ (pass_at (unmarked middle)).wanted)
      × ((pass_at middle).sent ≡ (pass_at (unmarked middle)).sent)
      × ((pass_at middle).dropped ≡ (pass_at (unmarked middle)).dropped)

-- It is marked 01 exactly when the detour link is wanted too, and else 10.
pub record MarkedOnItsWay (first : At) (b : ℕ) (middle : At) : Type 0 where
  pub both : has (links_of (pass_at first).wanted) (detour_link b) ≡ true → mark_of middle.packet.control ≡ 1
  pub alone : has (links_of (pass_at first).wanted) (detour_link b) ≡ false → mark_of middle.packet.control ≡ 2

abbrev pub AtTheMiddleChip : Type 0
AtTheMiddleChip = (first middle : At) (b : ℕ) → Lost first b → Middle first b middle → Besides middle × MarkedOnItsWay first b middle
