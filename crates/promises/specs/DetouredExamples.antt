-- The detour of the known passes 2 to 4, computed: what is said of it holds, and with each assumption left out something else happens. P is 00 00 00 00 01, from link 0, with no rows: link 3 is wanted, and
-- lost. A fixed-route packet, C0 00 00 00 01, is detoured alike by the fixed route to link 3.
use Rattle.std.specs.Prelude.{ℕ, ◌-◌, ◌≡◌, refl, [], ◌∷◌}
use Rattle.std.proofs.Common.{inl, lit<, lit≤}
use Rattle.std.specs.Int.Count.{ones, ones_in}
use Rattle.packet.specs.declared.Packet.{Packet}
use Rattle.packet.specs.Types.{is_marked, is_stamped}
use Rattle.tables.specs.Rows.{rows_of, first_match}
use Rattle.tables.specs.Tables.{ChipTables, chip_tables}
use Rattle.steps.specs.declared.Setting.{Setting}
use Rattle.steps.specs.Wants.{wanted_of}
use Rattle.steps.specs.Deciding.{decided, outcome_of, packet_on, leg_packet}
use Rattle.promises.specs.Detoured.{At, pass_at, Lost, Middle, detoured, straight}

-- ---- the words of the examples

-- a packet with key 1
abbrev packet : ℕ → Packet
packet control = record { control = control; nine = 0; word = 1; payload = 0 }

-- no rows, and a fixed route to link 3
abbrev no_rows : ChipTables
no_rows = chip_tables [] (3 ∷ []) 8

-- one row for key 1, to processor 0
abbrev a_row : ChipTables
a_row = chip_tables (1 ∷ 4294967295 ∷ 64 ∷ []) (3 ∷ []) 8

-- all links ready but those named
abbrev all_but : ℕ → ℕ → Setting
all_but unready phase = record { width = 1; height = 1; monitor = 0; phase = phase; ready = 63 - unready }

abbrev at : Packet → ℕ → Setting → At
at p source t = record { packet = p; source = source; tables = no_rows; setting = t }

-- what is seen of a pass: the errors, the wanted set, the links that send and those dropped for, the second leg sent and dropped
pub record Seen : Type 0 where
  pub errors : ℕ
  pub wanted : ℕ
  pub sent : ℕ
  pub dropped : ℕ
  pub leg : ℕ
  pub lost : ℕ

abbrev seen : At → Seen
seen a =
    record {
      errors = (pass_at a).errors;
      wanted = (pass_at a).wanted;
      sent = (pass_at a).sent;
      dropped = (pass_at a).dropped;
      leg = (pass_at a).leg_sent;
      lost = (pass_at a).leg_dropped;
    }

abbrev sends : ℕ → ℕ → Seen
sends wanted sent = record { errors = 0; wanted = wanted; sent = sent; dropped = 0; leg = 0; lost = 0 }

abbrev drops : ℕ → Seen
drops dropped = record { errors = 0; wanted = dropped; sent = 0; dropped = dropped; leg = 0; lost = 0 }

-- to the monitor, in error
abbrev too_old_seen : Seen
too_old_seen = record { errors = 2; wanted = 64; sent = 0; dropped = 0; leg = 0; lost = 0 }

-- ---- the detour: link 3 is lost, link 2 its detour link; link 4 is the second leg's, from link 5. Links 2, 3 and 4 as sets are 4, 8 and 16.

abbrev first : At
first = at (packet 0) 0 (all_but 8 0)

abbrev middle : At
middle = at (packet 0x21) 5 (all_but 0 0)

-- the assumptions are met together
pub lost : Lost first 3
unfolding outcome_of decided is_marked is_stamped wanted_of rows_of first_match ones ones_in
lost =
    record {
      given = record {
        checked = record { control = lit< tt; from = lit< tt; monitor = lit< tt; phase = lit≤ tt; ready = lit< tt; width = lit≤ tt; height = lit≤ tt; enough = lit≤ tt };
        from = inl (lit< tt);
      };
      marked = refl;
      no_error = refl;
      there = lit< tt;
      wanted = refl;
      not_ready = refl;
      detour_ready = refl;
    }

pub on_its_way : Middle first 3 middle
unfolding outcome_of decided is_marked is_stamped wanted_of rows_of first_match ones ones_in
on_its_way =
    record {
      given = record {
        checked = record { control = lit< tt; from = lit< tt; monitor = lit< tt; phase = lit≤ tt; ready = lit< tt; width = lit≤ tt; height = lit≤ tt; enough = lit≤ tt };
        from = inl (lit< tt);
      };
      packet = refl;
      source = refl;
      young = refl;
      leg_ready = refl;
    }

-- the first chip sends by link 2, the middle chip its second leg by link 4, and the far chip by link 3, as it would have without the detour
pub goes_round : (seen first ≡ sends 8 4) × (seen middle ≡ record { errors = 0; wanted = 0; sent = 0; dropped = 0; leg = 16; lost = 0 }) × (leg_packet (pass_at middle) ≡ packet 0x30)
unfolding outcome_of decided is_marked is_stamped wanted_of rows_of first_match ones ones_in
goes_round = (refl, refl, refl)

pub treated_alike : (seen (detoured middle 3 (all_but 0 0) no_rows) ≡ sends 8 8)
    × (seen (straight first 3 (all_but 0 0) no_rows) ≡ sends 8 8)
    × (packet_on (pass_at (detoured middle 3 (all_but 0 0) no_rows)) 3 ≡ packet_on (pass_at (straight first 3 (all_but 0 0) no_rows)) 3)
unfolding outcome_of decided is_marked is_stamped wanted_of rows_of first_match ones ones_in
treated_alike = (refl, refl, refl)

-- a fixed-route packet goes round alike: E1 00 00 00 01 to the middle chip, F0 00 00 00 01 to the far one
abbrev fixed_first : At
fixed_first = at (packet 0xc0) 0 (all_but 8 0)

abbrev fixed_middle : At
fixed_middle = at (packet 0xe1) 5 (all_but 0 0)

pub fixed_goes_round : (packet_on (pass_at fixed_first) 2 ≡ packet 0xe1)
    × (leg_packet (pass_at fixed_middle) ≡ packet 0xf0)
    × (seen (detoured fixed_middle 3 (all_but 0 0) no_rows) ≡ sends 8 8)
    × (seen (straight fixed_first 3 (all_but 0 0) no_rows) ≡ sends 8 8)
unfolding outcome_of decided is_marked is_stamped wanted_of rows_of first_match ones ones_in
fixed_goes_round = (refl, refl, refl, refl)

-- ---- with an assumption left out

-- link 3 is ready: it sends, and nothing is detoured
pub link_ready : seen (at (packet 0) 0 (all_but 0 0)) ≡ sends 8 8
unfolding outcome_of decided is_marked is_stamped wanted_of rows_of first_match ones ones_in
link_ready = refl

-- link 3 is not wanted, as from link 1: link 4 sends, and nothing is detoured
pub link_not_wanted : seen (at (packet 0) 1 (all_but 8 0)) ≡ sends 16 16
unfolding outcome_of decided is_marked is_stamped wanted_of rows_of first_match ones ones_in
link_not_wanted = refl

-- the detour link, 2, is not ready: dropped at the first chip
pub detour_link_not_ready : seen (at (packet 0) 0 (all_but 12 0)) ≡ drops 8
unfolding outcome_of decided is_marked is_stamped wanted_of rows_of first_match ones ones_in
detour_link_not_ready = refl

-- the second leg's link, 4, is not ready: dropped at the middle chip
pub second_leg_not_ready : seen (at (packet 0x21) 5 (all_but 16 0)) ≡ record { errors = 0; wanted = 0; sent = 0; dropped = 0; leg = 0; lost = 16 }
unfolding outcome_of decided is_marked is_stamped wanted_of rows_of first_match ones ones_in
second_leg_not_ready = refl

-- too old at the first chip, or at the middle one: to the monitor there, and no way on
pub too_old_lem : (seen (at (packet 0) 0 (all_but 8 3)) ≡ too_old_seen) × (seen (at (packet 0x21) 5 (all_but 0 3)) ≡ too_old_seen)
unfolding outcome_of decided is_marked is_stamped wanted_of rows_of first_match ones ones_in
too_old_lem = (refl, refl)

-- other ready links at the far chip: the one is sent by link 3, the other detoured in its turn
pub other_ready_links : (seen (detoured middle 3 (all_but 0 0) no_rows) ≡ sends 8 8) × (seen (straight first 3 (all_but 8 0) no_rows) ≡ sends 8 4)
unfolding outcome_of decided is_marked is_stamped wanted_of rows_of first_match ones ones_in
other_ready_links = (refl, refl)

-- other tables there: the one goes by the default route, the other to processor 0
pub other_tables : (seen (detoured middle 3 (all_but 0 0) no_rows) ≡ sends 8 8) × (seen (straight first 3 (all_but 0 0) a_row) ≡ sends 64 0)
unfolding outcome_of decided is_marked is_stamped wanted_of rows_of first_match ones ones_in
other_tables = (refl, refl)

-- another phase there: the one goes on, the other is too old
pub other_phase : (seen (detoured middle 3 (all_but 0 0) no_rows) ≡ sends 8 8) × (seen (straight first 3 (all_but 0 3) no_rows) ≡ too_old_seen)
unfolding outcome_of decided is_marked is_stamped wanted_of rows_of first_match ones ones_in
other_phase = (refl, refl)

-- a type without a mark, P2P with code 3: dropped at the first chip, and no detour
pub no_mark : seen (at (record { control = 0x40; nine = 0; word = 0; payload = 0 }) 0 (all_but 8 0)) ≡ drops 8
unfolding outcome_of decided is_marked is_stamped wanted_of rows_of first_match ones ones_in
no_mark = refl
