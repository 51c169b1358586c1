-- What a pass does with a packet: steps 1 to 7 put together.
use Rattle.std.specs.Prelude.{ℕ, ◌+◌, ◌*◌, ◌^◌, ◌≤◌, ◌<◌, ◌≡◌, ◌⊎◌, Bool, cond, ◌&&◌, ◌||◌, eqb, length}
use Rattle.packet.specs.declared.Packet.{Packet}
use Rattle.packet.specs.Bytes.{nothing}
use Rattle.packet.specs.Control.{mark_of}
use Rattle.packet.specs.Types.{is_marked}
use Rattle.packet.specs.Parity.{with_mark}
use Rattle.tables.specs.Tables.{ChipTables}
use Rattle.steps.specs.declared.Setting.{Setting}
use Rattle.steps.specs.declared.Wanted.{Wanted}
use Rattle.steps.specs.declared.Outcome.{Outcome}
use Rattle.steps.specs.Links.{has, links_of, link}
use Rattle.steps.specs.Detour.{carry_set, send_set, drop_set, plain_send_set, plain_drop_set}
use Rattle.steps.specs.Errors.{errors_of, stamped_of}
use Rattle.steps.specs.Wants.{wanted_of}

-- Step 4: "MC marked 01 or 10 also has a second leg on link (source-1) mod 6", and fixed-route as MC. A packet in error has none. Source + 5 is source - 1.
abbrev pub has_leg : ℕ → Packet → Bool
has_leg errors p = eqb errors 0 && is_marked p.control && (eqb (mark_of p.control) 1 || eqb (mark_of p.control) 2)

abbrev pub leg_set : ℕ → Packet → ℕ → ℕ
leg_set errors p source = cond (has_leg errors p) (2 ^ link (source + 5)) 0

-- Steps 4 to 7, from the packet after stamping and its wanted set: types with a mark with detours, P2P and NN without. Step 6: "The second leg is sent with
-- mark 11 if its link is ready, else dropped."
unfoldable pub decided : ℕ → Packet → ℕ → ℕ → Wanted → ℕ → Outcome
decided errors p source phase w ready =
    record {
      errors = errors;
      packet = p;
      wanted = w.set;
      missed = w.missed;
      sent = cond (is_marked p.control) (send_set (links_of w.set) ready) (plain_send_set (links_of w.set) ready);
      carried = cond (is_marked p.control) (carry_set (links_of w.set) ready) 0;
      dropped = cond (is_marked p.control) (drop_set (links_of w.set) ready) (plain_drop_set (links_of w.set) ready);
      leg_sent = plain_send_set (leg_set errors p source) ready;
      leg_dropped = plain_drop_set (leg_set errors p source) ready;
      source = source;
      phase = phase;
    }

unfoldable pub outcome_of : Packet → ℕ → ChipTables → Setting → Outcome
outcome_of p source tables t =
    decided (errors_of p source t.phase) (stamped_of p source (errors_of p source t.phase) t.phase) source t.phase
    (wanted_of (errors_of p source t.phase) p source tables t)
    t.ready

-- Nothing at all, as where a pass is refused.
abbrev pub no_outcome : Outcome
no_outcome = record { errors = 0; packet = nothing; wanted = 0; missed = 0; sent = 0; carried = 0; dropped = 0; leg_sent = 0; leg_dropped = 0; source = 0; phase = 0 }

-- "Mark 00 if wanted and not carrying a detour, 01 if wanted and carrying one, 10 if only carrying."
abbrev pub mark_on : Outcome → ℕ → ℕ
mark_on o i = cond (has o.carried i) (cond (has (links_of o.wanted) i) 1 2) 0

-- What link i sends in step 5 or 7.
abbrev pub packet_on : Outcome → ℕ → Packet
packet_on o i = cond (is_marked o.packet.control) (with_mark o.packet (mark_on o i)) o.packet

-- What the second leg's link sends.
abbrev pub leg_packet : Outcome → Packet
leg_packet o = with_mark o.packet 3

-- "Its source (0 to 5 a link, 7 local)".
abbrev pub Source : ℕ → Type 0
Source s = (s < 6) ⊎ (s ≡ 7)

-- What is checked before a pass.
pub record Checked (p : Packet) (source : ℕ) (tables : ChipTables) (t : Setting) : Type 0 where
  pub control : p.control < 256
  pub from : source < 8
  pub monitor : t.monitor < 20
  pub phase : t.phase ≤ 3
  pub ready : t.ready < 64
  pub width : t.width ≤ 12
  pub height : t.height ≤ 12
  pub enough : t.height * t.width ≤ length tables.codes
