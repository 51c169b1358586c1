-- Fixed-route packets beside others: "it has no default route and ignores the key", and all but the wanted set is as MC's.
use Rattle.std.specs.Prelude.{ℕ, ◌≤◌, ◌<◌, ◌≡◌, true}
use Rattle.packet.specs.declared.Packet.{Packet}
use Rattle.packet.specs.Control.{mark_of, stamp_of, carries_of}
use Rattle.packet.specs.Types.{is_mc, is_fixed}
use Rattle.packet.specs.Parity.{is_odd}
use Rattle.tables.specs.Rows.{rows_of, route_for}
use Rattle.tables.specs.Shown.{matched_shown}
use Rattle.tables.specs.Tables.{ChipTables}
use Rattle.steps.specs.declared.Setting.{Setting}
use Rattle.steps.specs.declared.Outcome.{Outcome}
use Rattle.steps.specs.Deciding.{outcome_of, packet_on, leg_packet}

-- Two packets that are alike but for type bits, parity bit, word and payload.
pub record SameMarks (p q : Packet) : Type 0 where
  pub mark : mark_of p.control ≡ mark_of q.control
  pub stamp : stamp_of p.control ≡ stamp_of q.control
  pub carries : carries_of p.control ≡ carries_of q.control
  pub nine : p.nine ≡ q.nine

pub record SameWords (p q : Packet) : Type 0 where
  pub word : p.word ≡ q.word
  pub payload : p.payload ≡ q.payload

-- Two passes that find the same errors, want, send, drop and deliver on the same links and to the same processors.
pub record SameSets (o o' : Outcome) : Type 0 where
  pub errors : o.errors ≡ o'.errors
  pub wanted : o.wanted ≡ o'.wanted
  pub missed : o.missed ≡ o'.missed
  pub sent : o.sent ≡ o'.sent
  pub carried : o.carried ≡ o'.carried
  pub dropped : o.dropped ≡ o'.dropped
  pub leg_sent : o.leg_sent ≡ o'.leg_sent
  pub leg_dropped : o.leg_dropped ≡ o'.leg_dropped

-- What holds of the packets that two passes hand to processors, or keep in the registers where they drop, send on each link, and send as a second leg.
pub record Each (Same : Packet → Packet → Type 0) (o o' : Outcome) : Type 0 where
  pub kept : Same o.packet o'.packet
  pub on_link_lem : (i : ℕ) → i < 6 → Same (packet_on o i) (packet_on o' i)
  pub leg : Same (leg_packet o) (leg_packet o')

-- Two packets that are alike but for type, parity bit, word and payload, their parity right or wrong alike, and a setting as it is checked before a pass.
pub record Alike (p q : Packet) (t : Setting) : Type 0 where
  pub one : p.control < 256
  pub other : q.control < 256
  pub phase : t.phase ≤ 3
  pub marks : SameMarks p q
  pub parity : is_odd p ≡ is_odd q

-- What a fixed-route packet does in a pass does not depend on its key or its payload, nor on rows and codes.
abbrev pub KeyAndRowsIgnored : Type 0
KeyAndRowsIgnored = (p q : Packet) (source : ℕ) (a b : ChipTables) (t : Setting) → Alike p q t → is_fixed p.control ≡ true → is_fixed q.control ≡ true → a.fixed ≡ b.fixed
    → SameSets (outcome_of p source a t) (outcome_of q source b t) × Each SameMarks (outcome_of p source a t) (outcome_of q source b t)

-- An MC packet whose matching row has the fixed route, and the fixed-route packet that is like it but for the type bits and parity, are sent, marked, dropped and delivered alike.
abbrev pub AsMulticast : Type 0
AsMulticast = (p q : Packet) (source : ℕ) (tables : ChipTables) (t : Setting) → Alike p q t → SameWords p q → is_mc p.control ≡ true → is_fixed q.control ≡ true
    → matched_shown (route_for p.word (rows_of tables.rows)) ≡ record { number = 1; value = tables.fixed }
    → SameSets (outcome_of p source tables t) (outcome_of q source tables t)
    × (Each SameMarks (outcome_of p source tables t) (outcome_of q source tables t) × Each SameWords (outcome_of p source tables t) (outcome_of q source tables t))
