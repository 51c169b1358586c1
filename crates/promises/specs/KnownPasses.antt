-- The known passes 1 to 12: one table, and one statement about it.
use Prim.Native.Nat.{ℕ, ◌+◌, ◌-◌}
use Rattle.std.specs.Prelude.{◌≡◌, refl, cond, List, [], ◌∷◌, ◌++◌, map, eqb}
use Rattle.std.specs.Int.Count.{ones, ones_in}
use Rattle.packet.specs.declared.Packet.{Packet}
use Rattle.packet.specs.Bytes.{packed_bytes, bytes_in}
use Rattle.packet.specs.Types.{is_marked, is_stamped}
use Rattle.tables.specs.Rows.{rows_of, first_match}
use Rattle.tables.specs.Accept.{all_routes, all_codes}
use Rattle.tables.specs.Tables.{chip_tables}
use Rattle.router.specs.declared.Pass.{Pass}
use Rattle.steps.specs.Links.{has}
use Rattle.steps.specs.Wants.{wanted_of}
use Rattle.steps.specs.Deciding.{decided, outcome_of}
use Rattle.kept.specs.Keeping.{lowest}
use Rattle.router.specs.Call.{checked_of, pass_of}

-- what is given: the packet's bytes, its source, rows, phase and ready set. The mesh is one chip, and the monitor is processor 0.
pub record Given : Type 0 where
  pub bytes : List ℕ
  pub source : ℕ
  pub rows : List ℕ
  pub phase : ℕ
  pub ready : ℕ

-- a packet on a link
pub record On : Type 0 where
  pub link : ℕ
  pub bytes : List ℕ

-- what is seen: the refusal, the errors, what each link sends, the second leg last, the links dropped for, the processors and what they get
pub record Seen : Type 0 where
  pub refusal : ℕ
  pub errors : ℕ
  pub sent : List On
  pub dropped : ℕ
  pub processors : ℕ
  pub delivered : List ℕ

abbrev on_link : ℕ → ℕ → Packet → List On
on_link set i p = cond (has set i) (record { link = i; bytes = bytes_in (packed_bytes p) } ∷ []) []

abbrev links : ℕ → ℕ → List Packet → List On
links set i [] = []
links set i (p ∷ ps) = on_link set i p ++ links set (Prim.Native.Nat.suc i) ps

abbrev seen_in : Pass → Seen
seen_in r =
    record {
      refusal = r.refusal;
      errors = r.errors;
      sent = links r.sent 0 r.packets ++ cond (eqb r.leg_sent 0) [] (record { link = lowest r.leg_sent; bytes = bytes_in (packed_bytes r.leg) } ∷ []);
      -- the second leg's link among them
      dropped = r.dropped + r.leg_dropped;
      processors = r.processors;
      delivered = cond (eqb r.processors 0) [] (bytes_in (packed_bytes r.delivered));
    }

abbrev seen : Given → Seen
seen g =
    seen_in
    (pass_of g.bytes g.source (chip_tables g.rows (6 ∷ []) 0)
    (record { width = 1; height = 1; monitor = 0; phase = g.phase; ready = g.ready }) 0)

pub record Case : Type 0 where
  pub number : ℕ
  pub given : Given
  pub answer : Seen

-- ---- the words of the table

abbrev packet : ℕ → List ℕ
packet control = control ∷ 0 ∷ 0 ∷ 0 ∷ 1 ∷ []

-- a packet from a source, all links ready but those named, phase 00, no rows
abbrev from : ℕ → List ℕ → ℕ → Given
from source bytes unready = record { bytes = bytes; source = source; rows = []; phase = 0; ready = 63 - unready }

abbrev at_phase : ℕ → Given → Given
at_phase phase g = record { bytes = g.bytes; source = g.source; rows = g.rows; phase = phase; ready = g.ready }

-- one row for key 1
abbrev with_row : ℕ → Given → Given
with_row route g = record { bytes = g.bytes; source = g.source; rows = 1 ∷ 4294967295 ∷ route ∷ []; phase = g.phase; ready = g.ready }

abbrev sends : List On → Seen
sends on = record { refusal = 0; errors = 0; sent = on; dropped = 0; processors = 0; delivered = [] }

abbrev on : ℕ → List ℕ → List On
on link bytes = record { link = link; bytes = bytes } ∷ []

abbrev drops : ℕ → List On → Seen
drops set on = record { refusal = 0; errors = 0; sent = on; dropped = set; processors = 0; delivered = [] }

-- delivered to processor 0, without error or with
abbrev delivers : ℕ → List ℕ → Seen
delivers errors bytes = record { refusal = 0; errors = errors; sent = []; dropped = 0; processors = 1; delivered = bytes }

abbrev case : ℕ → Given → Seen → Case
case n g a = record { number = n; given = g; answer = a }

-- P is 00 00 00 00 01. Links 2 and 3 as sets are 4 and 8; control bytes 0x21, 0x30, 0x11 and 0x0c.
pub table : List Case
table =
    case 1 (from 0 (packet 0) 0) (sends (on 3 (packet 0)))
    ∷ case 2 (from 0 (packet 0) 8) (sends (on 2 (packet 0x21)))
    ∷ case 3 (from 5 (packet 0x21) 0) (sends (on 4 (packet 0x30)))
    ∷ case 4 (from 1 (packet 0x30) 0) (sends (on 3 (packet 0)))
    ∷ case 5 (from 0 (packet 0) 12) (drops 8 [])
    ∷ case 6 (with_row 12 (from 0 (packet 0) 8)) (sends (on 2 (packet 0x11)))
    ∷ case 7 (at_phase 3 (from 0 (packet 0) 0)) (delivers 2 (packet 0))
    ∷ case 7 (at_phase 2 (from 0 (packet 0) 0)) (sends (on 3 (packet 0)))
    ∷ case 8 (with_row 64 (at_phase 3 (from 7 (packet 0) 0))) (delivers 0 (packet 0x0c))
    ∷ case 9 (from 0 (packet 1) 0) (delivers 1 (packet 1))
    ∷ case 10 (from 0 (packet 0 ++ 0 ∷ 0 ∷ 0 ∷ 0 ∷ []) 0) (delivers 4 (packet 0 ++ 0 ∷ 0 ∷ 0 ∷ 0 ∷ []))
    ∷ case 11 (from 7 (0x98 ∷ 0 ∷ 0 ∷ 0 ∷ 0 ∷ []) 8)
    (drops 8
    (on 0 (0x98 ∷ 0 ∷ 0 ∷ 0 ∷ 0 ∷ []) ++ on 1 (0x98 ∷ 0 ∷ 0 ∷ 0 ∷ 0 ∷ []) ++ on 2 (0x98 ∷ 0 ∷ 0 ∷ 0 ∷ 0 ∷ []) ++ on 4 (0x98 ∷ 0 ∷ 0 ∷ 0 ∷ 0 ∷ [])
    ++ on 5 (0x98 ∷ 0 ∷ 0 ∷ 0 ∷ 0 ∷ [])))
    ∷ case 12 (from 7 (packet 0x21) 0) (delivers 8 (packet 0x21))
    ∷ []

-- every case of the table answers as it says
pub known_passes : map (λ (c : Case). seen c.given) table ≡ map (λ (c : Case). c.answer) table
unfolding table pass_of checked_of outcome_of decided is_marked is_stamped wanted_of rows_of first_match all_routes all_codes ones ones_in
known_passes = refl
