-- Step 3, the wanted set: by type, then by mark and NN route.
use Rattle.std.specs.Prelude.{ℕ, ◌+◌, ◌*◌, ◌%◌, ◌^◌, ◌≤◌, ◌<◌, Bool, cond, ◌&&◌, not, List, eqb, ltb, length, Option}
use Rattle.packet.specs.declared.Packet.{Packet}
use Rattle.packet.specs.Control.{kind_of, mark_of, route_of}
use Rattle.packet.specs.Types.{is_mc}
use Rattle.tables.specs.Shown.{matched_shown}
use Rattle.tables.specs.Rows.{rows_of, route_for}
use Rattle.tables.specs.Codes.{code_for}
use Rattle.tables.specs.Tables.{ChipTables}
use Rattle.steps.specs.declared.Setting.{Setting}
use Rattle.steps.specs.declared.Wanted.{Wanted}
use Rattle.steps.specs.Links.{monitor_bit, link}

abbrev pub wants : ℕ → Wanted
wants set = record { set = set; missed = 0 }

-- "With no match, the monitor if local, else link (source+3) mod 6 for marks 00 and 01, (source+2) mod 6 for 11." "A local miss is a local MC
-- packet without error and without a matching row."
abbrev pub miss_wanted : ℕ → ℕ → ℕ → Wanted
miss_wanted mark source monitor =
    cond (eqb source 7) (record { set = monitor_bit monitor; missed = 1 })
    (wants (2 ^ link (cond (eqb mark 3) (source + 2) (source + 3))))

abbrev pub match_wanted : Option ℕ → ℕ → ℕ → ℕ → Wanted
match_wanted m mark source monitor = cond (eqb (matched_shown m).number 1) (wants (matched_shown m).value) (miss_wanted mark source monitor)

-- "MC, mark not 10: the matching row's route; ... MC, mark 10: nothing."
abbrev pub mark_wanted : Option ℕ → ℕ → ℕ → ℕ → Wanted
mark_wanted m mark source monitor = cond (eqb mark 2) (wants 0) (match_wanted m mark source monitor)

-- A P2P code and an NN route lead alike, but for 6.
abbrev pub number_wanted : ℕ → ℕ → ℕ → ℕ
number_wanted number six monitor = cond (ltb number 6) (2 ^ number) (cond (eqb number 6) six (monitor_bit monitor))

-- "P2P: by its code": "0 to 5 a link, 6 nowhere, 7 the monitor." The destination is the low half of the word.
abbrev pub p2p_wanted : Packet → List ℕ → Setting → ℕ
p2p_wanted p codes t = number_wanted (code_for codes t.width t.height (p.word % 65536)) 0 t.monitor

-- "NN, local: route 7 the monitor, 6 all six links, else that link. NN from a link: the monitor."
abbrev pub nn_wanted : Packet → ℕ → ℕ → ℕ
nn_wanted p source monitor = cond (eqb source 7) (number_wanted (route_of p.control) 63 monitor) (monitor_bit monitor)

-- Fixed-route: "a type 11 packet wants that route, local or not, and nothing if marked 10". "It has no default route and ignores the key."
abbrev pub fixed_wanted : ℕ → ℕ → ℕ
fixed_wanted mark fixed = cond (eqb mark 2) 0 fixed

-- By type, given what the rows say to the packet's key.
abbrev pub kind_wanted : ℕ → Packet → ℕ → Option ℕ → List ℕ → ℕ → Setting → Wanted
kind_wanted kind p source found codes fixed t =
    cond (eqb kind 0) (mark_wanted found (mark_of p.control) source t.monitor)
    (wants (cond (eqb kind 1) (p2p_wanted p codes t) (cond (eqb kind 2) (nn_wanted p source t.monitor) (fixed_wanted (mark_of p.control) fixed))))

-- "A packet in error goes, as it came, to the monitor and nowhere else".
abbrev pub wanted_given : ℕ → Packet → ℕ → Option ℕ → List ℕ → ℕ → Setting → Wanted
wanted_given errors p source found codes fixed t =
    cond (eqb errors 0) (kind_wanted (kind_of p.control) p source found codes fixed t) (wants (monitor_bit t.monitor))

unfoldable pub wanted_of : ℕ → Packet → ℕ → ChipTables → Setting → Wanted
wanted_of errors p source tables t = wanted_given errors p source (route_for p.word (rows_of tables.rows)) tables.codes tables.fixed t

-- Whom the rows concern: an MC packet without error and not marked 10.
abbrev pub by_rows : ℕ → ℕ → Bool
by_rows errors control = eqb errors 0 && is_mc control && not (eqb (mark_of control) 2)

-- What wanting rests on: the monitor is a processor, and there is a code for each chip of the mesh.
pub record Placed (tables : ChipTables) (t : Setting) : Type 0 where
  pub monitor : t.monitor < 20
  pub width : t.width ≤ 12
  pub height : t.height ≤ 12
  pub enough : t.height * t.width ≤ length tables.codes
