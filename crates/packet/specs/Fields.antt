-- Reading: a packet's fields by its type, and what the call answers.
use Rattle.std.specs.Prelude.{ℕ, ◌/◌, ◌%◌, List, cond, eqb}
use Rattle.packet.specs.declared.Packet.{Packet}
use Rattle.packet.specs.declared.Fields.{Fields}
use Rattle.packet.specs.declared.FieldsRead.{FieldsRead}
use Rattle.packet.specs.Bytes.{Taken}
use Rattle.packet.specs.Control.{kind_of, mark_of, sequence_of, stamp_of, direct_of, route_of, carries_of, parity_of}
use Rattle.packet.specs.Bytes.{taken_of}

-- "The parity bit is a field, and so is, apart from bit 1, whether four more bytes are there": every type has these, and a field that a type
-- lacks is 0.
abbrev pub end_fields : Packet → Fields
end_fields p =
    record {
      kind = 0;
      mark = 0;
      sequence = 0;
      stamp = 0;
      direct = 0;
      route = 0;
      carries = carries_of p.control;
      parity = parity_of p.control;
      nine = p.nine;
      word = 0;
      source = 0;
      destination = 0;
      payload = p.payload;
    }

-- MC, kind 0, and fixed-route, kind 3, which "has the fields of MC (mark, stamp, word)". "The MC word is the key."
abbrev pub marked_fields : ℕ → Packet → Fields
marked_fields kind p =
    record {
      kind = kind;
      mark = mark_of p.control;
      sequence = 0;
      stamp = stamp_of p.control;
      direct = 0;
      route = 0;
      carries = carries_of p.control;
      parity = parity_of p.control;
      nine = p.nine;
      word = p.word;
      source = 0;
      destination = 0;
      payload = p.payload;
    }

-- "The P2P word is source ID in the high half, destination ID in the low ..."
abbrev pub p2p_fields : Packet → Fields
p2p_fields p =
    record {
      kind = 1;
      mark = 0;
      sequence = sequence_of p.control;
      stamp = stamp_of p.control;
      direct = 0;
      route = 0;
      carries = carries_of p.control;
      parity = parity_of p.control;
      nine = p.nine;
      word = 0;
      source = p.word / 65536;
      destination = p.word % 65536;
      payload = p.payload;
    }

abbrev pub nn_fields : Packet → Fields
nn_fields p =
    record {
      kind = 2;
      mark = 0;
      sequence = 0;
      stamp = 0;
      direct = direct_of p.control;
      route = route_of p.control;
      carries = carries_of p.control;
      parity = parity_of p.control;
      nine = p.nine;
      word = p.word;
      source = 0;
      destination = 0;
      payload = p.payload;
    }

abbrev pub fields_at : ℕ → Packet → Fields
fields_at k p = cond (eqb k 1) (p2p_fields p) (cond (eqb k 2) (nn_fields p) (marked_fields k p))

abbrev pub fields_of : Packet → Fields
fields_of p = fields_at (kind_of p.control) p

abbrev pub no_fields : Fields
no_fields =
    record {
      kind = 0;
      mark = 0;
      sequence = 0;
      stamp = 0;
      direct = 0;
      route = 0;
      carries = 0;
      parity = 0;
      nine = 0;
      word = 0;
      source = 0;
      destination = 0;
      payload = 0;
    }

-- The refusal of taking a packet from bytes, 2; T = 1 passes.
abbrev pub read_from : Taken → FieldsRead
read_from t =
    cond (eqb t.refusal 0) (record { refusal = 0; fields = fields_of t.packet })
    (record { refusal = t.refusal; fields = no_fields })

unfoldable pub read_of : List ℕ → FieldsRead
read_of s = read_from (taken_of s)
