-- What a trace keeps: calls, up to its end or to a record that is refused.
use Rattle.std.specs.Prelude.{ℕ, zero, suc, cond, List, eqb, length, drop}
use Rattle.records.specs.declared.Call.{Call}
use Rattle.records.specs.Records.{record_read}

-- "A trace is a sequence of records": nothing more; a record that is refused, with its number; or a call, the bytes of its record, and what follows.
pub data Trace : Type 0 where
  over : Trace
  refused : ℕ → Trace
  then : Call → ℕ → Trace → Trace

-- The records of some bytes, at most n of them.
unfoldable pub trace_from : ℕ → List ℕ → Trace
trace_from zero s = over
trace_from (suc n) s =
    let r = record_read s in
    cond (eqb (length s) 0) over (cond (eqb r.refusal 0) (then r.call r.length (trace_from n (drop r.length s))) (refused r.refusal))

-- No record is shorter than a byte.
abbrev pub trace_of : List ℕ → Trace
trace_of s = trace_from (length s) s
