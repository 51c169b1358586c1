-- "A written trace reads back as its calls": for every list of calls that writing accepts, and for every trace that reads as calls.
use Rattle.std.specs.Prelude.{ℕ, ◌<◌, ◌≡◌, true, List, [], ◌∷◌, ◌++◌, length, get_or}
use Rattle.lists.specs.Lists.{All}
use Rattle.records.specs.declared.Call.{Call}
use Rattle.records.specs.Records.{record_of, keepable}
use Rattle.records.specs.Traces.{Trace, over, then, trace_of}

-- The records of some calls, joined.
unfoldable pub written_trace : List Call → List ℕ
written_trace [] = []
written_trace (c ∷ cs) = record_of c ++ written_trace cs

-- A trace that keeps these calls, and nothing else.
unfoldable pub keeps : List Call → Trace
keeps [] = over
keeps (c ∷ cs) = then c (length (record_of c)) (keeps cs)

-- A trace that is read as these calls to its end, whatever bytes each record takes.
pub data ReadsAs : Trace → List Call → Type 0 where
  none : ReadsAs over []
  more : {c : Call} {n : ℕ} {rest : Trace} {cs : List Call} → ReadsAs rest cs → ReadsAs (then c n rest) (c ∷ cs)

-- Bytes are numbers below 256; a call has nine of them.
abbrev pub Bytes : List ℕ → Type 0
Bytes s = (i : ℕ) → get_or s i 0 < 256

pub record Writable (c : Call) : Type 0 where
  pub nine : length c.bytes ≡ 9
  pub bytes : Bytes c.bytes
  pub accepted : keepable c ≡ true

abbrev pub WrittenReads : Type 0
WrittenReads = (cs : List Call) → All Writable cs → trace_of (written_trace cs) ≡ keeps cs

abbrev pub ReadsWritten : Type 0
ReadsWritten = (s : List ℕ) → Bytes s → (cs : List Call) → ReadsAs (trace_of s) cs → (s ≡ written_trace cs) × All Writable cs
