-- A written trace reads back as its calls, and a trace that reads as calls is what writing them gives: one record after another.
use mathlib.Core.Path.{◌≡◌, refl, sym, ap, ◌∙◌, subst}
use mathlib.Core.Bool.{Bool, true, false}
use mathlib.Core.List.{List, [], ◌∷◌, ◌++◌}
use Prim.Native.Nat.{ℕ, ◌+◌}
use native.Mathlib.Omega.{arith}
use lib.Dec.{eqb}
use lib.ListN.{length, drop, take-append-drop}
use lib.Seq.{drop-append_seam, get_or-drop}
use borrow.Author.Tests.{eqb-true, eqb-false}
use Rattle.lists.specs.Lists.{All}
use Rattle.records.specs.declared.Call.{Call}
use Rattle.records.specs.declared.Record.{Record}
use Rattle.records.specs.Records.{record_of, record_read}
use Rattle.records.specs.Traces.{Trace, over, refused, then, trace_of}
use Rattle.records.specs.BothWays.{written_trace, keeps, ReadsAs, none, more, Bytes, Writable, WrittenReads, ReadsWritten}
use Rattle.records.proofs.ReadThenWritten.{record_kept}
use Rattle.records.proofs.Traces.{trace_over, trace_step, trace_stop}
use Rattle.records.proofs.WrittenThenRead.{record_reads}

pub written_reads : WrittenReads
unfolding written_trace keeps All
written_reads [] w = trace_over [] refl
written_reads (c ∷ cs) w =
    let s = record_of c ++ written_trace cs in
    let found = record_reads c w.0 (written_trace cs) in
    trace_step s (omega arith) (ap (λ (r : Record). r.refusal) found)
    ∙ ap (λ (r : Record). then r.call r.length (trace_of (drop r.length s))) found
    ∙ ap (then c (length (record_of c))) (ap trace_of (drop-append_seam (record_of c) (written_trace cs)) ∙ written_reads cs w.1)

-- The three ways in which a trace begins.
data Begins (s : List ℕ) : Type 0 where
  nothing : s ≡ [] → trace_of s ≡ over → Begins s
  some : (record_read s).refusal ≡ 0 → trace_of s ≡ then (record_read s).call (record_read s).length (trace_of (drop (record_read s).length s)) → Begins s
  stop : (n : ℕ) → trace_of s ≡ refused n → Begins s

begins : (s : List ℕ) → Begins s
begins [] = nothing refl (trace_over [] refl)
begins (a ∷ l) = go (eqb (record_read (a ∷ l)).refusal 0) refl
  where
    go : (b : Bool) → eqb (record_read (a ∷ l)).refusal 0 ≡ b → Begins (a ∷ l)
    go true x = some (eqb-true _ _ x) (trace_step (a ∷ l) (omega arith) (eqb-true _ _ x))
    go false x = stop _ (trace_stop (a ∷ l) (omega arith) (eqb-false _ _ x))

-- where nothing is kept there are no bytes
empty_of : {s : List ℕ} → Begins s → trace_of s ≡ over → s ≡ []
empty_of (nothing p t) e = p
empty_of (some p t) e = cc
empty_of (stop n t) e = cc

-- where a call is kept first, the first record reads as that call
record First (s : List ℕ) (c : Call) (rest : Trace) : Type 0 where
  pub read : (record_read s).refusal ≡ 0
  pub call : (record_read s).call ≡ c
  pub behind : trace_of (drop (record_read s).length s) ≡ rest

first_of : {s : List ℕ} (c : Call) (n : ℕ) (rest : Trace) → Begins s → trace_of s ≡ then c n rest → First s c rest
first_of c n rest (nothing p t) e = record { read = cc; call = cc; behind = cc }
first_of c n rest (some p t) e = record { read = p; call = cc; behind = cc }
first_of c n rest (stop m t) e = record { read = cc; call = cc; behind = cc }

reads_back : (s : List ℕ) (bytes : Bytes s) (tr : Trace) (cs : List Call) → trace_of s ≡ tr → ReadsAs tr cs → (s ≡ written_trace cs) × All Writable cs
unfolding written_trace All
reads_back s bytes over [] e none = (empty_of (begins s) e, tt)
reads_back s bytes over (d ∷ cs) e x = elim x [ ]
reads_back s bytes (refused n) cs e x = elim x [ ]
reads_back s bytes (then c n rest) [] e x = elim x [ ]
reads_back s bytes (then c n rest) (d ∷ cs) e (more later) =
    let first = first_of c n rest (begins s) e in
    let k = (record_read s).length in
    let kept = record_kept s bytes first.read in
    let behind = reads_back (drop k s) (λ i. rw get_or-drop (bytes (k + i))) rest cs first.behind later in
    let joined = sym (take-append-drop k s) ∙ (λ i. sym kept.written i ++ behind.0 i) in
    (joined ∙ ap (λ (q : Call). record_of q ++ written_trace cs) first.call, (subst Writable first.call kept.writable, behind.1))

pub reads_written : ReadsWritten
reads_written s bytes cs reads = reads_back s bytes (trace_of s) cs refl reads
