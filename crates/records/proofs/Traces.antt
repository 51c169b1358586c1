-- A trace is read record by record, and as many records may be asked for as there are bytes: no record is shorter than a byte.
use mathlib.Core.Path.{◌≡◌, refl, sym, ap, ◌∙◌}
use mathlib.Core.Bool.{Bool, true, false, cond}
use mathlib.Core.List.{List}
use Prim.Native.Nat.{ℕ, zero, suc, ◌+◌, ◌≤◌, ◌<◌}
use native.Mathlib.Omega.{arith}
use lib.Dec.{eqb}
use lib.ListN.{length, drop, length-drop}
use borrow.Author.Tests.{eq-eqb, ne_eqb, eqb-true}
use Rattle.records.specs.declared.Record.{Record}
use Rattle.records.specs.Records.{body_length, call_at, record_read}
use Rattle.records.specs.Traces.{Trace, over, refused, then, trace_from, trace_of}
use Rattle.records.proofs.ReadRecords.{reads, read_found, read_accepted}

pub read_within : (s : List ℕ) → (record_read s).refusal ≡ 0 → (0 < (record_read s).length) × ((record_read s).length ≤ length s)
read_within s e =
    let none = read_accepted s e in
    let long : 2 + body_length s ≡ (record_read s).length = ap (λ (r : Record). r.length) (read_found s (body_length s) (call_at s) none refl refl) in
    (omega (arith, (reads s none).there.whole), omega (arith, (reads s none).there.whole))

-- what is left behind a record that is read
rest_shorter : (s : List ℕ) (n : ℕ) → length s ≤ suc n → (record_read s).refusal ≡ 0 → length (drop (record_read s).length s) ≤ n
rest_shorter s n h e =
    let within = read_within s e in
    rw length-drop (omega arith)

-- The trace of bytes by what they begin with, where `rest` reads on.
abbrev onward : List ℕ → (List ℕ → Trace) → Bool → Bool → Trace
onward s rest none fine =
    let r = record_read s in
    cond none over (cond fine (then r.call r.length (rest (drop r.length s))) (refused r.refusal))

from_suc : (n : ℕ) (s : List ℕ) → trace_from (suc n) s ≡ onward s (trace_from n) (eqb (length s) 0) (eqb (record_read s).refusal 0)
unfolding trace_from
from_suc n s = refl

from_over : (n : ℕ) (s : List ℕ) → length s ≡ 0 → trace_from n s ≡ over
unfolding trace_from
from_over zero s e = refl
from_over (suc n) s e = ap (λ (b : Bool). onward s (trace_from n) b (eqb (record_read s).refusal 0)) (eq-eqb (length s) 0 e)

-- numbers that suffice read the same
from_same : (n k : ℕ) (s : List ℕ) → length s ≤ n → length s ≤ k → trace_from n s ≡ trace_from k s
from_same zero k s x y = from_over zero s (omega arith) ∙ sym (from_over k s (omega arith))
from_same (suc n) zero s x y = from_over (suc n) s (omega arith) ∙ sym (from_over zero s (omega arith))
from_same (suc n) (suc k) s x y =
    from_suc n s
    ∙ go (λ u v w. from_same n k u v w) (eqb (length s) 0) (eqb (record_read s).refusal 0) refl
    ∙ sym (from_suc k s)
  where
    go : ((u : List ℕ) → length u ≤ n → length u ≤ k → trace_from n u ≡ trace_from k u) → (a b : Bool) → eqb (record_read s).refusal 0 ≡ b
        → onward s (trace_from n) a b ≡ onward s (trace_from k) a b
    go same true b e = refl
    go same false false e = refl
    go same false true e =
        let fine = eqb-true (record_read s).refusal 0 e in
        ap (then (record_read s).call (record_read s).length)
        (same (drop (record_read s).length s) (rest_shorter s n x fine) (rest_shorter s k y fine))

pub trace_enough : (k : ℕ) (s : List ℕ) → length s ≤ k → trace_from k s ≡ trace_of s
trace_enough k s h = from_same k (length s) s h (omega arith)

pub trace_over : (s : List ℕ) → length s ≡ 0 → trace_of s ≡ over
trace_over s e = from_over (length s) s e

module _ (s : List ℕ) (some : 0 < length s) where
  -- one number more than the bytes
  from_more : trace_of s ≡ onward s (trace_from (length s)) false (eqb (record_read s).refusal 0)
  from_more =
      from_same (length s) (suc (length s)) s (omega arith) (omega arith)
      ∙ from_suc (length s) s
      ∙ ap (λ (b : Bool). onward s (trace_from (length s)) b (eqb (record_read s).refusal 0)) (ne_eqb (length s) 0 (λ e. omega arith))

  pub trace_step : (record_read s).refusal ≡ 0 → trace_of s ≡ then (record_read s).call (record_read s).length (trace_of (drop (record_read s).length s))
  trace_step e =
      let left = drop (record_read s).length s in
      from_more
      ∙ ap (onward s (trace_from (length s)) false) (eq-eqb (record_read s).refusal 0 e)
      ∙ ap (then (record_read s).call (record_read s).length) (trace_enough (length s) left (rest_shorter s (length s) (omega arith) e))

  pub trace_stop : ((record_read s).refusal ≡ 0 → ⊥) → trace_of s ≡ refused (record_read s).refusal
  trace_stop e = from_more ∙ ap (onward s (trace_from (length s)) false) (ne_eqb (record_read s).refusal 0 e)
