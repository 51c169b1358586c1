-- The turns of a replay: one record more, the first that is refused, the end.
use mathlib.Core.Path.{◌≡◌, refl, sym, ap, ◌∙◌, subst}
use mathlib.Core.Bool.{Bool}
use mathlib.Core.List.{List, [], ◌++◌, append-nil, append_assoc}
use Prim.Native.Nat.{ℕ, ◌+◌, ◌-◌, ◌*◌, ◌/◌, ◌≤◌, ◌<◌}
use native.Mathlib.Nat.{add-zero}
use native.Mathlib.Omega.{arith}
use lib.ListN.{length, take, drop, length-append, length-drop, take-append-drop, drop_of_length-le}
use lib.Seq.{take_all, drop-drop, length-take-le, take_at, drop_at}
use Rattle.mesh.specs.Mesh.{Mesh}
use Rattle.buffer.specs.Layout.{mesh_of, words_for}
use Rattle.buffer.specs.Holding.{holds_mesh}
use Rattle.mesh.specs.Lending.{Tables}
use Rattle.mesh.specs.Calls.{Left, logged_on}
use Rattle.records.specs.Records.{record_read}
use Rattle.records.specs.Traces.{Trace, trace_of}
use Rattle.records.proofs.Traces.{read_within, trace_over}
use Rattle.trace.specs.declared.Replayed.{Replayed}
use Rattle.trace.specs.declared.replaying.Done.{Done}
use Rattle.trace.specs.Replay.{stopped, behind, replaying, replay_of, Replays, one_left, OneDone}
use Rattle.trace.proofs.KeptSizes.{Keeps}
use Rattle.trace.proofs.SoFar.{onward, accepted_record, keeps_one, onward_step, onward_stop, SoFar}

-- a log whose part from k on was lent and came back as w
abbrev pub back_in : List ℕ → ℕ → List ℕ → List ℕ
back_in log k w = take k log ++ (w ++ drop (length log - k) (drop k log))

back_in_lem : (log : List ℕ) (k : ℕ) (w : List ℕ) → back_in log k w ≡ take k log ++ w
back_in_lem log k w = ap (λ (r : List ℕ). take k log ++ (w ++ r)) (drop_of_length-le (drop k log) {i = length log - k} (simp length-drop (omega arith))) ∙ ap (λ (r : List ℕ). take k log ++ r) (append-nil w)

-- all that is left of a list, as a part of it
pub part_rest : (k : ℕ) (l : List ℕ) → take (length l - k) (drop k l) ≡ drop k l
part_rest k l = take_all (length l - k) (drop k l) (simp length-drop (omega arith))

module _ (t : Tables) (s l₀ log₀ l log : List ℕ) (at added : ℕ) (h : SoFar t s l₀ log₀ l log at added) where
  -- a record is lent the rest of the trace and the rest of the log
  lent_rest : (l₁ w₁ : List ℕ) (done : Done) → OneDone t (take (length s - at) (drop at s)) l (take (length log - added * 6) (drop (added * 6) log)) l₁ w₁ done
      → OneDone t (drop at s) l (drop (added * 6) log) l₁ w₁ done
  lent_rest l₁ w₁ done d =
      subst (λ (q : List ℕ). OneDone t (drop at s) l q l₁ w₁ done) (part_rest (added * 6) log)
      (subst (λ (q : List ℕ). OneDone t q l (take (length log - added * 6) (drop (added * 6) log)) l₁ w₁ done) (part_rest at s) d)

  module _ (w₁ : List ℕ) (same : length w₁ ≡ length (take (length log - added * 6) (drop (added * 6) log))) where
    pub rest_kept : length w₁ ≡ length (drop (added * 6) log)
    rest_kept = same ∙ ap length (part_rest (added * 6) log)

    pub log_kept : length (back_in log (added * 6) w₁) ≡ length log₀
    log_kept =
        ap length (back_in_lem log (added * 6) w₁) ∙ length-append (take (added * 6) log) w₁
        ∙ (λ i. length-take-le (added * 6) log h.room i + rest_kept i)
        ∙ omega (arith, length-drop (added * 6) log, h.room)
        ∙ h.log_long

  -- ---- the end, or a refusal

  pub finished : (n p : ℕ) → onward t l (length (drop (added * 6) log)) (drop at s) ≡ stopped n p (mesh_of l)
      → Replays l₀ l log₀ log (record { refusal = n; at = at; added = added; place = p }) (replay_of l₀ t (length log₀) s)
  finished n p e =
      let front = take (added * 6) log in
      let whole : replay_of l₀ t (length log₀) s ≡ behind at front (stopped n p (mesh_of l)) = h.left ∙ ap (behind at front) e in
      let size : length (front ++ []) ≡ added * 6 = ap length (append-nil front) ∙ length-take-le (added * 6) log h.room in
      let count : added ≡ length (front ++ []) / 6 = omega arith in
      subst (Replays l₀ l log₀ log (record { refusal = n; at = at; added = added; place = p })) (sym whole)
      (record {
        answered = λ i. record { refusal = n; at = sym (add-zero at) i; added = count i; place = p };
        logged = sym (take-append-drop (added * 6) log) ∙ (λ i. sym (append-nil front) i ++ h.untold i) ∙ ap (λ (k : ℕ). (front ++ []) ++ drop k log₀) (sym size);
        mesh = refl;
        holds = h.holds;
        untouched = λ z. h.untouched (sym (add-zero at) ∙ z);
        long = h.long;
        past = h.past;
      })

  pub at_the_end : length s ≤ at → Replays l₀ l log₀ log (record { refusal = 0; at = at; added = added; place = 0 }) (replay_of l₀ t (length log₀) s)
  unfolding replaying
  at_the_end e = finished 0 0 (ap (replaying (holds_mesh l) t (mesh_of l) (length (drop (added * 6) log))) (trace_over (drop at s) (simp length-drop (omega arith))))

  module _ (more : at < length s) (l₁ w₁ : List ℕ) (done : Done)
      (lent : OneDone t (take (length s - at) (drop at s)) l (take (length log - added * 6) (drop (added * 6) log)) l₁ w₁ done) where
    pub d : OneDone t (drop at s) l (drop (added * 6) log) l₁ w₁ done
    d = lent_rest l₁ w₁ done lent

    abbrev here : List ℕ
    here = drop at s

    abbrev rest : List ℕ
    rest = drop (added * 6) log

    abbrev x : Left (Unit {0})
    x = one_left t (drop at s) l (length (drop (added * 6) log))

    pub some_left : 0 < length (drop at s)
    some_left = simp length-drop (omega arith)

    keeps : Keeps (holds_mesh l) (mesh_of l) (one_left t (drop at s) l (length (drop (added * 6) log)))
    keeps = keeps_one t (drop at s) l (length (drop (added * 6) log))

    pub stopped_here : (done.refusal ≡ 0 → ⊥) → Replays l₀ l₁ log₀ (back_in log (added * 6) w₁) (record { refusal = done.refusal; at = at; added = added; place = done.place }) (replay_of l₀ t (length log₀) s)
    stopped_here some =
        let none : x.refusal ≡ 0 → ⊥ = λ z. some (d.refusal ∙ z) in
        let same_log : back_in log (added * 6) w₁ ≡ log =
        back_in_lem log (added * 6) w₁ ∙ ap (λ (r : List ℕ). take (added * 6) log ++ r) (d.logged ∙ ap (λ (r : List ℕ). logged_on r rest) (keeps.none none)) ∙ take-append-drop (added * 6) log in
        let stop : onward t l (length rest) here ≡ stopped done.refusal done.place (mesh_of l) =
        onward_stop t here l (length rest) some_left none ∙ (λ i. stopped (sym d.refusal i) (sym d.place i) (mesh_of l)) in
        let answer : Replayed = record { refusal = done.refusal; at = at; added = added; place = done.place } in
        subst (λ (a : List ℕ). Replays l₀ a log₀ (back_in log (added * 6) w₁) answer (replay_of l₀ t (length log₀) s)) (sym (d.buffer.refused none))
        (subst (λ (k : List ℕ). Replays l₀ l log₀ k answer (replay_of l₀ t (length log₀) s)) (sym same_log) (finished done.refusal done.place stop))

    -- ---- one record more

    module _ (none : done.refusal ≡ 0) (same : length w₁ ≡ length (take (length log - added * 6) (drop (added * 6) log))) where
      kept : length w₁ ≡ length (drop (added * 6) log)
      kept = rest_kept w₁ same

      pub fine : x.refusal ≡ 0
      fine = sym d.refusal ∙ none

      bytes : done.length ≡ (record_read (drop at s)).length
      bytes = d.bytes none

      read : (0 < (record_read (drop at s)).length) × ((record_read (drop at s)).length ≤ length (drop at s))
      read = read_within (drop at s) (accepted_record t (drop at s) l (length (drop (added * 6) log)) fine).0

      pub some_bytes : 0 < done.length
      some_bytes = omega (arith, bytes, read.0)

      pub bytes_within : at + done.length ≤ length s
      bytes_within = omega (arith, bytes, read.1, length-drop at s)

      size : length x.log ≡ done.added * 6
      size = omega (arith, d.added, keeps.sixes)

      fits : length x.log ≤ length (drop (added * 6) log)
      fits =
          let e : length x.log + (length rest - length x.log) ≡ length rest =
          sym (length-append x.log (drop (length x.log) rest) ∙ ap (λ (k : ℕ). length x.log + k) (length-drop (length x.log) rest)) ∙ ap length (sym d.logged) ∙ kept in
          omega (arith, e)

      front_long : length (take (added * 6) log) ≡ added * 6
      front_long = length-take-le (added * 6) log h.room

      pub added_within : (added + done.added) * 6 ≤ length log₀
      added_within = omega (arith, size, fits, length-drop (added * 6) log, h.room, h.log_long)

      moved : (added + done.added) * 6 ≡ added * 6 + length x.log
      moved = omega (arith, size)

      -- the log, as what was told before, what is told now, and the rest
      parted : back_in log (added * 6) w₁ ≡ (take (added * 6) log ++ x.log) ++ drop (length x.log) (drop (added * 6) log)
      parted =
          back_in_lem log (added * 6) w₁ ∙ ap (λ (r : List ℕ). take (added * 6) log ++ r) d.logged
          ∙ sym (append_assoc (take (added * 6) log) x.log (drop (length x.log) (drop (added * 6) log)))

      told_long : length (take (added * 6) log ++ x.log) ≡ (added + done.added) * 6
      told_long = length-append (take (added * 6) log) x.log ∙ ap (λ (k : ℕ). k + length x.log) front_long ∙ sym moved

      told : take ((added + done.added) * 6) (back_in log (added * 6) w₁) ≡ take (added * 6) log ++ x.log
      told = ap (take ((added + done.added) * 6)) parted ∙ take_at (take (added * 6) log ++ x.log) (drop (length x.log) (drop (added * 6) log)) ((added + done.added) * 6) told_long

      still_untold : drop ((added + done.added) * 6) (back_in log (added * 6) w₁) ≡ drop (length x.log) (drop (added * 6) log)
      still_untold = ap (drop ((added + done.added) * 6)) parted ∙ drop_at (take (added * 6) log ++ x.log) (drop (length x.log) (drop (added * 6) log)) ((added + done.added) * 6) told_long

      mesh_left : mesh_of l₁ ≡ x.mesh
      mesh_left = d.buffer.mesh fine

      -- what follows is asked of what this record left, whatever is asked
      pub onward_left : {X : Type 0} (f : Bool → Mesh (Unit {0}) → ℕ → Trace → X)
          → f (holds_mesh l) x.mesh (length (drop (added * 6) log) - length x.log) (trace_of (drop (record_read (drop at s)).length (drop at s)))
          ≡ f (holds_mesh l₁) (mesh_of l₁) (length (drop ((added + done.added) * 6) (back_in log (added * 6) w₁))) (trace_of (drop (at + done.length) s))
      onward_left f =
          let held : holds_mesh l ≡ holds_mesh l₁ = keeps.there fine ∙ sym (d.buffer.holds fine) in
          let room : length rest - length x.log ≡ length (drop ((added + done.added) * 6) (back_in log (added * 6) w₁)) = sym (ap length still_untold ∙ length-drop (length x.log) rest) in
          let trace : drop (record_read here).length here ≡ drop (at + done.length) s = drop-drop (record_read here).length at s ∙ ap (λ (k : ℕ). drop (at + k) s) (sym bytes) in
          let mesh : x.mesh ≡ mesh_of l₁ = sym mesh_left in
          λ i. f (held i) (mesh i) (room i) (trace_of (trace i))

      left_now : behind at (take (added * 6) log) (onward t l (length (drop (added * 6) log)) (drop at s))
          ≡ behind (at + done.length) (take ((added + done.added) * 6) (back_in log (added * 6) w₁)) (onward t l₁ (length (drop ((added + done.added) * 6) (back_in log (added * 6) w₁))) (drop (at + done.length) s))
      left_now =
          let r = onward t l₁ (length (drop ((added + done.added) * 6) (back_in log (added * 6) w₁))) (drop (at + done.length) s) in
          let n = (record_read here).length in
          let place : at + (n + r.at) ≡ at + done.length + r.at = omega (arith, bytes) in
          let joined : take (added * 6) log ++ (x.log ++ r.log) ≡ take ((added + done.added) * 6) (back_in log (added * 6) w₁) ++ r.log =
          sym (append_assoc (take (added * 6) log) x.log r.log) ∙ ap (λ (f : List ℕ). f ++ r.log) (sym told) in
          ap (behind at (take (added * 6) log)) (onward_step t here l (length rest) some_left fine ∙ onward_left (λ held m room tr. behind n x.log (replaying held t m room tr)))
          ∙ (λ i. record { refusal = r.refusal; place = r.place; at = place i; mesh = r.mesh; log = joined i })

      pub one_more : SoFar t s l₀ log₀ l₁ (back_in log (added * 6) w₁) (at + done.length) (added + done.added)
      unfolding mesh_of
      one_more =
          record {
            within = bytes_within;
            room = subst (λ (k : ℕ). (added + done.added) * 6 ≤ k) (sym (log_kept w₁ same)) added_within;
            long = d.buffer.long ∙ h.long;
            log_long = log_kept w₁ same;
            width = ap (λ (m : Mesh (Unit {0})). m.width) mesh_left ∙ keeps.width ∙ h.width;
            height = ap (λ (m : Mesh (Unit {0})). m.height) mesh_left ∙ keeps.height ∙ h.height;
            holds = d.buffer.holds fine ∙ sym (keeps.there fine) ∙ h.holds;
            untold = still_untold ∙ ap (drop (length x.log)) h.untold ∙ drop-drop (length x.log) (added * 6) log₀ ∙ ap (λ (k : ℕ). drop k log₀) (sym moved);
            left = h.left ∙ left_now;
            past = subst (λ (k : ℕ). drop k l₁ ≡ drop k l) (λ i. words_for (h.width i) (h.height i)) d.buffer.past ∙ h.past;
            untouched = λ z. absurd (omega (arith, some_bytes, z));
          }
