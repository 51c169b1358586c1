-- What a pass adds to the counters is what the history counts itself.
use mathlib.Core.Path.{◌≡◌, refl, sym, ap, ◌∙◌}
use mathlib.Core.Bool.{Bool, true, false, cond, ◌&&◌, and-false, false≢true}
use mathlib.Core.List.{List, [], ◌∷◌}
use Prim.Native.Nat.{ℕ, ◌+◌, ◌-◌, ◌/◌, ◌%◌, ◌^◌, ◌<◌}
use native.Mathlib.Omega.{arith}
use lib.Dec.{eqb}
use lib.ListN.{get_or}
use borrow.Author.Tests.{eqb-true}
use Rattle.packet.specs.declared.Packet.{Packet}
use Rattle.packet.specs.Control.{kind_of, mark_of}
use Rattle.packet.specs.Types.{is_mc}
use Rattle.packet.proofs.Types.{mc_marked}
use Rattle.std.specs.Prelude.{Option, Some, None}
use Rattle.tables.specs.Rows.{rows_of, first_match, matched_of, route_for}
use Rattle.tables.specs.Tables.{ChipTables}
use Rattle.tables.specs.Shown.{found_shown}
use Rattle.steps.specs.declared.Outcome.{Outcome}
use Rattle.steps.specs.declared.Setting.{Setting}
use Rattle.steps.specs.declared.Wanted.{Wanted}
use Rattle.steps.specs.Errors.{flag, bad_local, errors_of}
use Rattle.steps.specs.Wants.{wanted_of, kind_wanted, match_wanted}
use Rattle.steps.specs.Deciding.{decided, outcome_of}
use Rattle.kept.specs.Keeping.{drop_count}
use Rattle.kept.specs.Counting.{counts_of, sent_count, delivered, swallowed}
use Rattle.steps.proofs.Flags.{error_flags, without_error}
use Rattle.steps.specs.Links.{has}
use Rattle.links.specs.Link.{idle, is_ready}
use Rattle.mesh.specs.Mesh.{chip_of}
use Rattle.mesh.specs.Weights.{on_chip}
use Rattle.mesh.proofs.SoundChanges.{chip_sound}
use Rattle.mesh.proofs.SoundSteps.{checked}
use Rattle.promises.specs.History.{Passage, Event, packet_passed, registers_emptied, turned}
use Rattle.promises.specs.Told.{EachPass, sum_of, is_miss, own_counts, count_at}
use Rattle.promises.specs.Demand3.{Always, Counts}
use Rattle.promises.proofs.Counted.{counted_at, counts_kept}
use Rattle.promises.proofs.Records.{no_stale_block}
use Rattle.promises.proofs.Runs.{left_after, always_each}
use Rattle.promises.proofs.Weighs.{chip_holds_sent}

-- ---- the local miss

module _ (q : Packet) (s : ℕ) (tables : ChipTables) (t : Setting) where
  abbrev errors : ℕ
  errors = errors_of q s t.phase

  missed_row : (f : Option ℕ) (mark : ℕ) → (match_wanted (matched_of (rows_of tables.rows) f) mark s t.monitor).missed ≡ flag (eqb s 7 && true && true && eqb (found_shown f).number 0) 1
  missed_row (Some n) mark = simp and-false
  missed_row None mark = go (eqb s 7)
    where
      go : (b : Bool) → (cond {A = Wanted} b (record { set = 2 ^ (6 + t.monitor); missed = 1 }) (record { set = 2 ^ (cond (eqb mark 3) (s + 2) (s + 3) % 6); missed = 0 })).missed
          ≡ flag (b && true && true && true) 1
      go true = refl
      go false = refl

  -- a local packet without error is marked 00
  not_local : errors ≡ 0 → is_mc q.control ≡ true → eqb (mark_of q.control) 2 ≡ true → eqb s 7 ≡ false
  not_local none mc mark = go (eqb s 7) refl
    where
      go : (b : Bool) → eqb s 7 ≡ b → b ≡ false
      go false e = refl
      go true e =
          let two : mark_of q.control ≡ 2 = eqb-true _ _ mark in
          let bad : bad_local q.control s ≡ true = simp (e, mc_marked q.control mc, two) in
          absurd (false≢true (sym (without_error q s t.phase none).local ∙ bad))

  pub missed_own : (wanted_of errors q s tables t).missed ≡ flag (eqb s 7 && is_mc q.control && eqb errors 0 && eqb (found_shown (first_match q.word (rows_of tables.rows))).number 0) 1
  unfolding wanted_of
  missed_own = by_error (eqb errors 0) refl
    where
      row : Bool
      row = eqb (found_shown (first_match q.word (rows_of tables.rows))).number 0

      by_mark : errors ≡ 0 → is_mc q.control ≡ true → (b : Bool) → eqb (mark_of q.control) 2 ≡ b
          → (cond {A = Wanted} b (record { set = 0; missed = 0 }) (match_wanted (matched_of (rows_of tables.rows) (first_match q.word (rows_of tables.rows))) (mark_of q.control) s t.monitor)).missed
          ≡ flag (eqb s 7 && true && true && eqb (found_shown (first_match q.word (rows_of tables.rows))).number 0) 1
      by_mark none mc true mark = simp (not_local none mc mark)
      by_mark none mc false mark = missed_row (first_match q.word (rows_of tables.rows)) (mark_of q.control)

      by_kind : errors ≡ 0 → (b : Bool) → is_mc q.control ≡ b → (kind_wanted (kind_of q.control) q s (route_for q.word (rows_of tables.rows)) tables.codes tables.fixed t).missed ≡ flag (eqb s 7 && is_mc q.control && true && eqb (found_shown (first_match q.word (rows_of tables.rows))).number 0) 1
      by_kind none true mc = simp mc (by_mark none mc (eqb (mark_of q.control) 2) refl)
      by_kind none false other = simp (other, and-false)

      by_error : (b : Bool) → eqb errors 0 ≡ b → (wanted_of errors q s tables t).missed ≡ flag (eqb s 7 && is_mc q.control && eqb errors 0 && eqb (found_shown (first_match q.word (rows_of tables.rows))).number 0) 1
      by_error true e = simp e (by_kind (eqb-true _ _ e) (is_mc q.control) refl)
      by_error false e = simp (e, and-false)

-- ---- packets sent

-- so many more are on the chip's links
abbrev Sent : Passage → Type 0
Sent p = on_chip (λ x. 1) p.left ≡ on_chip (λ x. 1) p.here + sent_count p.outcome

sent_told : Always (λ f s. EachPass Sent s.events)
sent_told =
    always_each Sent (λ t n m a sound codes h.
    ap (on_chip (λ x. 1)) (left_after t n m a sound h)
    ∙ chip_holds_sent _ _ _ _ (checked t m a sound codes h) h.from (turned a.flight.tag) (chip_of m a.chip) (chip_sound sound a.chip h.there).six)

-- ---- all ten

own : (p : Passage) → p.outcome ≡ outcome_of p.arrival.flight.packet p.arrival.source p.tables p.setting → Sent p → counts_of p.outcome ≡ own_counts p
unfolding outcome_of decided
own p e more =
    let q = p.arrival.flight.packet in
    let s = p.arrival.source in
    let errors_are : p.outcome.errors ≡ errors_of q s p.setting.phase = ap (λ (o : Outcome). o.errors) e in
    let b = error_flags q s p.setting.phase in
    let miss : p.outcome.missed ≡ flag (is_miss p) 1 =
    ap (λ (o : Outcome). o.missed) e ∙ missed_own q s p.tables p.setting
    ∙ ap (λ (n : ℕ). flag (eqb s 7 && is_mc q.control && eqb n 0 && eqb (found_shown (first_match q.word (rows_of p.tables.rows))).number 0) 1) (sym errors_are) in
    let sent : sent_count p.outcome ≡ on_chip (λ x. 1) p.left - on_chip (λ x. 1) p.here = omega (arith, more) in
    λ i. 1 ∷ (ap (λ (n : ℕ). n % 2) errors_are ∙ b.0) i ∷ (ap (λ (n : ℕ). n / 2 % 2) errors_are ∙ b.1) i ∷ (ap (λ (n : ℕ). n / 4 % 2) errors_are ∙ b.2) i
    ∷ (ap (λ (n : ℕ). n / 8 % 2) errors_are ∙ b.3) i
    ∷ sent i
    ∷ delivered p.outcome
    ∷ drop_count p.outcome
    ∷ swallowed p.outcome
    ∷ miss i
    ∷ []

sum_own : (chip k : ℕ) (es : List Event)
    → EachPass (λ p. (p.outcome ≡ outcome_of p.arrival.flight.packet p.arrival.source p.tables p.setting) × ((i : ℕ) → i < 6 → has p.setting.ready i ≡ is_ready (get_or p.here.links i idle))) es
    → EachPass Sent es
    → sum_of (counted_at chip k) es ≡ sum_of (count_at chip k) es
unfolding sum_of EachPass
sum_own chip k [] h more = refl
sum_own chip k (packet_passed p ∷ es) h more =
    λ i. cond (eqb p.arrival.chip chip) (get_or (own p h.0.0 more.0 i) k 0) 0 + sum_own chip k es h.1 more.1 i
sum_own chip k (registers_emptied c ∷ es) h more = sum_own chip k es h more

pub counts_told : Counts
counts_told w h f monitor opens cs chip k c i =
    counts_kept w h f monitor opens cs chip k c i ∙ ap (λ (n : ℕ). n % 2 ^ 32) (sum_own chip k _ (no_stale_block w h f monitor opens cs) (sent_told w h f monitor opens cs))
