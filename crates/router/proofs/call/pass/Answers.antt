use mathlib.Core.Path.{sym, ap, ap₂, ◌∙◌}
use Prim.Native.Nat.{ℕ}
use lib.Dec.{eqb}
use Rattle.packet.specs.Bytes.{Taken, as_taken}
use Rattle.packet.proofs.Numbers.{told_taken}
use Rattle.router.proofs.Inputs.{checked_packet, few_at_17}
use Rattle.router.proofs.Shown.{answer_shown, unless, unless_none, unless_sets}
use Rattle.router.specs.Showing.{pass_shown}
use Rattle.router.specs.Call.{place_of, pass_of, answer}
use Rattle.router.proofs.call.pass.Goals as goal

pub outcome_unless-o-requires : goal.outcome_unless-o-requires
outcome_unless-o-requires c = let a = c.args in
    checked_packet a.bytes.now a.source a.tables.now a.t a.room c.checked-taken.result c.checked-taken.ensures

pub place_of-place-requires : goal.place_of-place-requires
place_of-place-requires c = let a = c.args in
    let refusal = sym (ap (λ (x : Taken). x.refusal) c.checked-taken.ensures) ∙ told_taken c.checked-taken.result ∙ sym c.told-refusal.ensures in
    rw c.rows.ensures (λ e. few_at_17 a.bytes.now a.source a.tables.now a.t a.room (refusal ∙ e))

pub shown-requires : goal.shown-requires
shown-requires c = let a = c.args in
    let taken = as_taken c.checked-taken.result in
    let s = unless_sets taken a.source a.tables.now a.t in
    let refusal = told_taken c.checked-taken.result ∙ sym c.told-refusal.ensures in
    rw (c.outcome_unless-o.ensures, sym refusal) (unless_none taken a.source a.tables.now a.t, (s.sent, (s.dropped, s.leg_dropped)))

pub returns : goal.returns
unfolding pass_of
returns c = let a = c.args in
    let taken = as_taken c.checked-taken.result in
    let refusal = told_taken c.checked-taken.result ∙ sym c.told-refusal.ensures in
    c.shown.ensures ∙ ap₂ (pass_shown _) (rw c.rows.ensures at c.place_of-place.ensures) c.outcome_unless-o.ensures
    ∙ ap (λ (n : ℕ). pass_shown n (place_of n a.tables.now.rows) (unless taken a.source a.tables.now a.t (eqb taken.refusal 0))) (sym refusal)
    ∙ answer_shown taken a.source a.tables.now a.t
    ∙ ap (λ (x : Taken). answer x a.source a.tables.now a.t) c.checked-taken.ensures
