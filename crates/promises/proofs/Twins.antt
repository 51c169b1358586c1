-- Passes of two packets that differ at most in mark, parity and the link they came by: where they want the same they do the same. What carries it: parity is the same in both, and what
-- comes by a link is neither stamped nor a bad local one.
use mathlib.Core.Path.{◌≡◌, refl, sym, ap, ◌∙◌}
use mathlib.Core.Bool.{Bool, true, false, cond, ◌&&◌, not, true≢false, false≢true}
use mathlib.Core.Logic.{⊎_elim}
use Prim.Native.Nat.{ℕ, ◌+◌, ◌-◌, ◌^◌, ◌<◌}
use lib.Count.{ones}
use lib.Dec.{eqb, ltb}
use borrow.Author.Tests.{lt-ltb}
use Rattle.packet.specs.declared.Packet.{Packet}
use Rattle.packet.specs.Control.{mark_of}
use Rattle.packet.specs.Types.{is_mc, is_fixed, is_marked}
use Rattle.packet.specs.Parity.{is_odd}
use Rattle.packet.proofs.Types.{same_marked, same_stamped, marked_either}
use Rattle.tables.specs.Rows.{rows_of, route_for}
use Rattle.tables.specs.Shown.{matched_shown}
use Rattle.tables.specs.Tables.{ChipTables}
use Rattle.steps.specs.declared.Setting.{Setting}
use Rattle.steps.specs.declared.Wanted.{Wanted}
use Rattle.steps.specs.declared.Outcome.{Outcome}
use Rattle.steps.specs.Links.{has, links_of, link, monitor_bit}
use Rattle.steps.specs.Detour.{send_set, carry_set, drop_set}
use Rattle.steps.specs.Errors.{flag, errors_of}
use Rattle.steps.specs.Wants.{wants, wanted_of}
use Rattle.steps.specs.Deciding.{decided, outcome_of, mark_on}
use Rattle.kept.specs.declared.Registers.{Registers}
use Rattle.kept.specs.Keeping.{is_empty, drop_count, capped, more_of, with_units, lowest, first_drop, kept_of}
use Rattle.promises.specs.Detoured.{ButForMark, ButForMarkAndSource}
use Rattle.promises.proofs.FixedRoutes.{fixed_wants}
use Rattle.promises.proofs.Detours.{WithDetours, with_detours, not_local, as_it_came}

-- ---- what an MC packet wants that came by a link and is not marked 10: by the rows, or by the default route

module _ (e : ℕ) (p : Packet) (s : ℕ) (tables : ChipTables) (t : Setting) (near : s < 6) (goes : eqb (mark_of p.control) 2 ≡ false) where
  abbrev default : ℕ
  default = link (cond (eqb (mark_of p.control) 3) (s + 2) (s + 3))

  mc_wants : is_mc p.control ≡ true
      → wanted_of e p s tables t
      ≡ cond (eqb e 0)
      (cond (eqb (matched_shown (route_for p.word (rows_of tables.rows))).number 1) (wants (matched_shown (route_for p.word (rows_of tables.rows))).value) (wants (2 ^ default)))
      (wants (monitor_bit t.monitor))
  unfolding wanted_of
  mc_wants mc = simp (mc, goes, not_local s near)

-- ---- two packets

-- packets that differ at most in mark and parity bit, of one parity and of a type with a mark, both come by a link
pub record Twins (p q : Packet) (s s' : ℕ) : Type 0 where
  pub like : ButForMark p q
  pub odd : is_odd p ≡ is_odd q
  pub one : s < 6
  pub other : s' < 6
  pub marked : is_marked p.control ≡ true

-- they want the same where neither is marked 10 and their default routes are the same
pub record SameWay (p q : Packet) (s s' : ℕ) : Type 0 where
  pub one : eqb (mark_of p.control) 2 ≡ false
  pub other : eqb (mark_of q.control) 2 ≡ false
  pub default : link (cond (eqb (mark_of p.control) 3) (s + 2) (s + 3)) ≡ link (cond (eqb (mark_of q.control) 3) (s' + 2) (s' + 3))

module _ (p q : Packet) (s s' : ℕ) (tables : ChipTables) (t : Setting) (twins : Twins p q s s') where
  abbrev o : Outcome
  o = outcome_of p s tables t

  abbrev o' : Outcome
  o' = outcome_of q s' tables t

  pub same_errors : errors_of p s t.phase ≡ errors_of q s' t.phase
  same_errors =
      let here : ltb s 6 ≡ ltb s' 6 = lt-ltb _ _ twins.one ∙ sym (lt-ltb _ _ twins.other) in
      let fine : (eqb s 7 && is_marked p.control && not (eqb (mark_of p.control) 0)) ≡ (eqb s' 7 && is_marked q.control && not (eqb (mark_of q.control) 0)) =
      (λ i. not_local s twins.one i && is_marked p.control && not (eqb (mark_of p.control) 0))
      ∙ (λ i. sym (not_local s' twins.other) i && is_marked q.control && not (eqb (mark_of q.control) 0)) in
      λ i.
      flag (not (twins.odd i)) 1 + flag (here i && same_stamped _ _ twins.like.kind i && eqb (twins.like.stamp i) (3 - t.phase)) 2
      + flag (not (eqb (twins.like.carries i) (twins.like.nine i))) 4 + flag (fine i) 8

  pub marked_q : is_marked q.control ≡ true
  marked_q = sym (same_marked _ _ twins.like.kind) ∙ twins.marked

  pub kept_p : o.packet ≡ p
  kept_p = as_it_came (record { packet = p; source = s; tables = tables; setting = t }) twins.one

  pub kept_q : o'.packet ≡ q
  kept_q = as_it_came (record { packet = q; source = s'; tables = tables; setting = t }) twins.other

  sets_p : WithDetours o t.ready
  sets_p = with_detours (record { packet = p; source = s; tables = tables; setting = t }) (ap (λ (x : Packet). is_marked x.control) kept_p ∙ twins.marked)

  sets_q : WithDetours o' t.ready
  sets_q = with_detours (record { packet = q; source = s'; tables = tables; setting = t }) (ap (λ (x : Packet). is_marked x.control) kept_q ∙ marked_q)

  module _ (way : SameWay p q s s') where
    want : wanted_of (errors_of p s t.phase) p s tables t ≡ wanted_of (errors_of q s' t.phase) q s' tables t
    want =
        ⊎_elim
        (λ (mc : is_mc p.control ≡ true).
        mc_wants _ p s tables t twins.one way.one mc
        ∙ (λ i. cond (eqb (same_errors i) 0)
        (cond (eqb (matched_shown (route_for (twins.like.word i) (rows_of tables.rows))).number 1)
        (wants (matched_shown (route_for (twins.like.word i) (rows_of tables.rows))).value)
        (wants (2 ^ way.default i)))
        (wants (monitor_bit t.monitor)))
        ∙ sym (mc_wants _ q s' tables t twins.other way.other (ap (λ (k : ℕ). eqb k 0) (sym twins.like.kind) ∙ mc)))
        (λ (fixed : is_fixed p.control ≡ true).
        fixed_wants _ p s tables t fixed
        ∙ (λ i. cond (eqb (same_errors i) 0) (wants (cond ((way.one ∙ sym way.other) i) 0 tables.fixed)) (wants (monitor_bit t.monitor)))
        ∙ sym (fixed_wants _ q s' tables t (ap (λ (k : ℕ). eqb k 3) (sym twins.like.kind) ∙ fixed)))
        (marked_either p.control twins.marked)

    pub same_wanted : (o.wanted ≡ o'.wanted) × (o.missed ≡ o'.missed)
    unfolding outcome_of decided
    same_wanted = (ap (λ (w : Wanted). w.set) want, ap (λ (w : Wanted). w.missed) want)

    pub same_sent : o.sent ≡ o'.sent
    same_sent = sets_p.sent ∙ ap (λ (w : ℕ). send_set (links_of w) t.ready) same_wanted.0 ∙ sym sets_q.sent

    same_carried : o.carried ≡ o'.carried
    same_carried = sets_p.carried ∙ ap (λ (w : ℕ). carry_set (links_of w) t.ready) same_wanted.0 ∙ sym sets_q.carried

    pub same_dropped : o.dropped ≡ o'.dropped
    same_dropped = sets_p.dropped ∙ ap (λ (w : ℕ). drop_set (links_of w) t.ready) same_wanted.0 ∙ sym sets_q.dropped

    pub same_mark : (i : ℕ) → mark_on o i ≡ mark_on o' i
    same_mark i j = cond (has (same_carried j) i) (cond (has (links_of (same_wanted.0 j)) i) 1 2) 0

-- ---- error registers

module _ (r : Registers) (o o' : Outcome) (like : ButForMark o.packet o'.packet) (dropped : o.dropped ≡ o'.dropped) (lost : o.leg_dropped ≡ o'.leg_dropped)
    (phase : o.phase ≡ o'.phase)
  where
    count : drop_count o ≡ drop_count o'
    count i = ones (dropped i) + ones (lost i)

    pub kept_alike : ButForMarkAndSource (kept_of r o) (kept_of r o')
    kept_alike = go (eqb (drop_count o) 0) (is_empty r) (eqb (drop_count o') 0) (λ i. eqb (count i) 0)
      where
        go : (x y z : Bool) → x ≡ z
            → ButForMarkAndSource (cond x r (cond y (first_drop o) (with_units r (capped (r.units + drop_count o)))))
            (cond z r (cond y (first_drop o') (with_units r (capped (r.units + drop_count o')))))
        go true y true e = record { kind = refl; stamp = refl; carries = refl; word = refl; payload = refl; link = refl; leg = refl; more = refl; phase = refl; units = refl }
        go false true false e =
            record {
              kind = like.kind;
              stamp = like.stamp;
              carries = like.carries;
              word = like.word;
              payload = like.payload;
              link = λ i. cond (eqb (dropped i) 0) (lowest (lost i)) (lowest (dropped i));
              leg = λ i. cond (eqb (dropped i) 0) 1 0;
              more = λ i. more_of (capped (count i));
              phase = phase;
              units = λ i. capped (count i);
            }
        go false false false e =
            record {
              kind = refl;
              stamp = refl;
              carries = refl;
              word = refl;
              payload = refl;
              link = refl;
              leg = refl;
              more = λ i. more_of (capped (r.units + count i));
              phase = refl;
              units = λ i. capped (r.units + count i);
            }
        go true y false e = absurd (true≢false e)
        go false y true e = absurd (false≢true e)
