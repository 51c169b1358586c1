-- Passes of two packets of types with a mark that are alike but for type, parity bit and words: where they want the same, they do the same. What carries it: every rule but the
-- wanted set asks for mark, stamp, length and parity alone.
use mathlib.Core.Path.{◌≡◌, refl, sym, ap, ◌∙◌, subst}
use mathlib.Core.Bool.{Bool, true, false, cond, ◌&&◌, ◌||◌, not, true≢false, false≢true}
use Prim.Native.Nat.{ℕ, ◌+◌, ◌-◌, ◌^◌, ◌≤◌, ◌<◌}
use native.Mathlib.Omega.{arith}
use lib.Dec.{eqb, ltb, lit<}
use borrow.Author.Tests.{eqb-true}
use Rattle.packet.specs.declared.Packet.{Packet}
use Rattle.packet.specs.Control.{kind_of, mark_of, stamp_of}
use Rattle.packet.specs.Types.{is_mc, is_fixed, is_marked, is_stamped}
use Rattle.packet.specs.Parity.{with_mark, with_stamp}
use Rattle.packet.proofs.Types.{same_marked, mc_marked, fixed_marked, marked_stamped}
use Rattle.packet.proofs.Rewrite.{FieldSet, mark_set, stamp_set}
use Rattle.tables.specs.Rows.{rows_of, route_for}
use Rattle.tables.specs.Shown.{Shown, matched_shown}
use Rattle.tables.specs.Tables.{ChipTables}
use Rattle.steps.specs.declared.Setting.{Setting}
use Rattle.steps.specs.declared.Wanted.{Wanted}
use Rattle.steps.specs.declared.Outcome.{Outcome}
use Rattle.steps.specs.Links.{has, links_of, link, monitor_bit}
use Rattle.steps.specs.Detour.{carry_set, send_set, drop_set, plain_send_set, plain_drop_set}
use Rattle.steps.specs.Errors.{flag, errors_of, stamped_of}
use Rattle.steps.specs.Wants.{wants, fixed_wanted, wanted_of}
use Rattle.steps.specs.Deciding.{decided, outcome_of, mark_on, packet_on, leg_set}
use Rattle.steps.proofs.Stamping.{StampedFrom, stamped}
use Rattle.promises.specs.FixedRoute.{SameMarks, SameWords, SameSets, Each, Alike, KeyAndRowsIgnored, AsMulticast}

-- a new mark, and a new stamp, leave two packets alike
new_mark : (p q : Packet) (m n : ℕ) → p.control < 256 → q.control < 256 → m < 4 → n < 4 → m ≡ n → SameMarks p q → SameMarks (with_mark p m) (with_mark q n)
new_mark p q m n hp hq hm hn e s =
    let f : FieldSet mark_of stamp_of p (with_mark p m) m = mark_set p m hp hm in
    let g : FieldSet mark_of stamp_of q (with_mark q n) n = mark_set q n hq hn in
    record {
      mark = f.new ∙ e ∙ sym g.new;
      stamp = f.beside ∙ s.stamp ∙ sym g.beside;
      carries = f.carries ∙ s.carries ∙ sym g.carries;
      nine = s.nine;
    }

new_stamp : (p q : Packet) (v : ℕ) → p.control < 256 → q.control < 256 → v ≤ 3 → SameMarks p q → SameMarks (with_stamp p v) (with_stamp q v)
new_stamp p q v hp hq small s =
    let f : FieldSet stamp_of mark_of p (with_stamp p v) v = stamp_set p v hp (omega arith) in
    let g : FieldSet stamp_of mark_of q (with_stamp q v) v = stamp_set q v hq (omega arith) in
    record {
      mark = f.beside ∙ s.mark ∙ sym g.beside;
      stamp = f.new ∙ sym g.new;
      carries = f.carries ∙ s.carries ∙ sym g.carries;
      nine = s.nine;
    }

pub on_marked : (o : Outcome) (i : ℕ) → is_marked o.packet.control ≡ true → packet_on o i ≡ with_mark o.packet (mark_on o i)
on_marked o i marked = simp marked

module _ (p q : Packet) (s : ℕ) (a b : ChipTables) (t : Setting) (like : Alike p q t) (mp : is_marked p.control ≡ true) (mq : is_marked q.control ≡ true) where
  same_types : is_marked p.control ≡ is_marked q.control
  same_types = mp ∙ sym mq

  same_stamps : is_stamped p.control ≡ is_stamped q.control
  same_stamps = marked_stamped p.control mp ∙ sym (marked_stamped q.control mq)

  same_errors : errors_of p s t.phase ≡ errors_of q s t.phase
  same_errors i =
      flag (not (like.parity i)) 1 + flag (ltb s 6 && same_stamps i && eqb (like.marks.stamp i) (3 - t.phase)) 2
      + flag (not (eqb (like.marks.carries i) (like.marks.nine i))) 4
      + flag (eqb s 7 && same_types i && not (eqb (like.marks.mark i) 0)) 8

  abbrev ep : ℕ
  ep = errors_of p s t.phase

  abbrev eq : ℕ
  eq = errors_of q s t.phase

  abbrev sp : Packet
  sp = stamped_of p s ep t.phase

  abbrev sq : Packet
  sq = stamped_of q s eq t.phase

  after_p : StampedFrom p sp
  after_p = stamped p s ep t.phase like.one like.phase

  after_q : StampedFrom q sq
  after_q = stamped q s eq t.phase like.other like.phase

  marked_p : is_marked sp.control ≡ true
  marked_p = same_marked _ _ after_p.kind ∙ mp

  marked_q : is_marked sq.control ≡ true
  marked_q = same_marked _ _ after_q.kind ∙ mq

  same_kept : SameMarks sp sq
  same_kept = go (eqb ep 0 && eqb s 7 && is_stamped p.control) (eqb eq 0 && eqb s 7 && is_stamped q.control) (λ i. eqb (same_errors i) 0 && eqb s 7 && same_stamps i)
    where
      go : (x y : Bool) → x ≡ y → SameMarks (cond x (with_stamp p t.phase) p) (cond y (with_stamp q t.phase) q)
      go true true e = new_stamp p q t.phase like.one like.other like.phase like.marks
      go false false e = like.marks
      go true false e = absurd (true≢false e)
      go false true e = absurd (false≢true e)

  marked_p' : is_marked (outcome_of p s a t).packet.control ≡ true
  unfolding outcome_of decided
  marked_p' = marked_p

  marked_q' : is_marked (outcome_of q s b t).packet.control ≡ true
  unfolding outcome_of decided
  marked_q' = marked_q

  kept_alike : SameMarks (outcome_of p s a t).packet (outcome_of q s b t).packet
  unfolding outcome_of decided
  kept_alike = same_kept

  bytes : ((outcome_of p s a t).packet.control < 256) × ((outcome_of q s b t).packet.control < 256)
  unfolding outcome_of decided
  bytes = (after_p.byte, after_q.byte)

  words_alike : SameWords p q → SameWords (outcome_of p s a t).packet (outcome_of q s b t).packet
  unfolding outcome_of decided
  words_alike w = record { word = after_p.word ∙ w.word ∙ sym after_q.word; payload = after_p.payload ∙ w.payload ∙ sym after_q.payload }

  module _ (want : wanted_of ep p s a t ≡ wanted_of eq q s b t) where
    same_leg : leg_set ep sp s ≡ leg_set eq sq s
    same_leg i =
        cond (eqb (same_errors i) 0 && (marked_p ∙ sym marked_q) i && (eqb (same_kept.mark i) 1 || eqb (same_kept.mark i) 2)) (2 ^ link (s + 5)) 0

    same_sets : SameSets (outcome_of p s a t) (outcome_of q s b t)
    unfolding outcome_of decided
    same_sets =
        record {
          errors = same_errors;
          wanted = ap (λ (w : Wanted). w.set) want;
          missed = ap (λ (w : Wanted). w.missed) want;
          sent = λ i. cond ((marked_p ∙ sym marked_q) i) (send_set (links_of (want i).set) t.ready) (plain_send_set (links_of (want i).set) t.ready);
          carried = λ i. cond ((marked_p ∙ sym marked_q) i) (carry_set (links_of (want i).set) t.ready) 0;
          dropped = λ i. cond ((marked_p ∙ sym marked_q) i) (drop_set (links_of (want i).set) t.ready) (plain_drop_set (links_of (want i).set) t.ready);
          leg_sent = λ i. plain_send_set (same_leg i) t.ready;
          leg_dropped = λ i. plain_drop_set (same_leg i) t.ready;
        }

    mark_small : (o : Outcome) (i : ℕ) → mark_on o i < 4
    mark_small o i = go (has o.carried i) (has (links_of o.wanted) i)
      where
        go : (x y : Bool) → cond x (cond y 1 2) 0 < 4
        go true true = lit< tt
        go true false = lit< tt
        go false y = lit< tt

    same_mark : (i : ℕ) → mark_on (outcome_of p s a t) i ≡ mark_on (outcome_of q s b t) i
    same_mark i j = cond (has (same_sets.carried j) i) (cond (has (links_of (same_sets.wanted j)) i) 1 2) 0

    same_packets : Each SameMarks (outcome_of p s a t) (outcome_of q s b t)
    same_packets =
        record {
          kept = kept_alike;
          on_link_lem = λ i h. subst (λ (x : Packet). SameMarks x (packet_on (outcome_of q s b t) i)) (sym (on_marked (outcome_of p s a t) i marked_p'))
              (subst (λ (x : Packet). SameMarks (with_mark (outcome_of p s a t).packet (mark_on (outcome_of p s a t) i)) x) (sym (on_marked (outcome_of q s b t) i marked_q'))
              (new_mark _ _ _ _ bytes.0 bytes.1 (mark_small (outcome_of p s a t) i) (mark_small (outcome_of q s b t) i) (same_mark i) kept_alike));
          leg = new_mark _ _ 3 3 bytes.0 bytes.1 (lit< tt) (lit< tt) refl kept_alike;
        }

    same_words : SameWords p q → Each SameWords (outcome_of p s a t) (outcome_of q s b t)
    same_words w =
        let kept = words_alike w in
        record {
          kept = kept;
          on_link_lem = λ i h. subst (λ (x : Packet). SameWords x (packet_on (outcome_of q s b t) i)) (sym (on_marked (outcome_of p s a t) i marked_p'))
              (subst (λ (x : Packet). SameWords (with_mark (outcome_of p s a t).packet (mark_on (outcome_of p s a t) i)) x) (sym (on_marked (outcome_of q s b t) i marked_q'))
              (record { word = kept.word; payload = kept.payload }));
          leg = record { word = kept.word; payload = kept.payload };
        }

-- ---- what they want

module _ (e : ℕ) (p : Packet) (s : ℕ) (tables : ChipTables) (t : Setting) where
  abbrev pub by_route : Wanted
  by_route = cond (eqb e 0) (wants (fixed_wanted (mark_of p.control) tables.fixed)) (wants (monitor_bit t.monitor))

  pub fixed_wants : is_fixed p.control ≡ true → wanted_of e p s tables t ≡ by_route
  unfolding wanted_of
  fixed_wants fixed = let k : kind_of p.control ≡ 3 = eqb-true _ _ fixed in simp k

  match_wants : is_mc p.control ≡ true → matched_shown (route_for p.word (rows_of tables.rows)) ≡ record { number = 1; value = tables.fixed } → wanted_of e p s tables t ≡ by_route
  unfolding wanted_of
  match_wants mc found =
      let k : kind_of p.control ≡ 0 = eqb-true _ _ mc in
      let n : (matched_shown (route_for p.word (rows_of tables.rows))).number ≡ 1 = ap (λ (x : Shown). x.number) found in
      let v : (matched_shown (route_for p.word (rows_of tables.rows))).value ≡ tables.fixed = ap (λ (x : Shown). x.value) found in
      simp (k, n, v) (go (eqb e 0) (eqb (mark_of p.control) 2))
    where
      go : (x y : Bool) → cond x (cond y (wants 0) (wants tables.fixed)) (wants (monitor_bit t.monitor)) ≡ cond x (wants (cond y 0 tables.fixed)) (wants (monitor_bit t.monitor))
      go true true = refl
      go true false = refl
      go false y = refl

pub key_and_rows_ignored : KeyAndRowsIgnored
key_and_rows_ignored p q s a b t like fp fq fixed =
    let mp = fixed_marked p.control fp in
    let mq = fixed_marked q.control fq in
    let errors = same_errors p q s a b t like mp mq in
    let want : wanted_of (errors_of p s t.phase) p s a t ≡ wanted_of (errors_of q s t.phase) q s b t =
    fixed_wants _ p s a t fp
    ∙ (λ i. cond (eqb (errors i) 0) (wants (fixed_wanted (like.marks.mark i) (fixed i))) (wants (monitor_bit t.monitor)))
    ∙ sym (fixed_wants _ q s b t fq) in
    (same_sets p q s a b t like mp mq want, same_packets p q s a b t like mp mq want)

pub as_multicast : AsMulticast
as_multicast p q s tables t like words mc fixed found =
    let mp = mc_marked p.control mc in
    let mq = fixed_marked q.control fixed in
    let errors = same_errors p q s tables tables t like mp mq in
    let want : wanted_of (errors_of p s t.phase) p s tables t ≡ wanted_of (errors_of q s t.phase) q s tables t =
    match_wants _ p s tables t mc found
    ∙ (λ i. cond (eqb (errors i) 0) (wants (fixed_wanted (like.marks.mark i) tables.fixed)) (wants (monitor_bit t.monitor)))
    ∙ sym (fixed_wants _ q s tables t fixed) in
    (same_sets p q s tables tables t like mp mq want, (same_packets p q s tables tables t like mp mq want, same_words p q s tables tables t like mp mq want words))
