-- Packets pushed on the links of a set, lowest first: another link's words stay as they were.
use Rattle.std.proofs.Common.{◌≡◌, ℕ, ◌-◌, ◌<◌, ◌≤◌, Bool, true, false, not, eqb, List, get_or, sym, refl, ap, ◌∙◌, subst, arith, eq-eqb, ne_eqb}
use mathlib.Core.Bool.{false≢true, and-eq-true_iff}
use lib.Bits.{bit_and}
use lib.Count.{count_trailing_zeros}
use Rattle.packet.specs.declared.Packet.{Packet}
use Rattle.steps.specs.declared.Outcome.{Outcome}
use Rattle.steps.specs.Links.{has}
use Rattle.steps.specs.Deciding.{packet_on, leg_packet}
use Rattle.steps.proofs.LowestFirst.{Lowest, lowest_link}
use Rattle.links.specs.Offsets.{held_at}
use Rattle.links.specs.LinkWords.{pushed, pushed_if}
use Rattle.links.proofs.Places.{length_pushed_if, room_first, room_second}
use Rattle.buffer.specs.ChipWords.{changed_on, link_words, pushing, PushFits, sending, Takes, ChangedBut, among}
use Rattle.buffer.proofs.LinksChanged.{Without, link_long_lem, none_among, begin, next}

by_lowest : (n i r : ℕ) → Lowest n i r → Without (among n) i (among r)
by_lowest n i r low =
    record {
      there = low.there;
      others = λ j hj h.
          let both = (and-eq-true_iff (has n j) (not (eqb j i))).0 (sym (low.others j hj) ∙ h) in
          (both.0, λ e. different j e both.1);
      gone = λ j hj out ne h. out (low.others j hj ∙ simp (h, ne_eqb j i ne));
    }
  where
    different : (j : ℕ) → j ≡ i → not (eqb j i) ≡ true → ⊥
    different j e h = false≢true (ap not (sym (eq-eqb j i e)) ∙ h)

-- ---- one set

module _ (set : ℕ) (p : ℕ → Packet) where
  none_pushed : (j : ℕ) (w : List ℕ) → (among set j → ⊥) → pushing set p j w ≡ w
  none_pushed j w out = go (has set j) refl
    where
      go : (b : Bool) → has set j ≡ b → pushed_if b w (p j) ≡ w
      go true e = absurd (out e)
      go false e = refl

  -- all links of the set but the rest have been gone through
  pub record Pushed (rest : ℕ) (before after : List ℕ) : Type 0 where
    pub small : rest < 64
    pub within : (j : ℕ) → j < 6 → among rest j → among set j
    pub changed : ChangedBut (pushing set p) (among rest) before after

  pub none_yet : (l : List ℕ) → PushFits set l → Pushed set l l
  none_yet l f = record {
    small = f.small;
    within = λ j hj h. h;
    changed = begin (pushing set p) (among set) l f.long (λ j hj out. none_pushed j (link_words j l) out);
  }

  module _ (rest : ℕ) (l k : List ℕ) (f : PushFits set l) (u : Pushed rest l k) (some : rest ≡ 0 → ⊥) where
    low : Lowest rest (count_trailing_zeros 32 rest) (bit_and rest (rest - 1))
    low = lowest_link rest u.small some

    pub link_there : count_trailing_zeros 32 rest < 6
    link_there = low.below

    pub link_less : bit_and rest (rest - 1) < rest
    link_less = low.less

    pub link_fits : get_or (link_words (count_trailing_zeros 32 rest) k) held_at 0 ≤ 7
    link_fits =
        subst (λ (w : List ℕ). get_or w held_at 0 ≤ 7) (sym (u.changed.todo (count_trailing_zeros 32 rest) low.below low.there))
        (f.room (count_trailing_zeros 32 rest) low.below (u.within (count_trailing_zeros 32 rest) low.below low.there))

    pub one_pushed : Pushed (bit_and rest (rest - 1)) l (changed_on (λ _ w. pushed w (p (count_trailing_zeros 32 rest))) k (count_trailing_zeros 32 rest))
    one_pushed =
        let i : ℕ = count_trailing_zeros 32 rest in
        let inside : has set i ≡ true = u.within i low.below low.there in
        let without : Without (among rest) i (among (bit_and rest (rest - 1))) = by_lowest rest i (bit_and rest (rest - 1)) low in
        record {
          small = omega (arith, low.less, u.small);
          within = λ j hj h. u.within j hj (without.others j hj h).0;
          changed =
              subst (λ (b : Bool). ChangedBut (pushing set p) (among (bit_and rest (rest - 1))) l (changed_on (λ _ w. pushed_if b w (p i)) k i)) inside
              (next (pushing set p) (among rest) (among (bit_and rest (rest - 1))) i l k low.below without
              (length_pushed_if (has set i) (link_words i l) (p i) ∙ link_long_lem i l low.below f.long)
              u.changed);
        }

-- ---- the packets of step 5 or 7, then the second leg

module _ (l : List ℕ) (o : Outcome) (t : Takes l o) where
  pub packets_fit : PushFits o.sent l
  packets_fit = record { long = t.long; small = t.sent; room = λ i hi h. room_first (link_words i l) o i (link_long_lem i l hi t.long) (t.room i hi) h }

  module _ (k : List ℕ) (u : ChangedBut (pushing o.sent (packet_on o)) (among 0) l k) where
    pub legs_fit : PushFits o.leg_sent k
    legs_fit = record {
      long = u.long;
      small = t.leg_sent;
      room = λ i hi h.
          subst (λ (w : List ℕ). get_or w held_at 0 ≤ 7) (sym (u.done i hi (none_among i hi)))
          (room_second (link_words i l) o i (link_long_lem i l hi t.long) (t.room i hi) h);
    }

    pub both_sent : (m : List ℕ) → ChangedBut (pushing o.leg_sent (λ _. leg_packet o)) (among 0) k m → ChangedBut (sending o) (among 0) l m
    both_sent m v = record {
      long = v.long;
      registers = v.registers ∙ u.registers;
      counters = v.counters ∙ u.counters;
      done = λ j hj out. v.done j hj out ∙ ap (pushing o.leg_sent (λ _. leg_packet o) j) (u.done j hj out);
      todo = λ j hj h. absurd (none_among j hj h);
    }
