-- A chip's words while its links are being changed, one after the other; and what the chip is once a pass has been put into all six.
use Rattle.std.proofs.Common.{◌≡◌, ℕ, suc, ◌+◌, ◌<◌, ◌≤◌, not, ◌⊎◌, List, [], ◌∷◌, length, drop, sym, refl, ap, ◌∙◌, subst, inl, inr, arith, lit<, length-drop, length-take-le}
use mathlib.Core.Bool.{false≢true}
use Rattle.packet.proofs.Small.{every, at}
use Rattle.steps.specs.declared.Outcome.{Outcome}
use Rattle.steps.specs.Links.{has}
use Rattle.kept.specs.Keeping.{kept_of}
use Rattle.kept.specs.Counting.{counted_of}
use Rattle.links.specs.Offsets.{link_long, registers_long, counters_long, counters_at, chip_long, link_place}
use Rattle.links.specs.Link.{link_after}
use Rattle.lists.specs.Lists.{part, put_back}
use Rattle.links.specs.Words.{link_in}
use Rattle.links.specs.LinkWords.{sent_words, Room, still}
use Rattle.mesh.specs.Steps.{links_after}
use Rattle.buffer.specs.Layout.{registers_in, register_words}
use Rattle.buffer.specs.ChipWords.{changed_on, sending, link_words, Takes, ChipStep, ChangedBut, from, among}
use Rattle.lists.proofs.Parts.{length_back, part_same, part_before, part_behind}
use Rattle.buffer.proofs.ChipParts.{registers_back, order, words_other, words_same}
use Rattle.links.proofs.Places.{link_sent, still_sent}

pub link_long_lem : (j : ℕ) (l : List ℕ) → j < 6 → length l ≡ chip_long → length (link_words j l) ≡ link_long
link_long_lem j l h k = length-take-le link_long (drop (link_place j) l) (simp length-drop (omega arith))

-- of two rests, the second is the first without k
pub record Without (rest : ℕ → Type 0) (k : ℕ) (rest' : ℕ → Type 0) : Type 0 where
  pub there : rest k
  pub others : (j : ℕ) → j < 6 → rest' j → rest j × (j ≡ k → ⊥)
  pub gone : (j : ℕ) → j < 6 → (rest' j → ⊥) → (j ≡ k → ⊥) → rest j → ⊥

-- no link is in the empty set
pub none_among : (j : ℕ) → j < 6 → among 0 j → ⊥
unfolding every
none_among j h e = false≢true (ap not (sym e) ∙ at 6 (λ i. not (has 0 i)) refl j h)

pub by_number : (k : ℕ) → Without (from k) k (from (suc k))
by_number k = record { there = omega arith; others = λ j hj h. (omega arith, λ e. omega arith); gone = λ j hj out ne h. out (omega arith) }

module _ (f : ℕ → List ℕ → List ℕ) where
  -- no link yet: those that are not in the rest have nothing to change
  pub begin : (rest : ℕ → Type 0) (l : List ℕ) → length l ≡ chip_long → ((j : ℕ) → j < 6 → (rest j → ⊥) → f j (link_words j l) ≡ link_words j l) → ChangedBut f rest l l
  begin rest l h same = record { long = h; registers = refl; counters = refl; done = λ j hj out. sym (same j hj out); todo = λ j hj g. refl }

  -- one link more
  pub next : (rest rest' : ℕ → Type 0) (k : ℕ) (before l : List ℕ) → k < 6 → Without rest k rest' → length (f k (link_words k before)) ≡ link_long → ChangedBut f rest before l
      → ChangedBut f rest' before (changed_on f l k)
  next rest rest' k before l hk w sized u =
      record {
        long = length_back (link_place k) link_long ys l fits long ∙ u.long;
        registers = part_before (link_place k) link_long ys l fits long 0 registers_long (omega arith) ∙ u.registers;
        counters = part_before (link_place k) link_long ys l fits long counters_at counters_long (omega arith) ∙ u.counters;
        done = finished;
        todo = λ j hj h. words_other k hk ys l u.long long j (λ e. (w.others j hj h).1 (sym e)) ∙ u.todo j hj (w.others j hj h).0;
      }
    where
      same : link_words k l ≡ link_words k before
      same = u.todo k hk w.there

      ys : List ℕ
      ys = f k (link_words k l)

      long : length (f k (link_words k l)) ≡ link_long
      long = ap (λ (w : List ℕ). length (f k w)) same ∙ sized

      fits : link_place k + link_long ≤ length l
      fits = omega (arith, u.long)

      finished : (j : ℕ) → j < 6 → (rest' j → ⊥) → link_words j (changed_on f l k) ≡ f j (link_words j before)
      finished j hj out = go (order k j)
        where
          other : (j ≡ k → ⊥) → link_words j (changed_on f l k) ≡ f j (link_words j before)
          other ne = words_other k hk ys l u.long long j (λ e. ne (sym e)) ∙ u.done j hj (w.gone j hj out ne)

          go : (k < j) ⊎ ((k ≡ j) ⊎ (j < k)) → link_words j (changed_on f l k) ≡ f j (link_words j before)
          go (inl g) = other (λ e. omega arith)
          go (inr (inl e)) = subst (λ (m : ℕ). link_words m (changed_on f l k) ≡ f m (link_words m before)) e
              (words_same k hk ys l u.long long ∙ ap (f k) same)
          go (inr (inr g)) = other (λ e. omega arith)

-- a chip after a pass: registers and counters first, then all six links
module _ (l ws cs : List ℕ) (o : Outcome) (h : length l ≡ chip_long) (lw : length ws ≡ registers_long) (lc : length cs ≡ counters_long) where
  fits₀ : 0 + registers_long ≤ length l
  fits₀ = omega arith

  longer : length (put_back 0 registers_long ws l) ≡ chip_long
  longer = length_back 0 registers_long ws l fits₀ lw ∙ h

  fits₁ : counters_at + counters_long ≤ length (put_back 0 registers_long ws l)
  fits₁ = omega (arith, longer)

  pub after_long : length (put_back counters_at counters_long cs (put_back 0 registers_long ws l)) ≡ chip_long
  after_long = length_back counters_at counters_long cs (put_back 0 registers_long ws l) fits₁ lc ∙ longer

  untouched : (j : ℕ) → link_words j (put_back counters_at counters_long cs (put_back 0 registers_long ws l)) ≡ link_words j l
  untouched j = part_behind counters_at counters_long cs (put_back 0 registers_long ws l) fits₁ lc (link_place j) link_long (omega arith) ∙ part_behind 0 registers_long ws l fits₀ lw (link_place j) link_long (omega arith)

  -- what the pass asks of the chip it still asks of its links
  pub takes_on : Takes l o → Takes (put_back counters_at counters_long cs (put_back 0 registers_long ws l)) o
  takes_on t =
      record {
        long = after_long;
        sent = t.sent;
        dropped = t.dropped;
        leg_sent = t.leg_sent;
        leg_dropped = t.leg_dropped;
        room = λ i hi. subst (λ (w : List ℕ). Room w o i) (sym (untouched i)) (t.room i hi);
        right = t.right;
        leg = t.leg;
      }

  pub finish : ws ≡ register_words (kept_of (registers_in (part 0 registers_long l)) o) → cs ≡ (counted_of (record { count = part counters_at counters_long (put_back 0 registers_long ws l) }) o).count → Takes l o
      → (k : List ℕ) → ChangedBut (sending o) (among 0) (put_back counters_at counters_long cs (put_back 0 registers_long ws l)) k → ChipStep l k o
  unfolding links_after
  finish ew ec t k u =
      let r : part 0 registers_long k ≡ register_words (kept_of (registers_in (part 0 registers_long l)) o) =
      u.registers ∙ part_before counters_at counters_long cs (put_back 0 registers_long ws l) fits₁ lc 0 registers_long (omega arith) ∙ part_same 0 registers_long ws l fits₀ lw ∙ ew in
      let c : part counters_at counters_long k ≡ (counted_of (record { count = part counters_at counters_long l }) o).count =
      u.counters ∙ part_same counters_at counters_long cs (put_back 0 registers_long ws l) fits₁ lc ∙ ec
      ∙ ap (λ (w : List ℕ). (counted_of (record { count = w }) o).count) (part_behind 0 registers_long ws l fits₀ lw counters_at counters_long (omega arith)) in
      let words : (j : ℕ) → j < 6 → link_words j k ≡ sent_words (link_words j l) o j =
      λ j hj. u.done j hj (none_among j hj) ∙ ap (λ (w : List ℕ). sent_words w o j) (untouched j) in
      let link : (j : ℕ) → j < 6 → link_in (link_words j k) ≡ link_after o tt j (link_in (link_words j l)) =
      λ j hj. ap link_in (words j hj) ∙ link_sent (link_words j l) o j (link_long_lem j l hj h) (t.room j hj) (t.right j hj) (t.leg j hj) in
      record {
        long = u.long;
        chip = λ i. record {
          registers = (ap registers_in r ∙ registers_back _) i;
          counters = record { count = c i };
          links = link 0 (lit< tt) i ∷ link 1 (lit< tt) i ∷ link 2 (lit< tt) i ∷ link 3 (lit< tt) i ∷ link 4 (lit< tt) i ∷ link 5 (lit< tt) i ∷ [];
        };
        still = λ j hj. ap still (words j hj) ∙ still_sent (link_words j l) o j (link_long_lem j l hj h) (t.room j hj);
      }
