-- A chip, and then a mesh, whose links were all set aside.
use Rattle.std.proofs.Common.{◌≡◌, ℕ, suc, ◌+◌, ◌<◌, ◌≤◌, ◌⊎◌, List, [], ◌∷◌, length, get_or, sym, refl, ap, ◌∙◌, subst, inl, inr, arith, lit<}
use Rattle.mesh.specs.Steps.{emptied}
use Rattle.links.specs.Offsets.{state_at, chip_long, chip_place}
use Rattle.links.specs.Words.{link_in, aside_in}
use Rattle.buffer.specs.Layout.{registers_in}
use Rattle.lists.specs.Lists.{put_back}
use Rattle.buffer.specs.ChipWords.{link_words, ChangedBut, from}
use Rattle.buffer.specs.OnePass.{chip_words}
use Rattle.buffer.specs.Aside.{aside_on, ChipAside, AsideUpto}
use Rattle.buffer.specs.Held.{Few}
use Rattle.lists.proofs.Parts.{length_back, part_same, part_before, part_behind, take_before, drop_behind}
use Rattle.buffer.proofs.ChipParts.{order}
use Rattle.buffer.proofs.LinksChanged.{link_long_lem}
use Rattle.buffer.proofs.Asides.{link_aside, aside_held, state_aside}

pub chip_set_aside : (l k : List ℕ) → Few l → ChangedBut aside_on (from 6) l k → ChipAside l k
chip_set_aside l k h u =
    let link : (j : ℕ) → j < 6 → link_in (link_words j k) ≡ emptied (link_in (link_words j l)) =
    λ j hj. ap link_in (u.done j hj (λ h. omega arith)) ∙ link_aside (link_words j l) (link_long_lem j l hj h.long) (h.few j hj) in
    record {
      long = u.long;
      chip = λ i. record {
        registers = registers_in (u.registers i);
        counters = record { count = u.counters i };
        links = link 0 (lit< tt) i ∷ link 1 (lit< tt) i ∷ link 2 (lit< tt) i ∷ link 3 (lit< tt) i ∷ link 4 (lit< tt) i ∷ link 5 (lit< tt) i ∷ [];
      };
      aside = λ j hj. ap aside_in (u.done j hj (λ h. omega arith)) ∙ aside_held (link_words j l) (link_long_lem j l hj h.long) (h.few j hj);
      states = λ j hj. ap (λ (w : List ℕ). get_or w state_at 0) (u.done j hj (λ h. omega arith)) ∙ state_aside (link_words j l) (link_long_lem j l hj h.long) (h.few j hj);
    }

-- ---- chip after chip

pub aside_begin : (n : ℕ) (l : List ℕ) → AsideUpto n 0 l l
aside_begin n l = record { long = refl; head = refl; done = λ c h. absurd (omega arith); todo = λ c h. refl; past = refl }

module _ (n k : ℕ) (before l ys : List ℕ) (fits : chip_place n ≤ length before) (below : k < n) (u : AsideUpto n k before l) (step : ChipAside (chip_words k l) ys) where
  room : chip_place k + chip_long ≤ length l
  room = omega (arith, u.long)

  done_next : (c : ℕ) → c < suc k → ChipAside (chip_words c before) (chip_words c (put_back (chip_place k) chip_long ys l))
  done_next c h = go (order k c)
    where
      go : (k < c) ⊎ ((k ≡ c) ⊎ (c < k)) → ChipAside (chip_words c before) (chip_words c (put_back (chip_place k) chip_long ys l))
      go (inl f) = absurd (omega arith)
      go (inr (inl e)) = subst (λ (m : ℕ). ChipAside (chip_words m before) (chip_words m (put_back (chip_place k) chip_long ys l))) e
          (subst (ChipAside (chip_words k before)) (sym (part_same (chip_place k) chip_long ys l room step.long))
          (subst (λ (w : List ℕ). ChipAside w ys) (u.todo k (omega arith)) step))
      go (inr (inr f)) =
          subst (ChipAside (chip_words c before)) (sym (part_before (chip_place k) chip_long ys l room step.long (chip_place c) chip_long (omega arith))) (u.done c f)

  pub aside_next : AsideUpto n (suc k) before (put_back (chip_place k) chip_long ys l)
  aside_next =
      record {
        long = length_back (chip_place k) chip_long ys l room step.long ∙ u.long;
        head = take_before (chip_place k) chip_long ys l room step.long 6 (omega arith) ∙ u.head;
        done = done_next;
        todo = λ c h. part_behind (chip_place k) chip_long ys l room step.long (chip_place c) chip_long (omega arith) ∙ u.todo c (omega arith);
        past = drop_behind (chip_place k) chip_long ys l room step.long (chip_place n) (omega arith) ∙ u.past;
      }
