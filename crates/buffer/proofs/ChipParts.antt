-- A chip's words with one part changed: its registers, its counters or one of its links.
use Rattle.std.proofs.Common.{◌≡◌, ℕ, zero, suc, ◌+◌, ◌<◌, ◌≤◌, ◌⊎◌, List, [], ◌∷◌, length, get_or, set, sym, refl, ap, ◌∙◌, subst, inl, inr, arith, lit<, length-set, get_or-set_other, get_or-set_same}
use native.Mathlib.Decide.{dec_lt}
use Rattle.kept.specs.declared.Registers.{Registers}
use Rattle.lists.proofs.Six.{six}
use Rattle.links.specs.Offsets.{width_at, height_at, rounds_at, monitor_at, phase_at, elapsed_at, link_long, registers_long, counters_long, counters_at, chip_long, link_place}
use Rattle.links.specs.Link.{Link, idle}
use Rattle.lists.specs.Lists.{part, put_back}
use Rattle.links.specs.Words.{link_in}
use Rattle.mesh.specs.Mesh.{Chip}
use Rattle.buffer.specs.Layout.{registers_in, register_words, chip_in}
use Rattle.buffer.specs.ChipWords.{link_words}
use Rattle.lists.proofs.Parts.{part_same, part_before, part_behind}

abbrev pub link_put : Chip (Unit {0}) → ℕ → Link (Unit {0}) → Chip (Unit {0})
link_put c i x = record { registers = c.registers; counters = c.counters; links = set c.links i x }

-- two numbers, one below the other or equal
-- registers put into words are there
pub registers_back : (r : Registers) → registers_in (register_words r) ≡ r
registers_back r = refl

pub order : (i j : ℕ) → (i < j) ⊎ ((i ≡ j) ⊎ (j < i))
order i j = go (dec_lt i j) (dec_lt j i)
  where
    go : Dec (i < j) → Dec (j < i) → (i < j) ⊎ ((i ≡ j) ⊎ (j < i))
    go (yes h) d = inl h
    go (no h) (yes k) = inr (inr k)
    go (no h) (no k) = inr (inl (omega arith))

abbrev pub links_of_lem : List ℕ → List (Link (Unit {0}))
links_of_lem l = (chip_in l).links

pub link_at : (j : ℕ) → j < 6 → (l : List ℕ) → get_or (links_of_lem l) j idle ≡ link_in (link_words j l)
link_at zero h l = refl
link_at (suc zero) h l = refl
link_at (suc (suc zero)) h l = refl
link_at (suc (suc (suc zero))) h l = refl
link_at (suc (suc (suc (suc zero)))) h l = refl
link_at (suc (suc (suc (suc (suc zero))))) h l = refl
link_at (suc (suc (suc (suc (suc (suc j)))))) h l = absurd (omega arith)

module _ (i : ℕ) (hi : i < 6) (ys l : List ℕ) (long : length l ≡ chip_long) (sized : length ys ≡ link_long) where
  back : List ℕ
  back = put_back (link_place i) link_long ys l

  fits : link_place i + link_long ≤ length l
  fits = omega arith

  -- the words of every link after one of them has changed
  pub words_other : (j : ℕ) → (i ≡ j → ⊥) → link_words j (put_back (link_place i) link_long ys l) ≡ link_words j l
  words_other j d = go (order i j)
    where
      go : (i < j) ⊎ ((i ≡ j) ⊎ (j < i)) → link_words j (put_back (link_place i) link_long ys l) ≡ link_words j l
      go (inl h) = part_behind (link_place i) link_long ys l fits sized (link_place j) link_long (omega arith)
      go (inr (inl h)) = absurd (d h)
      go (inr (inr h)) = part_before (link_place i) link_long ys l fits sized (link_place j) link_long (omega arith)

  pub words_same : link_words i (put_back (link_place i) link_long ys l) ≡ ys
  words_same = part_same (link_place i) link_long ys l fits sized

  link_of_lem : (j : ℕ) → j < 6 → link_in (link_words j (put_back (link_place i) link_long ys l)) ≡ get_or (set (links_of_lem l) i (link_in ys)) j idle
  link_of_lem j hj = go (order i j)
    where
      other : (i ≡ j → ⊥) → link_in (link_words j (put_back (link_place i) link_long ys l)) ≡ get_or (set (links_of_lem l) i (link_in ys)) j idle
      other d = ap link_in (words_other j d) ∙ sym (get_or-set_other (links_of_lem l) i j (link_in ys) idle (λ e. d (sym e)) ∙ link_at j hj l)

      go : (i < j) ⊎ ((i ≡ j) ⊎ (j < i)) → link_in (link_words j (put_back (link_place i) link_long ys l)) ≡ get_or (set (links_of_lem l) i (link_in ys)) j idle
      go (inl h) = other (λ e. omega arith)
      go (inr (inl h)) = subst (λ (k : ℕ). link_in (link_words k (put_back (link_place i) link_long ys l)) ≡ get_or (set (links_of_lem l) i (link_in ys)) k idle) h
          (ap link_in words_same ∙ sym (get_or-set_same (links_of_lem l) i (link_in ys) idle hi))
      go (inr (inr h)) = other (λ e. omega arith)

  -- a chip with one link's words changed is the chip with that link changed
  all_links : links_of_lem (put_back (link_place i) link_long ys l) ≡ set (links_of_lem l) i (link_in ys)
  all_links =
      (λ k. link_of_lem width_at (lit< tt) k ∷ link_of_lem height_at (lit< tt) k ∷ link_of_lem rounds_at (lit< tt) k ∷ link_of_lem monitor_at (lit< tt) k ∷ link_of_lem phase_at (lit< tt) k ∷ link_of_lem elapsed_at (lit< tt) k ∷ [])
      ∙ sym (six idle (set (links_of_lem l) i (link_in ys)) (length-set (links_of_lem l) i (link_in ys)))

  pub chip_link : chip_in (put_back (link_place i) link_long ys l) ≡ link_put (chip_in l) i (link_in ys)
  chip_link =
      let r : part 0 registers_long (put_back (link_place i) link_long ys l) ≡ part 0 registers_long l = part_before (link_place i) link_long ys l fits sized 0 registers_long (omega arith) in
      let c : part counters_at counters_long (put_back (link_place i) link_long ys l) ≡ part counters_at counters_long l = part_before (link_place i) link_long ys l fits sized counters_at counters_long (omega arith) in
      λ k. record { registers = registers_in (r k); counters = record { count = c k }; links = all_links k }
