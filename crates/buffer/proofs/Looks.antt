-- What a look at a mesh's words finds: a chip's counter, a link.
use Rattle.std.proofs.Common.{◌≡◌, ℕ, ◌+◌, ◌<◌, ◌≤◌, Bool, true, cond, ltb, List, length, get_or, take, drop, sym, refl, ap, ◌∙◌, arith, get_or-drop, get_or-take, take-take, drop-drop, ltb-true, eq-eqb, ne_eqb}
use mathlib.Core.Bool.{and-eq-true_iff}
use borrow.Author.Tests.{not-false}
use Rattle.packet.specs.Refusal.{first_of}
use Rattle.packet.proofs.First.{none_applies}
use Rattle.mesh.specs.Weights.{in_flight}
use Rattle.links.specs.Offsets.{width_at, height_at, rounds_at, monitor_at, phase_at, elapsed_at, link_long, counters_long, counters_at, chip_long, chip_place, link_place}
use Rattle.links.specs.Link.{idle}
use Rattle.lists.specs.Lists.{part}
use Rattle.links.specs.Words.{link_in}
use Rattle.mesh.specs.Mesh.{Chip, fresh, link_of}
use Rattle.buffer.specs.Layout.{mesh_of, chips_of}
use Rattle.buffer.specs.Holding.{holds_mesh}
use Rattle.buffer.specs.ChipWords.{link_words}
use Rattle.buffer.specs.OnePass.{chip_words}
use Rattle.mesh.specs.Refusals.{number_refusals, chip_refusals}
use Rattle.mesh.specs.Looks.{count_read, mesh_read, link_shown, link_read}
use Rattle.lists.proofs.Parts.{take_drop}
use Rattle.buffer.proofs.ChipParts.{link_at}
use Rattle.buffer.proofs.MeshParts.{mesh_chip}
use Rattle.buffer.proofs.HoldsMesh.{words_enough}

-- ---- where no refusal applies

pub record There (l : List ℕ) (chip : ℕ) : Type 0 where
  pub holds : holds_mesh l ≡ true
  pub near : chip < chips_of l
  pub fits : chip_place chip + chip_long ≤ length l

there : (l : List ℕ) (chip : ℕ) → holds_mesh l ≡ true → chip < chips_of l → There l chip
there l chip holds h = record { holds = holds; near = h; fits = omega (arith, words_enough l holds) }

pub chip_there : (l : List ℕ) (chip : ℕ) → first_of (chip_refusals (holds_mesh l) (chips_of l) chip) ≡ 0 → There l chip
chip_there l chip e =
    let off = none_applies (chip_refusals (holds_mesh l) (chips_of l) chip) refl e in
    there l chip (not-false _ off.0) (ltb-true _ _ (not-false _ off.1.0))

pub number_there : (l : List ℕ) (chip number end : ℕ) → first_of (number_refusals (holds_mesh l) (chips_of l) chip number end) ≡ 0 → There l chip × (number < end)
number_there l chip number end e =
    let off = none_applies (number_refusals (holds_mesh l) (chips_of l) chip number end) refl e in
    let both = (and-eq-true_iff (ltb chip (chips_of l)) (ltb number end)).0 (not-false _ off.1.0) in
    (there l chip (not-false _ off.0) (ltb-true _ _ both.0), ltb-true _ _ both.1)

-- ---- what stands there

-- the words of a link, as a part of the whole
pub link_part : (c j : ℕ) (l : List ℕ) → j < 6 → link_words j (chip_words c l) ≡ part (chip_place c + link_place j) link_long l
link_part c j l h =
    take_drop (link_place j) link_long (chip_words c l)
    ∙ ap (drop (link_place j)) (take-take (link_place j + link_long) chip_long (drop (chip_place c) l) (omega arith))
    ∙ sym (take_drop (link_place j) link_long (drop (chip_place c) l))
    ∙ ap (take link_long) (drop-drop (link_place j) (chip_place c) l)

pub link_of_lem : (l : List ℕ) (chip link : ℕ) → chip < chips_of l → link < 6 → link_of (mesh_of l) chip link ≡ link_in (link_words link (chip_words chip l))
link_of_lem l chip link hc hl = ap (λ (c : Chip (Unit {0})). get_or c.links link idle) (mesh_chip l chip hc) ∙ link_at link hl (chip_words chip l)

count_of : (l : List ℕ) (chip k : ℕ) → chip < chips_of l → k < 10 → get_or (get_or (mesh_of l).chips chip fresh).counters.count k 0 ≡ get_or l (chip_place chip + (counters_at + k)) 0
count_of l chip k hc hk =
    ap (λ (c : Chip (Unit {0})). get_or c.counters.count k 0) (mesh_chip l chip hc)
    ∙ get_or-take counters_long (drop counters_at (chip_words chip l)) k 0 hk
    ∙ get_or-drop counters_at (chip_words chip l) k 0
    ∙ get_or-take chip_long (drop (chip_place chip) l) (counters_at + k) 0 (omega arith)
    ∙ get_or-drop (chip_place chip) l (counters_at + k) 0

-- ---- what is answered

module _ (l : List ℕ) (chip number r : ℕ) where
  pub count_refused : r ≡ first_of (number_refusals (holds_mesh l) (chips_of l) chip number 10) → (r ≡ 0 → ⊥)
      → record { refusal = r; count = 0 } ≡ count_read (holds_mesh l) (mesh_of l) chip number
  unfolding mesh_of
  count_refused e some = λ i. record { refusal = e i; count = sym (ap (λ (b : Bool). cond b (get_or (get_or (mesh_of l).chips chip fresh).counters.count number 0) 0) (ne_eqb _ 0 (λ z. some (e ∙ z)))) i }

  pub count_found : r ≡ first_of (number_refusals (holds_mesh l) (chips_of l) chip number 10) → r ≡ 0
      → record { refusal = 0; count = get_or l (chip_place chip + (counters_at + number)) 0 } ≡ count_read (holds_mesh l) (mesh_of l) chip number
  unfolding mesh_of
  count_found e none =
      let zero_now : first_of (number_refusals (holds_mesh l) (chips_of l) chip number 10) ≡ 0 = sym e ∙ none in
      let h = number_there l chip number 10 zero_now in
      λ i. record {
        refusal = sym zero_now i;
        count = (sym (count_of l chip number h.0.near h.1) ∙ sym (ap (λ (b : Bool). cond b (get_or (get_or (mesh_of l).chips chip fresh).counters.count number 0) 0) (eq-eqb _ 0 zero_now))) i;
      }

  pub link_refused : r ≡ first_of (number_refusals (holds_mesh l) (chips_of l) chip number 6) → (r ≡ 0 → ⊥)
      → record { refusal = r; up = 0; held = 0; ready = 0 } ≡ link_read (holds_mesh l) (mesh_of l) chip number
  unfolding mesh_of
  link_refused e some =
      (λ i. record { refusal = e i; up = 0; held = 0; ready = 0 })
      ∙ sym (ap (λ (b : Bool). cond b (link_shown (link_of (mesh_of l) chip number)) (record { refusal = first_of (number_refusals (holds_mesh l) (chips_of l) chip number 6); up = 0; held = 0; ready = 0 })) (ne_eqb _ 0 (λ z. some (e ∙ z))))

  pub link_found : r ≡ first_of (number_refusals (holds_mesh l) (chips_of l) chip number 6) → r ≡ 0
      → link_shown (link_in (part (chip_place chip + link_place number) link_long l)) ≡ link_read (holds_mesh l) (mesh_of l) chip number
  unfolding mesh_of
  link_found e none =
      let zero_now : first_of (number_refusals (holds_mesh l) (chips_of l) chip number 6) ≡ 0 = sym e ∙ none in
      let h = number_there l chip number 6 zero_now in
      ap (λ (w : List ℕ). link_shown (link_in w)) (sym (link_part chip number l h.1)) ∙ ap link_shown (sym (link_of_lem l chip number h.0.near h.1))
      ∙ sym (ap (λ (b : Bool). cond b (link_shown (link_of (mesh_of l) chip number)) (record { refusal = first_of (number_refusals (holds_mesh l) (chips_of l) chip number 6); up = 0; held = 0; ready = 0 })) (eq-eqb _ 0 zero_now))

pub mesh_found : (l : List ℕ) → holds_mesh l ≡ true → (n : ℕ) → n ≡ in_flight (mesh_of l)
    → record { refusal = 0; width = get_or l width_at 0; height = get_or l height_at 0; rounds_per_phase = get_or l rounds_at 0; monitor = get_or l monitor_at 0; phase = get_or l phase_at 0; rounds_in_phase = get_or l elapsed_at 0; in_flight = n } ≡ mesh_read (holds_mesh l) (mesh_of l)
unfolding mesh_of
mesh_found l holds n e = simp (holds, e)
