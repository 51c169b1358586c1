-- The packets in flight, counted by the links' count words.
use Rattle.std.proofs.Common.{◌≡◌, ℕ, suc, ◌+◌, ◌-◌, ◌*◌, ◌<◌, ◌≤◌, true, List, get_or, drop, ap, ◌∙◌, arith, lit<, get_or-drop, get_or-take}
use native.Mathlib.Nat.{sub-zero}
use Rattle.links.specs.Offsets.{held_at, places_at, link_long, link_place}
use Rattle.links.specs.Words.{link_in}
use Rattle.buffer.specs.Layout.{chips_in, mesh_of, chips_of}
use Rattle.buffer.specs.ChipWords.{link_words}
use Rattle.buffer.specs.OnePass.{chip_words}
use Rattle.buffer.specs.Holding.{holds_mesh}
use Rattle.lists.specs.Lists.{total}
use Rattle.mesh.specs.Weights.{weight_on, on_chip, in_flight}
use Rattle.buffer.specs.Held.{chip_flight, Few}
use Rattle.buffer.proofs.HoldsMesh.{few_held}
use Rattle.links.proofs.Places.{length_places}
use Rattle.lists.proofs.Totals.{total_ones}

-- ---- on one chip

word_at : (j : ℕ) (l : List ℕ) → get_or (link_words j l) held_at 0 ≡ get_or l (link_place j + 1) 0
word_at j l = get_or-take link_long (drop (link_place j) l) 1 0 (lit< tt) ∙ get_or-drop (link_place j) l 1 0

link_count : (l : List ℕ) → weight_on (λ f. 1) (link_in l) ≡ get_or l held_at 0
link_count l = total_ones (link_in l).held ∙ length_places (get_or l held_at 0) (drop places_at l)

pub chip_count : (l : List ℕ) → chip_flight l ≡ get_or l (link_place 0 + held_at) 0 + get_or l (link_place 1 + held_at) 0 + get_or l (link_place 2 + held_at) 0 + get_or l (link_place 3 + held_at) 0 + get_or l (link_place 4 + held_at) 0 + get_or l (link_place 5 + held_at) 0
unfolding total
chip_count l =
    let e : (j : ℕ) → weight_on (λ f. 1) (link_in (link_words j l)) ≡ get_or l (link_place j + 1) 0 = λ j. link_count (link_words j l) ∙ word_at j l in
    omega (arith, e 0, e 1, e 2, e 3, e 4, e 5)

-- each of the six words is at most 8, and all together at most 48
pub record Small (l : List ℕ) : Type 0 where
  pub east : get_or l (link_place 0 + held_at) 0 ≤ 8
  pub north_east : get_or l (link_place 1 + held_at) 0 ≤ 8
  pub north : get_or l (link_place 2 + held_at) 0 ≤ 8
  pub west : get_or l (link_place 3 + held_at) 0 ≤ 8
  pub south_west : get_or l (link_place 4 + held_at) 0 ≤ 8
  pub south : get_or l (link_place 5 + held_at) 0 ≤ 8

pub words_small : (l : List ℕ) → Few l → Small l
words_small l h =
    let w : (j : ℕ) → j < 6 → get_or l (link_place j + 1) 0 ≤ 8 = λ j hj. omega (arith, h.few j hj, word_at j l) in
    record {
      east = w 0 (lit< tt);
      north_east = w 1 (lit< tt);
      north = w 2 (lit< tt);
      west = w 3 (lit< tt);
      south_west = w 4 (lit< tt);
      south = w 5 (lit< tt);
    }

pub chip_few : (l : List ℕ) → Few l → chip_flight l ≤ 48
chip_few l h = omega (arith, chip_count l, words_small l h)

-- ---- chip after chip

-- what the n chips from number c on hold
abbrev flight_from : ℕ → ℕ → List ℕ → ℕ
flight_from c n l = total (on_chip (λ f. 1)) (chips_in c n l)

flight_step : (n i : ℕ) (l : List ℕ) → i < n → flight_from i (n - i) l ≡ chip_flight (chip_words i l) + flight_from (i + 1) (n - (i + 1)) l
unfolding total chips_in
flight_step n i l h =
    let e : n - i ≡ suc (n - (i + 1)) = omega arith in
    let s : suc i ≡ i + 1 = omega arith in
    ap (λ (k : ℕ). flight_from i k l) e ∙ ap (λ (k : ℕ). chip_flight (chip_words i l) + flight_from k (n - (i + 1)) l) s

flight_end : (n i : ℕ) (l : List ℕ) → n ≤ i → flight_from i (n - i) l ≡ 0
unfolding total chips_in
flight_end n i l h = let e : n - i ≡ 0 = omega arith in ap (λ (k : ℕ). flight_from i k l) e

flight_all : (l : List ℕ) (n : ℕ) → n ≡ chips_of l → flight_from 0 n l ≡ in_flight (mesh_of l)
unfolding mesh_of
flight_all l n e = ap (λ (k : ℕ). flight_from 0 k l) e

-- A sum over the chips below i: at most 48 a chip, and with what the others hold it is what all hold.
pub record Summed (l : List ℕ) (n i sum : ℕ) : Type 0 where
  pub few : sum ≤ i * 48
  pub all : flight_from 0 n l ≡ sum + flight_from i (n - i) l

pub summed_first : (l : List ℕ) (n : ℕ) → Summed l n 0 0
summed_first l n = record { few = omega arith; all = omega (arith, ap (λ (k : ℕ). flight_from 0 k l) (sub-zero n)) }

module _ (l : List ℕ) (n i sum : ℕ) (count : n ≡ chips_of l) (s : Summed l n i sum) where
  pub summed_next : holds_mesh l ≡ true → (r : ℕ) → i < n → r ≡ chip_flight (chip_words i l) → Summed l n (i + 1) (sum + r)
  summed_next holds r h e =
      let few : chip_flight (chip_words i l) ≤ 48 = chip_few (chip_words i l) (few_held l holds i (omega arith)) in
      record { few = omega arith; all = omega (arith, s.all, flight_step n i l h) }

  pub summed_last : n ≤ i → sum ≡ in_flight (mesh_of l)
  summed_last h = omega (arith, s.all, flight_end n i l h, flight_all l n count)
