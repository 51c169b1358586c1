-- What arrives in a round weighs what was in flight when it began: each link's packets arrive at one chip, by one link.
use mathlib.Core.Path.{◌≡◌, refl, sym, ap, ◌∙◌}
use Prim.Native.Nat.{ℕ, zero, suc, ◌+◌, ◌*◌, ◌≤◌, ◌<◌}
use native.Mathlib.Nat.{add-zero, zero-add}
use native.Mathlib.Omega.{arith}
use lib.ListN.{length, get_or}
use Rattle.lists.proofs.Six.{six}
use Rattle.links.specs.Link.{Flight, idle}
use Rattle.links.specs.Across.{step_east, step_north, across, opposite}
use Rattle.mesh.specs.Mesh.{Chip, Mesh, fresh}
use Rattle.mesh.specs.Steps.{Arrival, arriving_by, arriving_at, arriving_from, arrivals}
use Rattle.lists.specs.Lists.{total}
use Rattle.mesh.specs.Weights.{weight_on, on_chip, on_mesh, in_flight}
use Rattle.lists.proofs.Sums.{sum_to, sum_same, sum_add, sum_first, total_sum, sum_torus}
use Rattle.lists.proofs.Totals.{total_append, total_six, total_map, total_ones}

-- ---- six of one kind

-- six links, one behind another
six_on : (ℕ → ℕ) → ℕ
six_on f = f 0 + (f 1 + (f 2 + (f 3 + (f 4 + f 5))))

six_same : (f g : ℕ → ℕ) → ((s : ℕ) → f s ≡ g s) → six_on f ≡ six_on g
unfolding six_on
six_same f g e = λ i. e 0 i + (e 1 i + (e 2 i + (e 3 i + (e 4 i + e 5 i))))

-- a sum of six is six sums
sum_six : (n : ℕ) (f : ℕ → ℕ → ℕ) → sum_to n (λ (c : ℕ). six_on (f c)) ≡ six_on (λ (s : ℕ). sum_to n (λ (c : ℕ). f c s))
unfolding six_on
sum_six n f =
    let g : ℕ → ℕ → ℕ = λ s c. f c s in
    omega (
      arith,
      sum_add n (g 0) (λ c. g 1 c + (g 2 c + (g 3 c + (g 4 c + g 5 c)))),
      sum_add n (g 1) (λ c. g 2 c + (g 3 c + (g 4 c + g 5 c))),
      sum_add n (g 2) (λ c. g 3 c + (g 4 c + g 5 c)),
      sum_add n (g 3) (λ c. g 4 c + g 5 c),
      sum_add n (g 4) (g 5),
    )

-- the links opposite are the six links
six_opposite : (f : ℕ → ℕ) → six_on (λ (s : ℕ). f (opposite s)) ≡ six_on f
unfolding six_on
six_opposite f = omega arith

-- ---- one mesh

module _ {A : Type 0} (w : Flight A → ℕ) where
  abbrev wa : Arrival A → ℕ
  wa a = w a.flight

  -- what link j of chip k weighs
  on : Mesh A → ℕ → ℕ → ℕ
  on m k j = weight_on w (get_or (get_or m.chips k fresh).links j idle)

  -- what arrives at a chip by a link weighs what the link opposite held, at the chip across
  by_weighs : (m : Mesh A) (c s : ℕ) → total wa (arriving_by m c s) ≡ on m (across m.width m.height c s) (opposite s)
  unfolding on
  by_weighs m c s = total_map wa _ _

  at_weighs : (m : Mesh A) (c : ℕ) → total wa (arriving_at m c) ≡ six_on (λ (s : ℕ). on m (across m.width m.height c s) (opposite s))
  unfolding six_on
  at_weighs m c =
      total_six wa (arriving_by m c 0) (arriving_by m c 1) (arriving_by m c 2) (arriving_by m c 3) (arriving_by m c 4) (arriving_by m c 5)
      ∙ (λ i. by_weighs m c 0 i + (by_weighs m c 1 i + (by_weighs m c 2 i + (by_weighs m c 3 i + (by_weighs m c 4 i + by_weighs m c 5 i)))))

  -- the arrivals of n chips, chip by chip
  from_weighs : (m : Mesh A) (c n : ℕ) → total wa (arriving_from m c n) ≡ sum_to n (λ (k : ℕ). total wa (arriving_at m (c + k)))
  unfolding total arriving_from sum_to
  from_weighs m c zero = refl
  from_weighs m c (suc n) =
      let at : ℕ → ℕ = λ k. total wa (arriving_at m k) in
      total_append wa (arriving_at m c) (arriving_from m (suc c) n)
      ∙ ap (λ (k : ℕ). at c + k) (from_weighs m (suc c) n)
      ∙ ap (λ (k : ℕ). at c + k) (sum_same n (λ k. at (suc c + k)) (λ k. at (c + suc k)) (λ k h. ap at (omega arith)))
      ∙ ap (λ (k : ℕ). at k + sum_to n (λ k. at (c + suc k))) (sym (add-zero c))
      ∙ sym (sum_first n (λ k. at (c + k)))

  -- a chip of six links weighs what they weigh
  chip_weighs : (c : Chip A) → length c.links ≡ 6 → six_on (λ (j : ℕ). weight_on w (get_or c.links j idle)) ≡ on_chip w c
  unfolding six_on total
  chip_weighs c h = omega (arith, ap (total (weight_on w)) (six idle c.links h))

  -- each source's links, summed over the torus: those of the chips across are those of all chips
  links_weigh : (m : Mesh A) → 1 ≤ m.width → 1 ≤ m.height → (s : ℕ)
      → sum_to (m.height * m.width) (λ (c : ℕ). on m (across m.width m.height c s) (opposite s))
      ≡ sum_to (m.height * m.width) (λ (c : ℕ). on m c (opposite s))
  links_weigh m wide high s =
      sum_torus m.width m.height (step_east m.width s) (step_north m.height s) (λ (c : ℕ). on m c (opposite s)) wide high

  -- all arrivals of a round weigh what was in flight
  pub arrivals_weigh : (m : Mesh A) → 1 ≤ m.width → 1 ≤ m.height → length m.chips ≡ m.height * m.width
      → ((k : ℕ) → k < m.height * m.width → length (get_or m.chips k fresh).links ≡ 6)
      → total (λ (a : Arrival A). w a.flight) (arrivals m) ≡ on_mesh w m
  unfolding on
  arrivals_weigh m wide high many links =
      let n : ℕ = m.height * m.width in
      let far : ℕ → ℕ → ℕ = λ c s. on m (across m.width m.height c s) (opposite s) in
      let near : ℕ → ℕ → ℕ = λ c s. on m c (opposite s) in
      from_weighs m 0 n
      ∙ sum_same n _ (λ c. six_on (far c)) (λ c h. ap (λ (k : ℕ). total wa (arriving_at m k)) (zero-add c) ∙ at_weighs m c)
      ∙ sum_six n far
      ∙ six_same (λ s. sum_to n (λ c. far c s)) (λ s. sum_to n (λ c. near c s)) (links_weigh m wide high)
      ∙ sym (sum_six n near)
      ∙ sum_same n (λ c. six_on (near c)) (λ c. on_chip w (get_or m.chips c fresh))
      (λ c h. six_opposite (on m c) ∙ chip_weighs (get_or m.chips c fresh) (links c h))
      ∙ ap (λ (k : ℕ). sum_to k (λ c. on_chip w (get_or m.chips c fresh))) (sym many)
      ∙ sym (total_sum (on_chip w) m.chips fresh)

-- as many arrive as were in flight
pub arrivals_count : {A : Type 0} (m : Mesh A) → 1 ≤ m.width → 1 ≤ m.height → length m.chips ≡ m.height * m.width
    → ((k : ℕ) → k < m.height * m.width → length (get_or m.chips k fresh).links ≡ 6)
    → length (arrivals m) ≡ in_flight m
arrivals_count m wide high many links = sym (total_ones (arrivals m)) ∙ arrivals_weigh (λ f. 1) m wide high many links
