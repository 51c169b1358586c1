-- The tests of a buffer, step by step: what is known of all from those that are still to come.
use Rattle.std.proofs.Common.{◌≡◌, ℕ, suc, ◌+◌, ◌-◌, ◌*◌, ◌<◌, ◌≤◌, true, ◌&&◌, ltb, leb, List, get_or, drop, ap, ◌∙◌, arith, drop-drop}
use mathlib.Core.Bool.{and-eq-true_iff}
use Rattle.tables.specs.Sizes.{size_fine}
use Rattle.lists.specs.Lists.{part}
use Rattle.links.specs.Offsets.{width_at, height_at, rounds_at, monitor_at, phase_at, elapsed_at, places_at, place_long, chip_long, chip_place}
use Rattle.links.specs.Words.{packet_in}
use Rattle.mesh.specs.Sound.{packet_fine}
use Rattle.buffer.specs.Holding.{places_fine, chip_fine, chips_fine, head_fine}
use Rattle.mesh.specs.Mesh.{rounds_fine}

pub places_step : (n i : ℕ) (l : List ℕ) → i < n
    → places_fine (n - i) (drop (places_at + i * place_long) l) ≡ (packet_fine (packet_in (drop (places_at + i * place_long) l)) && places_fine (n - (i + 1)) (drop (places_at + (i + 1) * place_long) l))
unfolding places_fine
places_step n i l h =
    let e : n - i ≡ suc (n - (i + 1)) = omega arith in
    let d : places_at + i * place_long + place_long ≡ places_at + (i + 1) * place_long = omega arith in
    ap (λ (k : ℕ). places_fine k (drop (places_at + i * place_long) l)) e
    ∙ ap (λ (m : List ℕ). packet_fine (packet_in (drop (places_at + i * place_long) l)) && places_fine (n - (i + 1)) m) (drop-drop place_long (places_at + i * place_long) l ∙ ap (λ (k : ℕ). drop k l) d)

pub places_end : (n i : ℕ) (l : List ℕ) → n ≤ i → places_fine (n - i) l ≡ true
unfolding places_fine
places_end n i l h = let e : n - i ≡ 0 = omega arith in ap (λ (k : ℕ). places_fine k l) e

pub chips_step : (n i : ℕ) (l : List ℕ) → i < n → chips_fine i (n - i) l ≡ (chip_fine (part (chip_place i) chip_long l) && chips_fine (i + 1) (n - (i + 1)) l)
unfolding chips_fine
chips_step n i l h =
    let e : n - i ≡ suc (n - (i + 1)) = omega arith in
    let s : suc i ≡ i + 1 = omega arith in
    ap (λ (k : ℕ). chips_fine i k l) e ∙ ap (λ (k : ℕ). chip_fine (part (chip_place i) chip_long l) && chips_fine k (n - (i + 1)) l) s

pub chips_end : (n i c : ℕ) (l : List ℕ) → n ≤ i → chips_fine c (n - i) l ≡ true
unfolding chips_fine
chips_end n i c l h = let e : n - i ≡ 0 = omega arith in ap (λ (k : ℕ). chips_fine c k l) e

-- a header in range has a size in range
pub head_size : (l : List ℕ) → head_fine l ≡ true → size_fine (get_or l width_at 0) (get_or l height_at 0) ≡ true
head_size l e =
    let size = size_fine (get_or l width_at 0) (get_or l height_at 0) in
    let rounds = rounds_fine (get_or l rounds_at 0) in
    let monitor = leb (get_or l monitor_at 0) 19 in
    let phase = leb (get_or l phase_at 0) 3 in
    let a = ((and-eq-true_iff (size && rounds && monitor && phase) (ltb (get_or l elapsed_at 0) (get_or l rounds_at 0))).0 e).0 in
    let b = ((and-eq-true_iff (size && rounds && monitor) phase).0 a).0 in
    let c = ((and-eq-true_iff (size && rounds) monitor).0 b).0 in
    ((and-eq-true_iff size rounds).0 c).0
