-- The link of the opposite number leads back.
use Prim.Native.Nat.{ℕ, zero, suc, ◌+◌, ◌*◌, ◌/◌, ◌%◌, ◌<◌}
use mathlib.Core.Path.{◌≡◌, refl, sym, ap, ◌∙◌}
use mathlib.Core.List.{List, [], ◌∷◌}
use native.Mathlib.Omega.{arith}
use native.Mathlib.Nat.{div-lt_iff_lt-mul, div-add-mod'}
use lib.IntN.{ℤ, pos}
use Rattle.links.specs.Across.{across, opposite}
use Rattle.tree.specs.Way.{turned}
use Rattle.tree.specs.Promises.{chip_after}
use Rattle.tree.proofs.Displaced.{steps_by, move_east, move_north, ends_east, ends_north}

there_and_back : (i : ℕ) → i < 6 → (move_east i (move_east (opposite i) (pos 0)) ≡ pos 0) × (move_north i (move_north (opposite i) (pos 0)) ≡ pos 0)
there_and_back zero h = (refl, refl)
there_and_back (suc zero) h = (refl, refl)
there_and_back (suc (suc zero)) h = (refl, refl)
there_and_back (suc (suc (suc zero))) h = (refl, refl)
there_and_back (suc (suc (suc (suc zero)))) h = (refl, refl)
there_and_back (suc (suc (suc (suc (suc zero))))) h = (refl, refl)
there_and_back (suc (suc (suc (suc (suc (suc i)))))) h = absurd (omega arith)

pub across_back : (w h chip i : ℕ) → chip < suc h * suc w → i < 6 → across (suc w) (suc h) (across (suc w) (suc h) chip i) (opposite i) ≡ chip
unfolding chip_after steps_by
across_back w h chip i there low =
    let some : 0 < suc w = omega arith in
    let high : chip / suc w < suc h = (div-lt_iff_lt-mul some).1 there in
    let both = there_and_back i low in
    let way : List ℕ = i ∷ opposite i ∷ [] in
    let end = across (suc w) (suc h) (across (suc w) (suc h) chip i) (opposite i) in
    let east : end % suc w ≡ chip % suc w =
    ends_east w h chip way ∙ ap (λ (z : ℤ). (chip % suc w + turned (suc w) z) % suc w) both.0 ∙ sym (ends_east w h chip []) in
    let north : end / suc w ≡ chip / suc w =
    ends_north w h chip way high ∙ ap (λ (z : ℤ). (chip / suc w + turned (suc h) z) % suc h) both.1 ∙ sym (ends_north w h chip [] high) in
    sym (div-add-mod' end (suc w)) ∙ (λ k. north k * suc w + east k) ∙ div-add-mod' chip (suc w)
