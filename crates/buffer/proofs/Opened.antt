-- A buffer that was opened reads as an open mesh: all links up, nothing in flight, registers and counters at zeros.
use Rattle.std.proofs.Common.{◌≡◌, ℕ, zero, suc, ◌+◌, ◌-◌, ◌*◌, ◌<◌, ◌≤◌, true, List, ◌∷◌, ◌++◌, length, get_or, take, drop, replicate, sym, refl, ap, ◌∙◌, subst, arith, length-append, length-drop, ltb-false}
use lib.ListN.{length-replicate}
use borrow.Author.Tests.{not-false}
use Rattle.packet.specs.Refusal.{first_of}
use Rattle.packet.proofs.First.{none_applies}
use Rattle.mesh.specs.Mesh.{fresh, opened}
use Rattle.lists.specs.Lists.{part}
use Rattle.links.specs.Offsets.{state_at, chip_long, chip_place}
use Rattle.links.specs.Words.{places_in}
use Rattle.buffer.specs.Layout.{chip_in, chips_in, mesh_of, words_for}
use Rattle.buffer.specs.Opening.{open_refusals, opened_words}
use Rattle.buffer.specs.Holding.{holds_mesh, StatesFine}
use Rattle.buffer.specs.ChipWords.{link_words}
use Rattle.buffer.specs.OnePass.{chip_words}
use Rattle.mesh.specs.Sound.{SoundMesh}
use Rattle.mesh.proofs.SoundSteps.{sound_opened}
use Rattle.buffer.proofs.SoundWords.{sound_holds}

take_zeros : (k m : ℕ) (rest : List ℕ) → k ≤ m → take k (replicate m 0 ++ rest) ≡ replicate k 0
take_zeros zero m rest h = refl
take_zeros (suc k) zero rest h = absurd (omega arith)
take_zeros (suc k) (suc m) rest h = ap (λ (l : List ℕ). 0 ∷ l) (take_zeros k m rest (omega arith))

-- a part of a run of zeros
part_zeros : (a k m : ℕ) (rest : List ℕ) → a + k ≤ m → part a k (replicate m 0 ++ rest) ≡ replicate k 0
part_zeros zero k m rest h = take_zeros k m rest (omega arith)
part_zeros (suc a) k zero rest h = absurd (omega arith)
part_zeros (suc a) k (suc m) rest h = part_zeros a k m rest (omega arith)

-- a chip of zeros is a fresh one
fresh_zeros : chip_in (replicate chip_long 0) ≡ fresh
unfolding places_in
fresh_zeros = refl

module _ (w h f m : ℕ) (rest : List ℕ) (total : ℕ) where
  words_zeros : (c : ℕ) → c < total → chip_words c (w ∷ h ∷ f ∷ m ∷ 0 ∷ 0 ∷ replicate (total * chip_long) 0 ++ rest) ≡ replicate chip_long 0
  words_zeros c hc =
      let e : chip_place c ≡ suc (suc (suc (suc (suc (suc (c * chip_long)))))) = omega arith in
      ap (λ (k : ℕ). part k chip_long (w ∷ h ∷ f ∷ m ∷ 0 ∷ 0 ∷ replicate (total * chip_long) 0 ++ rest)) e ∙ part_zeros (c * chip_long) chip_long (total * chip_long) rest (omega arith)

  chips_zeros : (n c : ℕ) → c + n ≤ total → chips_in c n (w ∷ h ∷ f ∷ m ∷ 0 ∷ 0 ∷ replicate (total * chip_long) 0 ++ rest) ≡ replicate n fresh
  unfolding chips_in
  chips_zeros zero c k = refl
  chips_zeros (suc n) c k = λ i. (ap chip_in (words_zeros c (omega arith)) ∙ fresh_zeros) i ∷ chips_zeros n (suc c) (omega arith) i

pub opened_mesh : (l : List ℕ) (w h f m : ℕ) → mesh_of (opened_words l w h f m) ≡ opened w h f m
unfolding mesh_of
opened_mesh l w h f m =
    let chips : chips_in 0 (h * w) (opened_words l w h f m) ≡ replicate (h * w) fresh = chips_zeros w h f m (drop (words_for w h) l) (h * w) (h * w) 0 (omega arith) in
    λ i. record { width = w; height = h; rounds = f; monitor = m; phase = 0; elapsed = 0; chips = chips i }

-- ---- and it holds a mesh

link_zeros : (j : ℕ) → j < 6 → get_or (link_words j (replicate chip_long 0)) state_at 0 ≡ 0
link_zeros zero h = refl
link_zeros (suc zero) h = refl
link_zeros (suc (suc zero)) h = refl
link_zeros (suc (suc (suc zero))) h = refl
link_zeros (suc (suc (suc (suc zero)))) h = refl
link_zeros (suc (suc (suc (suc (suc zero))))) h = refl
link_zeros (suc (suc (suc (suc (suc (suc j)))))) h = absurd (omega arith)

-- "Each buffer left by opening ... holds one".
pub opened_holds : (l : List ℕ) (w h f m : ℕ) → first_of (open_refusals (length l) w h f m) ≡ 0 → holds_mesh (opened_words l w h f m) ≡ true
opened_holds l w h f m none =
    let off = none_applies (open_refusals (length l) w h f m) refl none in
    let states : StatesFine (opened_words l w h f m) =
    λ c j hc hj. omega (arith, ap (λ (x : List ℕ). get_or (link_words j x) state_at 0) (words_zeros w h f m (drop (words_for w h) l) (h * w) c hc) ∙ link_zeros j hj) in
    let enough : words_for w h ≤ length l = ltb-false _ _ off.1.1.1.0 in
    let long : length (replicate (h * w * chip_long) 0 ++ drop (words_for w h) l) ≡ h * w * chip_long + (length l - words_for w h) = simp (length-append, length-replicate, length-drop) in
    sound_holds (opened_words l w h f m)
    (subst SoundMesh (sym (opened_mesh l w h f m)) (sound_opened w h f m (not-false _ off.0) (not-false _ off.1.0) (ltb-false _ _ off.1.1.0)))
    states
    (omega (arith, long))
