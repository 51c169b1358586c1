-- A buffer holds a mesh exactly when its mesh is sound, its link states are in range and it is long enough.
use Rattle.std.proofs.Common.{◌≡◌, ℕ, zero, suc, ◌+◌, ◌<◌, ◌≤◌, Bool, true, ◌&&◌, ltb, leb, List, length, get_or, drop, sym, refl, ap, subst, arith, lit<, ltb-true, lt-ltb, le-leb, leb-true}
use mathlib.Core.Bool.{and-eq-true_iff}
use Rattle.lists.proofs.Bools.{together}
use Rattle.tables.specs.Sizes.{size_fine}
use Rattle.links.specs.Offsets.{width_at, height_at, rounds_at, monitor_at, phase_at, elapsed_at, header_long, state_at, held_at, places_at, place_long, registers_long}
use Rattle.links.specs.Link.{Flight, idle}
use Rattle.lists.specs.Lists.{part, All}
use Rattle.links.specs.Words.{packet_in, places_in, link_in}
use Rattle.buffer.specs.Layout.{registers_in, chip_in, chips_in, mesh_of, chips_of, words_of}
use Rattle.buffer.specs.ChipWords.{link_words}
use Rattle.buffer.specs.OnePass.{chip_words}
use Rattle.mesh.specs.Sound.{packet_fine, registers_fine, SoundPacket, SoundLink, SoundChip, SoundMesh}
use Rattle.buffer.specs.Holding.{places_fine, link_fine, chip_fine, chips_fine, head_fine, holds_mesh, StatesFine}
use Rattle.mesh.specs.Mesh.{rounds_fine}
use Rattle.links.proofs.Places.{length_places}
use Rattle.buffer.proofs.ChipParts.{link_at}
use Rattle.lists.proofs.Alls.{all_get_d}
use Rattle.buffer.proofs.HoldsMesh.{holds_head, words_enough, holds_chips, chip_held, link_held, registers_held}

-- ---- the packets of a link

places_sound : (n : ℕ) (l : List ℕ) → places_fine n l ≡ true → All (λ (f : Flight (Unit {0})). SoundPacket f.packet) (places_in n l)
unfolding All places_fine places_in
places_sound zero l h = tt
places_sound (suc n) l h =
    let t = (and-eq-true_iff (packet_fine (packet_in l)) (places_fine n (drop place_long l))).0 h in
    (record { fine = t.0; right = refl }, places_sound n (drop place_long l) t.1)

sound_places : (n : ℕ) (l : List ℕ) → All (λ (f : Flight (Unit {0})). SoundPacket f.packet) (places_in n l) → places_fine n l ≡ true
unfolding All places_fine places_in
sound_places zero l h = refl
sound_places (suc n) l h = together h.0.fine (sound_places n (drop place_long l) h.1)

-- ---- a link

state_fine : (l : List ℕ) → link_fine l ≡ true → get_or l state_at 0 ≤ 1
state_fine l h = let t : _ = simp and-eq-true_iff at h in leb-true _ _ t.0.0

link_sound : (l : List ℕ) → link_fine l ≡ true → SoundLink (link_in l)
link_sound l h =
    let t : _ = simp and-eq-true_iff at h in
    record { few = subst (λ (n : ℕ). n ≤ 8) (sym (length_places (get_or l held_at 0) (drop places_at l))) (leb-true _ _ t.0.1); fine = places_sound (get_or l held_at 0) (drop places_at l) t.1 }

sound_link : (l : List ℕ) → get_or l state_at 0 ≤ 1 → SoundLink (link_in l) → link_fine l ≡ true
sound_link l state h =
    together (together (le-leb _ _ state) (le-leb _ _ (subst (λ (n : ℕ). n ≤ 8) (length_places (get_or l held_at 0) (drop places_at l)) h.few)))
    (sound_places (get_or l held_at 0) (drop places_at l) h.fine)

-- ---- a chip

-- a test and six more, one for each link
all_tests : (a : Bool) (f : ℕ → Bool) → a ≡ true → ((j : ℕ) → j < 6 → f j ≡ true) → (a && f 0 && f 1 && f 2 && f 3 && f 4 && f 5) ≡ true
all_tests a f h k = simp (h, k 0 (lit< tt), k 1 (lit< tt), k 2 (lit< tt), k 3 (lit< tt), k 4 (lit< tt), k 5 (lit< tt))

chip_sound : (l : List ℕ) → chip_fine l ≡ true → SoundChip (chip_in l)
unfolding All
chip_sound l h =
    record {
      six = refl;
      registers = registers_held l h;
      links = (link 0 (lit< tt), (link 1 (lit< tt), (link 2 (lit< tt), (link 3 (lit< tt), (link 4 (lit< tt), (link 5 (lit< tt), tt))))));
    }
  where
    link : (j : ℕ) → j < 6 → SoundLink (link_in (link_words j l))
    link j hj = link_sound (link_words j l) (link_held l h j hj)

sound_chip : (l : List ℕ) → ((j : ℕ) → j < 6 → get_or (link_words j l) state_at 0 ≤ 1) → SoundChip (chip_in l) → chip_fine l ≡ true
sound_chip l states h =
    all_tests (registers_fine (registers_in (part 0 registers_long l))) (λ i. link_fine (link_words i l)) h.registers
    (λ j hj. sound_link (link_words j l) (states j hj) (subst SoundLink (link_at j hj l) (all_get_d SoundLink (chip_in l).links j idle h.links hj)))

-- ---- the chips from number c on

chips_sound : (n c : ℕ) (l : List ℕ) → chips_fine c n l ≡ true → All SoundChip (chips_in c n l)
unfolding All chips_fine chips_in
chips_sound zero c l h = tt
chips_sound (suc n) c l h =
    let t = (and-eq-true_iff (chip_fine (chip_words c l)) (chips_fine (suc c) n l)).0 h in
    (chip_sound (chip_words c l) t.0, chips_sound n (suc c) l t.1)

sound_chips : (n c : ℕ) (l : List ℕ) → ((k j : ℕ) → k < c + n → j < 6 → get_or (link_words j (chip_words k l)) state_at 0 ≤ 1) → All SoundChip (chips_in c n l) → chips_fine c n l ≡ true
unfolding All chips_fine chips_in
sound_chips zero c l states h = refl
sound_chips (suc n) c l states h =
    together (sound_chip (chip_words c l) (λ j hj. states c j (omega arith) hj) h.0) (sound_chips n (suc c) l (λ k j hk hj. states k j (omega arith) hj) h.1)

length_chips : (n c : ℕ) (l : List ℕ) → length (chips_in c n l) ≡ n
unfolding chips_in
length_chips zero c l = refl
length_chips (suc n) c l = ap suc (length_chips n (suc c) l)

-- ---- the whole buffer

-- five tests, one by one
five_tests : (a b c d e : Bool) → (a && b && c && d && e) ≡ true → (a ≡ true) × (b ≡ true) × (c ≡ true) × (d ≡ true) × (e ≡ true)
five_tests a b c d e h = let t : _ = simp and-eq-true_iff at h in (t.0.0.0.0, t.0.0.0.1, t.0.0.1, t.0.1, t.1)

module _ (l : List ℕ) where
  pub holds_states : holds_mesh l ≡ true → StatesFine l
  holds_states h c j hc hj =
      state_fine (link_words j (chip_words c l)) (link_held (chip_words c l) (chip_held l h c hc) j hj)

  pub holds_sound : holds_mesh l ≡ true → SoundMesh (mesh_of l)
  unfolding mesh_of
  holds_sound h =
      let t = five_tests (size_fine (get_or l width_at 0) (get_or l height_at 0)) (rounds_fine (get_or l rounds_at 0)) (leb (get_or l monitor_at 0) 19) (leb (get_or l phase_at 0) 3) (ltb (get_or l elapsed_at 0) (get_or l rounds_at 0)) (holds_head l h) in
      record {
        size = t.0;
        rounds = t.1;
        monitor = leb-true _ _ t.2;
        phase = leb-true _ _ t.3;
        elapsed = ltb-true _ _ t.4;
        many = length_chips (chips_of l) 0 l;
        chips = chips_sound (chips_of l) 0 l (holds_chips l h);
      }

  pub sound_holds : SoundMesh (mesh_of l) → StatesFine l → words_of l ≤ length l → holds_mesh l ≡ true
  unfolding mesh_of
  sound_holds sound states long = together (together (together (le-leb header_long (length l) (omega arith)) head) (le-leb _ _ long)) chips
    where
      head : head_fine l ≡ true
      head = together (together (together (together sound.size sound.rounds) (le-leb _ _ sound.monitor)) (le-leb _ _ sound.phase)) (lt-ltb _ _ sound.elapsed)

      chips : chips_fine 0 (chips_of l) l ≡ true
      chips = sound_chips (chips_of l) 0 l (λ c j hc hj. states c j (omega arith) hj) sound.chips

-- a buffer that held a mesh and now has another, sound, in as many words, holds it
pub still_holds : (l l' : List ℕ) → holds_mesh l ≡ true → length l' ≡ length l → words_of l' ≡ words_of l → SoundMesh (mesh_of l') → StatesFine l' → holds_mesh l' ≡ true
still_holds l l' h long words sound states = sound_holds l' sound states (omega (arith, long, words, words_enough l h))
