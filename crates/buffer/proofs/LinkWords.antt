-- Where the words of a link stand, and its packets.
use Rattle.std.proofs.Common.{◌≡◌, ℕ, zero, suc, ◌+◌, ◌*◌, ◌<◌, List, get_or, drop, sym, refl, ap, ◌∙◌, arith, get_or-drop, get_or-take, drop-drop}
use Rattle.packet.specs.Control.{carries_of}
use Rattle.links.specs.Offsets.{place_long, link_long, chip_long, chip_place, link_place}
use Rattle.links.specs.Link.{Flight}
use Rattle.links.specs.Words.{packet_in, places_in}
use Rattle.buffer.specs.ChipWords.{link_words}
use Rattle.buffer.specs.OnePass.{chip_words}
use Rattle.links.proofs.Places.{packet_at_lem}

-- a word of a link of a chip
pub word_at : (c j k : ℕ) (l : List ℕ) → j < 6 → k < link_long → get_or (link_words j (chip_words c l)) k 0 ≡ get_or l (chip_place c + link_place j + k) 0
word_at c j k l hj hk =
    get_or-take link_long (drop (link_place j) (chip_words c l)) k 0 hk
    ∙ get_or-drop (link_place j) (chip_words c l) k 0
    ∙ get_or-take chip_long (drop (chip_place c) l) (link_place j + k) 0 (omega arith)
    ∙ get_or-drop (chip_place c) l (link_place j + k) 0
    ∙ ap (λ (i : ℕ). get_or l i 0) (omega arith)

-- a packet in a link of a chip
pub packet_there : (c j k : ℕ) (l : List ℕ) → j < 6 → k + 2 < link_long → packet_in (drop k (link_words j (chip_words c l))) ≡ packet_in (drop (chip_place c + link_place j + k) l)
packet_there c j k l hj hk =
    let w = link_words j (chip_words c l) in
    let e₀ : get_or w k 0 ≡ get_or l (chip_place c + link_place j + k) 0 = word_at c j k l hj (omega arith) in
    let e₁ : get_or w (k + 1) 0 ≡ get_or l (chip_place c + link_place j + k + 1) 0 = word_at c j (k + 1) l hj (omega arith) ∙ ap (λ (i : ℕ). get_or l i 0) (omega arith) in
    let e₂ : get_or w (k + 2) 0 ≡ get_or l (chip_place c + link_place j + k + 2) 0 = word_at c j (k + 2) l hj (omega arith) ∙ ap (λ (i : ℕ). get_or l i 0) (omega arith) in
    packet_at_lem w k ∙ (λ i. record { control = e₀ i; nine = carries_of (e₀ i); word = e₁ i; payload = e₂ i }) ∙ sym (packet_at_lem l (chip_place c + link_place j + k))

-- the packet at one of n places
pub places_at_lem : (n i : ℕ) (w : List ℕ) (d : Flight (Unit {0})) → i < n → get_or (places_in n w) i d ≡ record { packet = packet_in (drop (i * place_long) w); tag = tt }
unfolding places_in
places_at_lem zero i w d h = absurd (omega arith)
places_at_lem (suc n) zero w d h = refl
places_at_lem (suc n) (suc i) w d h =
    let e : place_long + i * place_long ≡ suc i * place_long = omega arith in
    places_at_lem n i (drop place_long w) d (omega arith) ∙ (λ k. record { packet = packet_in ((drop-drop (i * place_long) place_long w ∙ ap (λ (m : ℕ). drop m w) e) k); tag = tt })
