-- What was set aside, as it arrives: that passes leave it alone, and that some of it passed and then the next is more of it.
use Rattle.std.proofs.Common.{◌≡◌, ℕ, zero, suc, ◌+◌, ◌-◌, ◌*◌, ◌<◌, ◌≤◌, List, [], ◌∷◌, ◌++◌, map, length, get_or, drop, sym, refl, ap, ◌∙◌, subst, arith, lit<, length-append, get_or-drop, drop-drop}
use lib.ListN.{length-map, get_or-map}
use Rattle.packet.specs.declared.Packet.{Packet}
use Rattle.links.specs.Offsets.{width_at, height_at, held_at, place_long, depth, aside_at, aside_places_at, chip_place, link_place}
use Rattle.links.specs.Link.{Flight}
use Rattle.links.specs.Across.{across, opposite}
use Rattle.links.specs.Words.{aside_place, packet_in, places_in, aside_in}
use Rattle.links.specs.LinkWords.{still}
use Rattle.buffer.specs.Layout.{chips_of, words_of}
use Rattle.mesh.specs.Steps.{Arrival, Going}
use Rattle.buffer.specs.ChipWords.{link_words}
use Rattle.buffer.specs.OnePass.{chip_words}
use Rattle.mesh.specs.Sound.{Arrives}
use Rattle.buffer.specs.PassesInTurn.{arrival, aside_for, aside_by, aside_from, AsideFew, Due, DueAside, Passed}
use Rattle.lists.specs.Lists.{All, up_to}
use Rattle.lists.proofs.Alls.{all_any, all_append, all_left, all_map, all_nil, all_right}
use Rattle.links.proofs.Places.{length_places}
use Rattle.links.proofs.Crossing.{across_there, opposite_there}
use Rattle.buffer.proofs.LinkWords.{word_at, packet_there, places_at_lem}
use Rattle.lists.proofs.UpTo.{upto_same, one_by_one, rest, upto_split}
use Rattle.buffer.proofs.Headers.{Head, head_range, head_same, SameHeader}
use Rattle.buffer.proofs.LoggedPasses.{passed_none, passed_append, due_next}

-- ---- passes leave it alone

aside_still : (w w' : List ℕ) → still w' ≡ still w → aside_in w' ≡ aside_in w
aside_still w w' e =
    let same : drop aside_at w' ≡ drop aside_at w = ap (drop 1) e in
    let read : (v : List ℕ) → aside_in v ≡ places_in (get_or (drop aside_at v) 0 0) (drop 1 (drop aside_at v)) = λ v. λ i. places_in (sym (get_or-drop aside_at v 0 0) i) (sym (drop-drop 1 aside_at v) i) in
    read w' ∙ (λ i. places_in (get_or (same i) 0 0) (drop 1 (same i))) ∙ sym (read w)

module _ (step : Going (Unit {0}) → Arrival (Unit {0}) → Going (Unit {0})) (xs : List (Arrival (Unit {0}))) (l log : List ℕ) (n : ℕ) (l₁ log₁ : List ℕ) (n₁ : ℕ) (p : Passed step xs l log n l₁ log₁ n₁) where
  number : SameHeader l l₁
  number = head_same l l₁ p.head

  pub aside_same : (chip source : ℕ) → aside_by l₁ chip source ≡ aside_by l chip source
  aside_same chip source =
      ap (map (λ (f : Flight (Unit {0})). record { chip = chip; source = source; flight = f }))
      ((λ i. aside_in (link_words (opposite source) (chip_words (across (number width_at (lit< tt) i) (number height_at (lit< tt) i) chip source) l₁)))
      ∙ aside_still (aside_for l chip source) (link_words (opposite source) (chip_words (across (get_or l width_at 0) (get_or l height_at 0) chip source) l₁)) (p.still (across (get_or l width_at 0) (get_or l height_at 0) chip source) (opposite source) (opposite_there source)))

  pub few_same : AsideFew l → AsideFew l₁
  few_same few c j hc hj =
      let e : get_or (link_words j (chip_words c l₁)) aside_at 0 ≡ get_or (link_words j (chip_words c l)) aside_at 0 =
      sym (get_or-drop aside_at (link_words j (chip_words c l₁)) 0 0) ∙ ap (λ (w : List ℕ). get_or w held_at 0) (p.still c j hj) ∙ get_or-drop aside_at (link_words j (chip_words c l)) 0 0 in
      subst (λ (k : ℕ). k ≤ 8) (sym e) (few c j (subst (λ (k : ℕ). c < k) (λ i. number height_at (lit< tt) i * number width_at (lit< tt) i) hc) hj)

all_upto : (P : Arrival (Unit {0}) → Type 0) (f : ℕ → List (Arrival (Unit {0}))) (k m : ℕ) → k < m → All P (up_to f m) → All P (f k)
all_upto P f k m h all = all_left P (f k) (rest f (suc k) (m - suc k)) (all_right P (up_to f k) (f k ++ rest f (suc k) (m - suc k)) (subst (All P) (upto_split f k m h) all))

-- ---- what is due next

due_first : (xs ys : List (Arrival (Unit {0}))) (l log : List ℕ) (n : ℕ) → Due (xs ++ ys) l log n → Due xs l log n
due_first xs ys l log n d =
    record {
      head = d.head;
      long = d.long;
      room = omega (arith, simp length-append at d.room);
      each = all_left (Arrives (chips_of l)) xs ys d.each;
    }

module _ (step : Going (Unit {0}) → Arrival (Unit {0}) → Going (Unit {0})) (f : ℕ → List (Arrival (Unit {0}))) (k m : ℕ) (h : k < m) (l log : List ℕ) (n : ℕ) (d : DueAside (up_to f m) l log n) (l₁ log₁ : List ℕ) (n₁ : ℕ) (p : Passed step (up_to f k) l log n l₁ log₁ n₁) where
  pub due_step : DueAside (f k) l₁ log₁ n₁
  due_step =
      record {
        due = due_first (f k) (rest f (suc k) (m - suc k)) l₁ log₁ n₁
            (due_next step (up_to f k) (f k ++ rest f (suc k) (m - suc k)) l log n l₁ log₁ n₁ p (subst (λ (xs : List (Arrival (Unit {0}))). Due xs l log n) (upto_split f k m h) d.due));
        few = few_same step (up_to f k) l log n l₁ log₁ n₁ p d.few;
      }

  pub passed_step : (l₂ log₂ : List ℕ) (n₂ : ℕ) → Passed step (f k) l₁ log₁ n₁ l₂ log₂ n₂ → Passed step (up_to f (suc k)) l log n l₂ log₂ n₂
  unfolding up_to
  passed_step = passed_append step (up_to f k) (f k) l log n l₁ log₁ n₁ p

-- ---- the packets of one link

-- the packet that the code reads, where what was set aside has its place
abbrev pub one : List ℕ → ℕ → ℕ → ℕ → ℕ → List (Arrival (Unit {0}))
one l place chip source k = arrival chip source (packet_in (drop (place + 1 + k * place_long) l)) ∷ []

module _ (l : List ℕ) (chip source : ℕ) (fine : Head l) (enough : words_of l ≤ length l) (few : AsideFew l) (hs : source < 6) where
  abbrev from : ℕ
  from = across (get_or l width_at 0) (get_or l height_at 0) chip source

  abbrev place : ℕ
  place = aside_place (get_or l width_at 0) (get_or l height_at 0) chip source

  from_there : across (get_or l width_at 0) (get_or l height_at 0) chip source < chips_of l
  from_there = across_there (get_or l width_at 0) (get_or l height_at 0) chip source fine.wide fine.tall

  -- how many there are stands at their place
  pub count_at : get_or l (aside_place (get_or l width_at 0) (get_or l height_at 0) chip source) 0 ≡ length (aside_by l chip source)
  count_at =
      sym (word_at from (opposite source) aside_at l (opposite_there source) (lit< tt)) ∙ sym (length_places (get_or (aside_for l chip source) aside_at 0) (drop aside_places_at (aside_for l chip source)))
      ∙ sym (length-map (aside_in (aside_for l chip source)) _)

  pub count_few : get_or l (aside_place (get_or l width_at 0) (get_or l height_at 0) chip source) 0 ≤ 8
  count_few =
      subst (λ (k : ℕ). k ≤ 8) (word_at from (opposite source) aside_at l (opposite_there source) (lit< tt)) (few from (opposite source) from_there (opposite_there source))

  -- all of their words are there
  pub places_there : aside_place (get_or l width_at 0) (get_or l height_at 0) chip source + (1 + depth * place_long) ≤ length l
  places_there = omega (arith, from_there, enough, opposite_there source)

  -- they are the packets that the code reads
  pub aside_read : aside_by l chip source ≡ up_to (one l (aside_place (get_or l width_at 0) (get_or l height_at 0) chip source) chip source) (get_or l (aside_place (get_or l width_at 0) (get_or l height_at 0) chip source) 0)
  aside_read =
      one_by_one d (aside_by l chip source) ∙ ap (up_to (λ k. get_or (aside_by l chip source) k d ∷ [])) (sym count_at)
      ∙ upto_same (λ k. get_or (aside_by l chip source) k d ∷ []) (one l place chip source) (get_or l place 0) (λ k h. λ i. read k h i ∷ [])
    where
      nothing : Flight (Unit {0})
      nothing = record { packet = packet_in []; tag = tt }

      d : Arrival (Unit {0})
      d = record { chip = chip; source = source; flight = nothing }

      read : (k : ℕ) → k < get_or l place 0 → get_or (aside_by l chip source) k d ≡ arrival chip source (packet_in (drop (place + 1 + k * place_long) l))
      read k h =
          let small : get_or l place 0 ≤ 8 = count_few in
          let e : place + 1 + k * place_long ≡ chip_place from + link_place (opposite source) + (aside_places_at + k * place_long) = omega arith in
          let f : Flight (Unit {0}) → Arrival (Unit {0}) = λ x. record { chip = chip; source = source; flight = x } in
          get_or-map f (aside_in (aside_for l chip source)) k nothing
          ∙ ap f (places_at_lem (get_or (aside_for l chip source) aside_at 0) k (drop aside_places_at (aside_for l chip source)) nothing (subst (λ (m : ℕ). k < m) (sym (word_at from (opposite source) aside_at l (opposite_there source) (lit< tt))) h))
          ∙ ap (arrival chip source)
          (ap packet_in (drop-drop (k * place_long) aside_places_at (aside_for l chip source)) ∙ packet_there from (opposite source) (aside_places_at + k * place_long) l (opposite_there source) (omega arith)
          ∙ ap (λ (m : ℕ). packet_in (drop m l)) (sym e))

  -- and after some passes they are as they were
  pub packet_same : (step : Going (Unit {0}) → Arrival (Unit {0}) → Going (Unit {0})) (xs : List (Arrival (Unit {0}))) (log : List ℕ) (n : ℕ) (l₁ log₁ : List ℕ) (n₁ : ℕ) → Passed step xs l log n l₁ log₁ n₁ → (k : ℕ) → k < 8
      → packet_in (drop (aside_place (get_or l width_at 0) (get_or l height_at 0) chip source + 1 + k * place_long) l₁) ≡ packet_in (drop (aside_place (get_or l width_at 0) (get_or l height_at 0) chip source + 1 + k * place_long) l)
  packet_same step xs log n l₁ log₁ n₁ p k h =
      let j = opposite source in
      let e : place + 1 + k * place_long ≡ chip_place from + link_place j + (aside_places_at + k * place_long) = omega arith in
      let shift : aside_places_at + k * place_long ≡ aside_at + (1 + k * place_long) = omega arith in
      let there : (m : List ℕ) → packet_in (drop (place + 1 + k * place_long) m) ≡ packet_in (drop (1 + k * place_long) (drop aside_at (link_words j (chip_words from m)))) =
      λ m. ap (λ (i : ℕ). packet_in (drop i m)) e ∙ sym (packet_there from j (aside_places_at + k * place_long) m (opposite_there source) (omega arith))
      ∙ ap packet_in (ap (λ (i : ℕ). drop i (link_words j (chip_words from m))) shift ∙ sym (drop-drop (1 + k * place_long) aside_at (link_words j (chip_words from m)))) in
      there l₁ ∙ ap (λ (w : List ℕ). packet_in (drop (1 + k * place_long) (drop 1 w))) (p.still from j (opposite_there source)) ∙ sym (there l)

pub passed_begin : (step : Going (Unit {0}) → Arrival (Unit {0}) → Going (Unit {0})) (f : ℕ → List (Arrival (Unit {0}))) (l log : List ℕ) (n : ℕ) → Passed step (up_to f 0) l log n l log n
unfolding up_to
passed_begin step f l log n = passed_none step l log n

-- what the code does with them, from its place for them: each is due, and makes one more; then all have passed
module _ (l : List ℕ) (chip source : ℕ) (log : List ℕ) (n : ℕ) (hs : source < 6) (d : DueAside (aside_by l chip source) l log n) (at : ℕ) (e : at ≡ aside_place (get_or l width_at 0) (get_or l height_at 0) chip source) where
  fine : Head l
  fine = head_range l d.due.head

  pub place_few : (get_or l at 0 ≤ 8) × (at + (1 + depth * place_long) ≤ length l)
  place_few = rw e (count_few l chip source fine d.due.long d.few hs, places_there l chip source fine d.due.long d.few hs)

  all_read : aside_by l chip source ≡ up_to (one l at chip source) (get_or l at 0)
  all_read = rw e (aside_read l chip source fine d.due.long d.few hs)

  pub link_end : (step : Going (Unit {0}) → Arrival (Unit {0}) → Going (Unit {0})) (l₁ log₁ : List ℕ) (n₁ : ℕ) → Passed step (up_to (one l at chip source) (get_or l at 0)) l log n l₁ log₁ n₁ → Passed step (aside_by l chip source) l log n l₁ log₁ n₁
  link_end step l₁ log₁ n₁ = subst (λ (xs : List (Arrival (Unit {0}))). Passed step xs l log n l₁ log₁ n₁) (sym all_read)

  module _ (step : Going (Unit {0}) → Arrival (Unit {0}) → Going (Unit {0})) (k : ℕ) (h : k < get_or l at 0) (l₁ log₁ : List ℕ) (n₁ : ℕ) (p : Passed step (up_to (one l at chip source) k) l log n l₁ log₁ n₁) (q : Packet) (r : q ≡ packet_in (drop (at + 1 + k * place_long) l₁)) where
    same_packet : q ≡ packet_in (drop (at + 1 + k * place_long) l)
    same_packet =
        r ∙ rw e (packet_same l chip source fine d.due.long d.few hs step (up_to (one l at chip source) k) log n l₁ log₁ n₁ p k (omega (arith, place_few)))

    same_one : one l at chip source k ≡ arrival chip source q ∷ []
    same_one = λ i. arrival chip source (sym same_packet i) ∷ []

    aside_due : DueAside (up_to (one l at chip source) (get_or l at 0)) l log n
    aside_due = subst (λ (xs : List (Arrival (Unit {0}))). DueAside xs l log n) all_read d

    pub link_due : Due (arrival chip source q ∷ []) l₁ log₁ n₁
    link_due = subst (λ (xs : List (Arrival (Unit {0}))). Due xs l₁ log₁ n₁) same_one (due_step step (one l at chip source) k (get_or l at 0) h l log n aside_due l₁ log₁ n₁ p).due

    pub link_step : (l₂ log₂ : List ℕ) (n₂ : ℕ) → Passed step (arrival chip source q ∷ []) l₁ log₁ n₁ l₂ log₂ n₂ → Passed step (up_to (one l at chip source) (suc k)) l log n l₂ log₂ n₂
    link_step l₂ log₂ n₂ s =
        passed_step step (one l at chip source) k (get_or l at 0) h l log n aside_due l₁ log₁ n₁ p l₂ log₂ n₂ (subst (λ (xs : List (Arrival (Unit {0}))). Passed step xs l₁ log₁ n₁ l₂ log₂ n₂) (sym same_one) s)

    -- what holds of all that was set aside on the link holds of this one
    pub link_each : (P : Arrival (Unit {0}) → Type 0) → All P (aside_by l chip source) → All P (arrival chip source q ∷ [])
    link_each P all = subst (All P) same_one (all_upto P (one l at chip source) k (get_or l at 0) h (subst (All P) all_read all))

-- link after link, chip after chip: what is due of it is read from the words as they are then
module _ (step : Going (Unit {0}) → Arrival (Unit {0}) → Going (Unit {0})) (l log : List ℕ) (n : ℕ) (l₁ log₁ : List ℕ) (n₁ : ℕ) where
  pub chips_same : (xs : List (Arrival (Unit {0}))) → Passed step xs l log n l₁ log₁ n₁ → chips_of l₁ ≡ chips_of l
  chips_same xs p = λ i. number step xs l log n l₁ log₁ n₁ p 1 (lit< tt) i * number step xs l log n l₁ log₁ n₁ p 0 (lit< tt) i

  -- how many there are stands where it stood
  pub place_same : (chip source : ℕ) (xs : List (Arrival (Unit {0}))) → Passed step xs l log n l₁ log₁ n₁ → aside_place (get_or l width_at 0) (get_or l height_at 0) chip source ≡ aside_place (get_or l₁ width_at 0) (get_or l₁ height_at 0) chip source
  place_same chip source xs p = sym (λ i. aside_place (number step xs l log n l₁ log₁ n₁ p 0 (lit< tt) i) (number step xs l log n l₁ log₁ n₁ p 1 (lit< tt) i) chip source)

  module _ (chip k : ℕ) (h : k < 6) (d : DueAside (aside_from l chip) l log n) (p : Passed step (up_to (aside_by l chip) k) l log n l₁ log₁ n₁) where
    pub links_due : DueAside (aside_by l₁ chip k) l₁ log₁ n₁
    links_due =
        subst (λ (xs : List (Arrival (Unit {0}))). DueAside xs l₁ log₁ n₁) (sym (aside_same step (up_to (aside_by l chip) k) l log n l₁ log₁ n₁ p chip k))
        (due_step step (aside_by l chip) k 6 h l log n d l₁ log₁ n₁ p)

    pub links_each : (P : Arrival (Unit {0}) → Type 0) → All P (aside_from l chip) → All P (aside_by l₁ chip k)
    links_each P all = subst (All P) (sym (aside_same step (up_to (aside_by l chip) k) l log n l₁ log₁ n₁ p chip k)) (all_upto P (aside_by l chip) k 6 h all)

    pub links_step : (l₂ log₂ : List ℕ) (n₂ : ℕ) → Passed step (aside_by l₁ chip k) l₁ log₁ n₁ l₂ log₂ n₂ → Passed step (up_to (aside_by l chip) (suc k)) l log n l₂ log₂ n₂
    links_step l₂ log₂ n₂ q =
        passed_step step (aside_by l chip) k 6 h l log n d l₁ log₁ n₁ p l₂ log₂ n₂
        (subst (λ (xs : List (Arrival (Unit {0}))). Passed step xs l₁ log₁ n₁ l₂ log₂ n₂) (aside_same step (up_to (aside_by l chip) k) l log n l₁ log₁ n₁ p chip k) q)

  module _ (k m : ℕ) (h : k < m) (d : DueAside (up_to (aside_from l) m) l log n) (p : Passed step (up_to (aside_from l) k) l log n l₁ log₁ n₁) where
    pub at_same : aside_from l₁ k ≡ aside_from l k
    at_same = upto_same (aside_by l₁ k) (aside_by l k) 6 (λ s hs. aside_same step (up_to (aside_from l) k) l log n l₁ log₁ n₁ p k s)

    pub chips_due : DueAside (aside_from l₁ k) l₁ log₁ n₁
    chips_due = subst (λ (xs : List (Arrival (Unit {0}))). DueAside xs l₁ log₁ n₁) (sym at_same) (due_step step (aside_from l) k m h l log n d l₁ log₁ n₁ p)

    pub chips_step : (l₂ log₂ : List ℕ) (n₂ : ℕ) → Passed step (aside_from l₁ k) l₁ log₁ n₁ l₂ log₂ n₂ → Passed step (up_to (aside_from l) (suc k)) l log n l₂ log₂ n₂
    chips_step l₂ log₂ n₂ q =
        passed_step step (aside_from l) k m h l log n d l₁ log₁ n₁ p l₂ log₂ n₂ (subst (λ (xs : List (Arrival (Unit {0}))). Passed step xs l₁ log₁ n₁ l₂ log₂ n₂) at_same q)

-- all that was set aside for a chip arrives there
at_the_links : (l : List ℕ) (chip k : ℕ) → All (λ (a : Arrival (Unit {0})). a.chip ≡ chip) (up_to (aside_by l chip) k)
unfolding up_to
at_the_links l chip zero = all_nil (λ (a : Arrival (Unit {0})). a.chip ≡ chip)
at_the_links l chip (suc k) =
    all_append (λ (a : Arrival (Unit {0})). a.chip ≡ chip) (up_to (aside_by l chip) k) (aside_by l chip k) (at_the_links l chip k)
    (all_map (λ (a : Arrival (Unit {0})). a.chip ≡ chip) (λ (f : Flight (Unit {0})). record { chip = chip; source = k; flight = f }) (aside_in (aside_for l chip k)) (all_any (λ f. chip ≡ chip) (λ f. refl) (aside_in (aside_for l chip k))))

pub at_the_chip : (l : List ℕ) (chip : ℕ) → All (λ (a : Arrival (Unit {0})). a.chip ≡ chip) (aside_from l chip)
at_the_chip l chip = at_the_links l chip 6
