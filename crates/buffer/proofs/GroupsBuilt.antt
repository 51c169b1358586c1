-- The room for groups in a round: enough for the rows that are cut out for a chip, and left as the definition says, chip by chip.
use Rattle.lists.proofs.Bools.{both}
use Rattle.std.proofs.Common.{◌≡◌, ℕ, zero, suc, ◌+◌, ◌-◌, ◌*◌, ◌/◌, ◌<◌, ◌≤◌, true, false, cond, ◌&&◌, eqb, List, [], ◌∷◌, ◌++◌, map, length, get_or, take, drop, set, sym, refl, ap, ◌∙◌, subst, append_assoc, append-nil, add-one, arith, length-drop, length-take-le, get_or-drop, take-suc-set, ne_eqb}
use mathlib.Core.List.{map-append}
use lib.ListN.{length-map, get_or-map}
use Rattle.tables.specs.Rows.{rows_of}
use Rattle.tables.proofs.RowsByNumber.{rows_many}
use Rattle.groups.specs.Groups.{top_of, marks_of, room_for, GroupedFor}
use Rattle.groups.specs.Pays.{worth, pays}
use Rattle.groups.proofs.GroupsLeft.{group_there, not_worth}
use Rattle.groups.proofs.Sampling.{worth_few}
use Rattle.groups.specs.Grouping.{groups_left}
use Rattle.groups.specs.Room.{longest}
use Rattle.groups.proofs.Longest.{longest_most}
use Rattle.lists.specs.Lists.{All, up_to}
use Rattle.lists.proofs.UpTo.{upto_same}
use Rattle.links.specs.Offsets.{width_at, height_at, place_long, depth}
use Rattle.links.specs.Words.{aside_place, packet_in}
use Rattle.buffer.proofs.Headers.{Head, head_range}
use Rattle.mesh.specs.Refusals.{Lent}
use Rattle.mesh.proofs.Cuts.{rows_long, Cuts}
use Rattle.buffer.proofs.Arrivals.{one, aside_read, count_at, count_few, places_there}
use Rattle.mesh.specs.Lending.{Tables, with_room, rows_at}
use Rattle.mesh.specs.Steps.{Arrival}
use Rattle.mesh.specs.Room.{keys_of, room_at, room_upto}
use Rattle.buffer.specs.PassesInTurn.{arrival, aside_by, DueAside}
use Rattle.buffer.specs.Grouping.{AsideThere, RoomFits}
use Rattle.buffer.specs.Layout.{chips_of}

-- what was set aside for a chip that is there
pub chip_there : (chip : ℕ) (xs : List (Arrival (Unit {0}))) (mesh log : List ℕ) (n : ℕ) → chip < chips_of mesh → DueAside xs mesh log n → AsideThere mesh chip
chip_there chip xs mesh log n below d = record { there = below; head = d.due.head; long = d.due.long; few = d.few }

-- room for the longest table is room for each
pub fits_each : (starts : List ℕ) (count chip room : ℕ) → chip < count → RoomFits room (longest starts count) → RoomFits room (get_or starts (chip + 1) 0 - get_or starts chip 0)
fits_each starts count chip room h fits some = omega (arith, fits some, longest_most starts count chip h)

-- room for as many rows as the starts say is room for a chip's own
pub fits_own : (t : Tables) (chips chip room : ℕ) → Lent t chips → chip < chips → RoomFits room (get_or t.starts (chip + 1) 0 - get_or t.starts chip 0) → RoomFits room (length (rows_at t chip) / 3)
fits_own t chips chip room lent below fits some = omega (arith, fits some, rows_long t chips chip lent below)

-- ---- a chip's rows, by the places that are worked out from the starts

module _ (t : Tables) (chips chip first next : ℕ) (cut : Cuts t chips chip) (e₁ : first ≡ get_or t.starts chip 0 * 3) (e₂ : next ≡ get_or t.starts (chip + 1) 0 * 3) where
  pub fits_cut : (room : ℕ) → RoomFits room (get_or t.starts (chip + 1) 0 - get_or t.starts chip 0) → RoomFits room (length (take (next - first) (drop first t.rows)) / 3)
  fits_cut room fits some =
      let long : length (take (next - first) (drop first t.rows)) ≡ next - first = length-take-le (next - first) (drop first t.rows) (simp length-drop (omega (arith, cut.row_end, e₁, e₂))) in
      omega (arith, long, e₁, e₂, cut.row_below, fits some)

  pub room_cut : (keys room : List ℕ) → cond (eqb (length room) 0) room (groups_left keys (rows_of (take (next - first) (drop first t.rows))) room) ≡ room_at t keys chip room
  room_cut keys room =
      let long : next - first ≡ (get_or t.starts (chip + 1) 0 - get_or t.starts chip 0) * 3 = omega (arith, e₁, e₂) in
      λ i. cond (eqb (length room) 0) room (groups_left keys (rows_of (take (long i) (drop (e₁ i) t.rows))) room)

-- ---- the room chip by chip

pub room_none : (t : Tables) (f : ℕ → List ℕ) (room : List ℕ) → room ≡ room_upto t f 0 room
unfolding room_upto
room_none t f room = refl

pub room_next : (t : Tables) (a : ℕ) (f : ℕ → List ℕ) (chip : ℕ) (keys room₀ room : List ℕ) → keys ≡ f chip → room ≡ room_upto (with_room t a) f chip room₀
    → room_at t keys chip room ≡ room_upto (with_room t a) f (suc chip) room₀
unfolding room_upto
room_next t a f chip keys room₀ room e g = λ i. room_at (with_room t a) (e i) chip (g i)

-- ---- the words of what was set aside

map_upto : {X : Type 0} (f : X → ℕ) (g : ℕ → List X) (n : ℕ) → map f (up_to g n) ≡ up_to (λ k. map f (g k)) n
unfolding up_to
map_upto f g zero = refl
map_upto f g (suc n) = map-append f (up_to g n) (g n) ∙ ap (λ (l : List ℕ). l ++ map f (g n)) (map_upto f g n)

module _ (l : List ℕ) (chip : ℕ) (h : AsideThere l chip) (source : ℕ) (hs : source < 6) (at : ℕ) (e : at ≡ aside_place (get_or l width_at 0) (get_or l height_at 0) chip source) where
  fine : Head l
  fine = head_range l h.head

  pub place_counted : (get_or l at 0 ≡ length (aside_by l chip source)) × ((get_or l at 0 ≤ 8) × (at + (1 + depth * place_long) ≤ length l))
  place_counted =
      rw e (count_at l chip source fine h.long h.few hs, (count_few l chip source fine h.long h.few hs, places_there l chip source fine h.long h.few hs))

  -- their words as the code reads them
  pub keys_read : keys_of (aside_by l chip source) ≡ up_to (λ k. get_or l (at + 2 + k * place_long) 0 ∷ []) (get_or l at 0)
  keys_read =
      let read : aside_by l chip source ≡ up_to (one l at chip source) (get_or l at 0) = rw e (aside_read l chip source fine h.long h.few hs) in
      ap keys_of read
      ∙ map_upto (λ (a : Arrival (Unit {0})). a.flight.packet.word) (one l at chip source) (get_or l at 0)
      ∙ upto_same (λ k. keys_of (one l at chip source k)) (λ k. get_or l (at + 2 + k * place_long) 0 ∷ []) (get_or l at 0)
      (λ k b. let z : at + 1 + k * place_long + 1 ≡ at + 2 + k * place_long = omega arith in ap (λ (w : ℕ). w ∷ []) (get_or-drop (at + 1 + k * place_long) l 1 0 ∙ ap (λ (j : ℕ). get_or l j 0) z))

-- one word more behind those that are gathered
pub key_put : (keys front : List ℕ) (f : ℕ → ℕ) (n i w : ℕ) → n + i < length keys → take (n + i) keys ≡ front ++ up_to (λ k. f k ∷ []) i → w ≡ f i → take (n + (i + 1)) (set keys (n + i) w) ≡ front ++ up_to (λ k. f k ∷ []) (i + 1)
unfolding up_to
key_put keys front f n i w h e z =
    let next : n + (i + 1) ≡ suc (n + i) = omega arith in
    ap (λ (m : ℕ). take m (set keys (n + i) w)) next
    ∙ take-suc-set keys (n + i) w h
    ∙ (λ j. e j ++ z j ∷ [])
    ∙ append_assoc front (up_to (λ k. f k ∷ []) i) (f i ∷ [])
    ∙ ap (λ (m : ℕ). front ++ up_to (λ k. f k ∷ []) m) (sym (add-one i))

pub keys_none : (n : ℕ) (keys : List ℕ) (f : ℕ → ℕ) → take (n + 0) keys ≡ take n keys ++ up_to (λ k. f k ∷ []) 0
unfolding up_to
keys_none n keys f = let z : n + 0 ≡ n = omega arith in ap (λ (m : ℕ). take m keys) z ∙ sym (append-nil (take n keys))

pub none_aside : (l : List ℕ) (chip : ℕ) (keys : List ℕ) → take 0 keys ≡ keys_of (up_to (aside_by l chip) 0)
unfolding up_to
none_aside l chip keys = refl

pub more_aside : (l : List ℕ) (chip source : ℕ) (more gathered : List ℕ) → gathered ≡ keys_of (up_to (aside_by l chip) source) ++ more → more ≡ keys_of (aside_by l chip source) → gathered ≡ keys_of (up_to (aside_by l chip) (suc source))
unfolding up_to
more_aside l chip source more gathered e f = e ∙ ap (λ (m : List ℕ). keys_of (up_to (aside_by l chip) source) ++ m) f ∙ sym (map-append (λ (a : Arrival (Unit {0})). a.flight.packet.word) (up_to (aside_by l chip) source) (aside_by l chip source))

-- ---- what is left in the room of a chip, where some is lent

module _ (words room : List ℕ) (xs : List (Arrival (Unit {0}))) where
  pub lent_left : (keys room' : List ℕ) → (length room ≡ 0 → ⊥) → keys ≡ keys_of xs → room' ≡ groups_left keys (rows_of words) room
      → room' ≡ cond (eqb (length room) 0) room (groups_left (keys_of xs) (rows_of words) room)
  lent_left keys room' some e left = left ∙ (λ i. cond (sym (ne_eqb (length room) 0 some) i) room (groups_left (e i) (rows_of words) room))

  -- as it was, where so many packets are not worth it
  pub not_worth_left : (count : ℕ) → count ≡ length xs → worth count (length words / 3) ≡ false → room ≡ groups_left (keys_of xs) (rows_of words) room
  not_worth_left count e less =
      let many : length (keys_of xs) ≡ count = length-map xs (λ (a : Arrival (Unit {0})). a.flight.packet.word) ∙ sym e in
      (not_worth (keys_of xs) (rows_of words) room ((λ i. worth (many i) (rows_many words i)) ∙ less)).1

-- ---- every packet that was set aside has its group where some are built

all_each : {X : Type 0} (P : X → Type 0) (d : X) (xs : List X) → ((k : ℕ) → k < length xs → P (get_or xs k d)) → All P xs
unfolding All
all_each P d [] each = tt
all_each P d (x ∷ xs) each = (each 0 (omega arith), all_each P d xs (λ k h. each (suc k) (omega arith)))

pub groups_there : (words room keys : List ℕ) (xs : List (Arrival (Unit {0}))) → keys ≡ keys_of xs → room_for (length (rows_of words)) ≤ length room
    → (worth (length keys) (length (rows_of words)) && pays (length keys) (marks_of keys) (rows_of words)) ≡ true → (room' : List ℕ) → room' ≡ groups_left keys (rows_of words) room
    → (length words / 3 ≤ 1024) × All (λ a. top_of a.flight.packet.word < 256 → GroupedFor (rows_of words) room' a.flight.packet.word) xs
groups_there words room keys xs e fits paid room' left = (
  subst (λ (n : ℕ). n ≤ 1024) (rows_many words) (worth_few (length keys) (length (rows_of words)) (both (worth (length keys) (length (rows_of words))) (pays (length keys) (marks_of keys) (rows_of words)) paid).0),
  all_each (λ a. top_of a.flight.packet.word < 256 → GroupedFor (rows_of words) room' a.flight.packet.word) nowhere xs
      (λ k h small.
      let here : get_or keys k 0 ≡ (get_or xs k nowhere).flight.packet.word = ap (λ (l : List ℕ). get_or l k 0) e ∙ get_or-map (λ (a : Arrival (Unit {0})). a.flight.packet.word) xs k nowhere in
      subst (λ (w : ℕ). GroupedFor (rows_of words) room' w) here
      (subst (λ (r : List ℕ). GroupedFor (rows_of words) r (get_or keys k 0)) (sym left) (group_there keys (rows_of words) room k (omega (arith, ap length e ∙ length-map xs (λ (a : Arrival (Unit {0})). a.flight.packet.word))) (omega (arith, here)) fits paid))),
)
  where
    nowhere : Arrival (Unit {0})
    nowhere = arrival 0 0 (packet_in [])
