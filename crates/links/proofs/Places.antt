-- The places of a directed link: how many packets they hold, and one more put behind them.
use mathlib.Core.Path.{◌≡◌, refl, sym, ap, ◌∙◌}
use mathlib.Core.Bool.{Bool, true, false, cond}
use mathlib.Core.List.{List, [], ◌∷◌, ◌++◌, append-nil}
use Prim.Native.Nat.{ℕ, zero, suc, ◌+◌, ◌*◌, ◌≤◌, ◌<◌}
use native.Mathlib.Nat.{add-zero, le_of_eq}
use native.Mathlib.Numerals.{add-one}
use lib.Dec.{eqb, lit<}
use native.Mathlib.Omega.{arith}
use lib.ListN.{length, get_or, drop, set, length-set}
use lib.Seq.{get_or-drop, get_or-set_same, get_or-set_other, drop-set-lt}
use Rattle.packet.specs.declared.Packet.{Packet}
use Rattle.packet.specs.Control.{carries_of}
use Rattle.steps.specs.declared.Outcome.{Outcome}
use Rattle.steps.specs.Links.{has}
use Rattle.steps.specs.Deciding.{packet_on, leg_packet}
use Rattle.links.specs.Offsets.{state_at, held_at, place_long, aside_at, link_long}
use Rattle.links.specs.Link.{Flight, Link, link_after, Right}
use Rattle.links.specs.Words.{packet_in, places_in, link_in}
use Rattle.links.specs.LinkWords.{still, place_at, put_at, pushed, pushed_if, sent_words, Room}

-- as many as the count says
pub length_places : (n : ℕ) (l : List ℕ) → length (places_in n l) ≡ n
unfolding places_in
length_places zero l = refl
length_places (suc n) l = ap suc (length_places n (drop place_long l))

-- a packet at a place
pub packet_at_lem : (l : List ℕ) (at : ℕ) → packet_in (drop at l) ≡ record { control = get_or l at 0; nine = carries_of (get_or l at 0); word = get_or l (at + 1) 0; payload = get_or l (at + 2) 0 }
packet_at_lem l at =
    let e : get_or (drop at l) 0 0 ≡ get_or l at 0 = get_or-drop at l 0 0 ∙ ap (λ (i : ℕ). get_or l i 0) (add-zero at) in
    λ i. record { control = e i; nine = carries_of (e i); word = get_or-drop at l 1 0 i; payload = get_or-drop at l 2 0 i }

-- ---- one more packet

abbrev flight : Packet → Flight (Unit {0})
flight p = record { packet = p; tag = tt }

-- past the first three words, a place is three words nearer
put_on : (x y z : ℕ) (l : List ℕ) (n : ℕ) (p : Packet) → put_at (x ∷ y ∷ z ∷ l) (suc n * place_long) p ≡ x ∷ y ∷ z ∷ put_at l (n * place_long) p
put_on x y z l n p =
    let e₀ : suc n * place_long ≡ suc (suc (suc (n * place_long))) = omega arith in
    let e₁ : suc n * place_long + 1 ≡ suc (suc (suc (n * place_long + 1))) = omega arith in
    let e₂ : suc n * place_long + 2 ≡ suc (suc (suc (n * place_long + 2))) = omega arith in
    λ i. set (set (set (x ∷ y ∷ z ∷ l) (e₀ i) p.control) (e₁ i) p.word) (e₂ i) p.payload

places_put : (n : ℕ) (l : List ℕ) (p : Packet) → Right p → n * place_long + 2 < length l → places_in (suc n) (put_at l (n * place_long) p) ≡ places_in n l ++ flight p ∷ []
unfolding places_in
places_put n [] p r h = absurd (omega arith)
places_put n (x ∷ []) p r h = absurd (omega arith)
places_put n (x ∷ y ∷ []) p r h = absurd (omega arith)
places_put zero (x ∷ y ∷ z ∷ l) p r h = λ i. record { packet = record { control = p.control; nine = sym r i; word = p.word; payload = p.payload }; tag = tt } ∷ []
places_put (suc n) (x ∷ y ∷ z ∷ l) p r h =
    ap (places_in (suc (suc n))) (put_on x y z l n p)
    ∙ ap (λ (fs : List (Flight (Unit {0}))). flight (packet_in (x ∷ y ∷ z ∷ l)) ∷ fs) (places_put n l p r (omega arith))

-- the words after a push: the count, and the packet's place
pushed_words : (u v : ℕ) (l : List ℕ) (p : Packet) → pushed (u ∷ v ∷ l) p ≡ u ∷ (v + 1) ∷ put_at l (v * place_long) p
pushed_words u v l p =
    let e₀ : place_at v ≡ suc (suc (v * place_long)) = omega arith in
    let e₁ : place_at v + 1 ≡ suc (suc (v * place_long + 1)) = omega arith in
    let e₂ : place_at v + 2 ≡ suc (suc (v * place_long + 2)) = omega arith in
    λ i. set (set (set (set (u ∷ v ∷ l) (e₀ i) p.control) (e₁ i) p.word) (e₂ i) p.payload) held_at (v + 1)

-- a push puts the packet behind those that the link holds
pub link_push : (l : List ℕ) (p : Packet) → Right p → length l ≡ link_long → get_or l held_at 0 ≤ 7
    → link_in (pushed l p) ≡ record { up = (link_in l).up; held = (link_in l).held ++ flight p ∷ [] }
link_push [] p r h k = absurd (omega arith)
link_push (u ∷ []) p r h k = absurd (omega arith)
link_push (u ∷ v ∷ l) p r h k =
    ap link_in (pushed_words u v l p)
    ∙ (λ i. record { up = eqb u 0; held = places_in (add-one v i) (put_at l (v * place_long) p) })
    ∙ (λ i. record { up = eqb u 0; held = places_put v l p r (omega arith) i })

-- and leaves the link's state and what is set aside as they were
push_aside : (l : List ℕ) (p : Packet) → get_or l held_at 0 ≤ 7 → drop aside_at (pushed l p) ≡ drop aside_at l
push_aside l p k =
    let i : ℕ = place_at (get_or l held_at 0) in
    drop-set-lt aside_at (put_at l i p) held_at (get_or l held_at 0 + 1) (lit< tt)
    ∙ drop-set-lt aside_at (set (set l i p.control) (i + 1) p.word) (i + 2) p.payload (omega arith)
    ∙ drop-set-lt aside_at (set l i p.control) (i + 1) p.word (omega arith)
    ∙ drop-set-lt aside_at l i p.control (omega arith)

push_state : (l : List ℕ) (p : Packet) → get_or (pushed l p) state_at 0 ≡ get_or l state_at 0
push_state l p =
    let i : ℕ = place_at (get_or l held_at 0) in
    get_or-set_other (put_at l i p) held_at state_at (get_or l held_at 0 + 1) 0 (λ e. omega arith)
    ∙ get_or-set_other (set (set l i p.control) (i + 1) p.word) (i + 2) state_at p.payload 0 (λ e. omega arith)
    ∙ get_or-set_other (set l i p.control) (i + 1) state_at p.word 0 (λ e. omega arith)
    ∙ get_or-set_other l i state_at p.control 0 (λ e. omega arith)

pub push_still : (l : List ℕ) (p : Packet) → get_or l held_at 0 ≤ 7 → still (pushed l p) ≡ still l
push_still l p k = λ i. push_state l p i ∷ push_aside l p k i

-- ---- a packet pushed where a test says so

pub length_pushed : (l : List ℕ) (p : Packet) → length (pushed l p) ≡ length l
length_pushed l p = simp length-set

pub length_pushed_if : (b : Bool) (l : List ℕ) (p : Packet) → length (pushed_if b l p) ≡ length l
length_pushed_if true l p = length_pushed l p
length_pushed_if false l p = refl

-- the count is one more, or as it was
pub count_pushed_if : (b : Bool) (l : List ℕ) (p : Packet) → length l ≡ link_long → get_or (pushed_if b l p) held_at 0 ≤ get_or l held_at 0 + 1
count_pushed_if true l p h = le_of_eq (get_or-set_same (put_at l (place_at (get_or l held_at 0)) p) held_at (get_or l held_at 0 + 1) 0 (simp length-set (omega arith)))
count_pushed_if false l p h = omega arith

pub link_push_if : (b : Bool) (l : List ℕ) (p : Packet) → (b ≡ true → Right p) → length l ≡ link_long → (b ≡ true → get_or l held_at 0 ≤ 7)
    → link_in (pushed_if b l p) ≡ record { up = (link_in l).up; held = (link_in l).held ++ cond b (flight p ∷ []) [] }
link_push_if true l p r h k = link_push l p (r refl) h (k refl)
link_push_if false l p r h k = λ i. record { up = (link_in l).up; held = sym (append-nil (link_in l).held) i }

pub still_push_if : (b : Bool) (l : List ℕ) (p : Packet) → (b ≡ true → get_or l held_at 0 ≤ 7) → still (pushed_if b l p) ≡ still l
still_push_if true l p k = push_still l p (k refl)
still_push_if false l p k = refl

-- room for one more, and for a second behind it
module _ (l : List ℕ) (o : Outcome) (i : ℕ) (h : length l ≡ link_long) (room : Room l o i) where
  pub room_first : has o.sent i ≡ true → get_or l held_at 0 ≤ 7
  room_first t = omega (arith, room.0 t)

  pub room_second : has o.leg_sent i ≡ true → get_or (pushed_if (has o.sent i) l (packet_on o i)) 1 0 ≤ 7
  room_second t = omega (arith, room.1 t, count_pushed_if (has o.sent i) l (packet_on o i) h)

  pub long_between : length (pushed_if (has o.sent i) l (packet_on o i)) ≡ link_long
  long_between = length_pushed_if (has o.sent i) l (packet_on o i) ∙ h

  -- what a pass sends on a link: the link after the pass
  pub link_sent : (has o.sent i ≡ true → Right (packet_on o i)) → (has o.leg_sent i ≡ true → Right (leg_packet o)) → link_in (sent_words l o i) ≡ link_after o tt i (link_in l)
  link_sent r g =
      link_push_if (has o.leg_sent i) (pushed_if (has o.sent i) l (packet_on o i)) (leg_packet o) g long_between room_second
      ∙ ap (λ (x : Link (Unit {0})). record { up = x.up; held = x.held ++ cond (has o.leg_sent i) (flight (leg_packet o) ∷ []) [] })
      (link_push_if (has o.sent i) l (packet_on o i) r h room_first)

  -- the state and what is set aside stay
  pub still_sent : still (sent_words l o i) ≡ still l
  still_sent =
      still_push_if (has o.leg_sent i) (pushed_if (has o.sent i) l (packet_on o i)) (leg_packet o) room_second
      ∙ still_push_if (has o.sent i) l (packet_on o i) room_first
