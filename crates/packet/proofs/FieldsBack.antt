-- A packet and its fields: those of a whole packet are in range and make it again, and fields in range make a whole packet that reads back into
-- them. What carries it: the fields of the control byte are its digits.
use mathlib.Core.Path.{◌≡◌, refl, ap, ◌∙◌}
use mathlib.Core.Logic.{◌⊎◌, inl, inr, ⊎_elim}
use mathlib.Core.Bool.{true, ◌||◌, and-true, or-true, and-eq-true_iff}
use Prim.Native.Nat.{ℕ, zero, suc, ◌+◌, ◌*◌, ◌/◌, ◌%◌, ◌<◌, ◌^◌}
use native.Mathlib.Omega.{arith}
use lib.Dec.{eqb}
use borrow.Author.Tests.{lt-ltb, eq-eqb, eqb-true}
use Rattle.packet.specs.declared.Fields.{Fields}
use Rattle.packet.specs.declared.Packet.{Packet}
use Rattle.packet.specs.Fields.{marked_fields, p2p_fields, nn_fields, fields_at, fields_of}
use Rattle.packet.specs.Packing.{in_range, control_of, word_of, packet_of}
use Rattle.packet.specs.Whole.{Whole}
use Rattle.packet.proofs.Small.{every, at}
use Rattle.packet.proofs.Ranges.{EndRanges, MarkedRanges, P2pRanges, NnRanges, end_ranges, marked_ranges, p2p_ranges, nn_ranges, ends, own, kind_small, marked_kind}

-- ---- a packet and its fields

-- the fields of a control byte, those of all types but NN, and NN's, are its digits
two_digits : ℕ → ℕ
two_digits c = c / 64 * 64 + (c / 16 % 4 * 16 + c / 4 % 4 * 4) + c / 2 % 2 * 2 + c % 2

nn_digits : ℕ → ℕ
nn_digits c = c / 64 * 64 + (c / 32 % 2 * 32 + c / 4 % 8 * 4) + c / 2 % 2 * 2 + c % 2

two_digits_lem : (c : ℕ) → c < 256 → two_digits c ≡ c
unfolding every two_digits
two_digits_lem c h = eqb-true _ _ (at 256 (λ c. eqb (two_digits c) c) refl c h)

nn_digits_lem : (c : ℕ) → c < 256 → nn_digits c ≡ c
unfolding every nn_digits
nn_digits_lem c h = eqb-true _ _ (at 256 (λ c. eqb (nn_digits c) c) refl c h)

-- a payload that is not there is 0
payload_in_range : (p : Packet) → Whole p → (eqb p.nine 1 || eqb p.payload 0) ≡ true
payload_in_range p w = go p.nine refl
  where
    go : (n : ℕ) → p.nine ≡ n → (eqb p.nine 1 || eqb p.payload 0) ≡ true
    go zero e = simp (w.absent e, or-true)
    go (suc n) e = let one : p.nine ≡ 1 = omega arith in simp (eq-eqb _ _ one)

-- a type: with a mark, P2P or NN
four : (k : ℕ) → k < 4 → ((k ≡ 0) ⊎ (k ≡ 3)) ⊎ ((k ≡ 1) ⊎ (k ≡ 2))
four zero h = inl (inl refl)
four (suc zero) h = inr (inl refl)
four (suc (suc zero)) h = inr (inr refl)
four (suc (suc (suc zero))) h = inl (inr refl)
four (suc (suc (suc (suc k)))) h = absurd (omega arith)

marked_at : (k : ℕ) (p : Packet) → (k ≡ 0) ⊎ (k ≡ 3) → fields_at k p ≡ marked_fields k p
marked_at k p h = simp ((marked_kind k h).other, (marked_kind k h).another)

module _ (p : Packet) (w : Whole p) where
  marked_in_range_lem : (k : ℕ) → (k ≡ 0) ⊎ (k ≡ 3) → in_range (marked_fields k p) ≡ true
  marked_in_range_lem k h =
      let m = marked_kind k h in
      simp (m.other, m.another, m.used, payload_in_range p w, and-true, and-eq-true_iff) (omega (arith, lt-ltb, eq-eqb))

  p2p_in_range_lem : in_range (p2p_fields p) ≡ true
  p2p_in_range_lem = simp (payload_in_range p w, and-true, and-eq-true_iff) (omega (arith, lt-ltb, eq-eqb))

  nn_in_range_lem : in_range (nn_fields p) ≡ true
  nn_in_range_lem = simp (payload_in_range p w, and-true, and-eq-true_iff) (omega (arith, lt-ltb, eq-eqb))

  marked_back : (k : ℕ) → p.control / 64 ≡ k → (k ≡ 0) ⊎ (k ≡ 3) → packet_of (marked_fields k p) ≡ p
  unfolding two_digits
  marked_back k e h =
      let both = marked_kind k h in
      let c : (packet_of (marked_fields k p)).control ≡ p.control = simp (both.other, both.another) (omega (arith, two_digits_lem p.control w.control)) in
      let f : (packet_of (marked_fields k p)).word ≡ p.word = simp both.other in
      λ i. record { control = c i; nine = p.nine; word = f i; payload = p.payload }

  p2p_back : p.control / 64 ≡ 1 → packet_of (p2p_fields p) ≡ p
  unfolding two_digits
  p2p_back k =
      let e : (packet_of (p2p_fields p)).control ≡ p.control = omega (arith, two_digits_lem p.control w.control) in
      let f : (packet_of (p2p_fields p)).word ≡ p.word = omega arith in
      λ i. record { control = e i; nine = p.nine; word = f i; payload = p.payload }

  nn_back : p.control / 64 ≡ 2 → packet_of (nn_fields p) ≡ p
  unfolding nn_digits
  nn_back k = let e : (packet_of (nn_fields p)).control ≡ p.control = omega (arith, nn_digits_lem p.control w.control) in λ i. record { control = e i; nine = p.nine; word = p.word; payload = p.payload }

  kind : ℕ
  kind = p.control / 64

  small : kind < 4
  unfolding kind
  small = omega (arith, w.control)

  pub fields_in_range : in_range (fields_of p) ≡ true
  unfolding kind
  fields_in_range =
      ⊎_elim (λ h. ap in_range (marked_at kind p h) ∙ marked_in_range_lem kind h)
      (⊎_elim (λ (k : kind ≡ 1). simp k p2p_in_range_lem) (λ (k : kind ≡ 2). simp k nn_in_range_lem))
      (four kind small)

  pub fields_back : packet_of (fields_of p) ≡ p
  unfolding kind
  fields_back =
      ⊎_elim (λ h. ap packet_of (marked_at kind p h) ∙ marked_back kind refl h)
      (⊎_elim (λ (k : kind ≡ 1). simp k (p2p_back k)) (λ (k : kind ≡ 2). simp k (nn_back k)))
      (four kind small)

-- ---- fields and their packet

pub record SameFields (f g : Fields) : Type 0 where
  pub kind : f.kind ≡ g.kind
  pub mark : f.mark ≡ g.mark
  pub sequence : f.sequence ≡ g.sequence
  pub stamp : f.stamp ≡ g.stamp
  pub direct : f.direct ≡ g.direct
  pub route : f.route ≡ g.route
  pub carries : f.carries ≡ g.carries
  pub parity : f.parity ≡ g.parity
  pub nine : f.nine ≡ g.nine
  pub word : f.word ≡ g.word
  pub source : f.source ≡ g.source
  pub destination : f.destination ≡ g.destination
  pub payload : f.payload ≡ g.payload

same_fields : (f g : Fields) → SameFields f g → f ≡ g
same_fields f g e i =
    record {
      kind = e.kind i;
      mark = e.mark i;
      sequence = e.sequence i;
      stamp = e.stamp i;
      direct = e.direct i;
      route = e.route i;
      carries = e.carries i;
      parity = e.parity i;
      nine = e.nine i;
      word = e.word i;
      source = e.source i;
      destination = e.destination i;
      payload = e.payload i;
    }

-- fields in range, of 32 bits each, make a whole packet, which reads back into them
pub record Forth (f : Fields) : Type 0 where
  pub whole : Whole (packet_of f)
  pub back : fields_of (packet_of f) ≡ f

module _ (f : Fields) (h : in_range f ≡ true) (hw : f.word < 2 ^ 32) (hp : f.payload < 2 ^ 32) where
  whole : control_of f < 256 → word_of f < 2 ^ 32 → Whole (packet_of f)
  whole hc w =
      let s : EndRanges f = end_ranges f (ends f h) in
      record { control = hc; nine = s.nine; word = w; payload = hp; absent = s.absent }

  marked_forth : (f.kind ≡ 0) ⊎ (f.kind ≡ 3) → Forth f
  marked_forth k =
      let both = marked_kind f.kind k in
      let small : f.kind < 4 = kind_small f h in
      let e : control_of f ≡ f.kind * 64 + (f.mark * 16 + f.stamp * 4) + f.carries * 2 + f.parity = simp (both.other, both.another) in
      let w : word_of f ≡ f.word = simp both.other in
      let r : MarkedRanges f = marked_ranges f (simp (both.other, both.another) at (own f h)) in
      let s : EndRanges f = end_ranges f (ends f h) in
      let z : control_of f / 64 ≡ f.kind = omega arith in
      let same : SameFields (marked_fields f.kind (packet_of f)) f = omega arith in
      record { whole = whole (omega arith) (omega arith); back = ap (λ (n : ℕ). fields_at n (packet_of f)) z ∙ marked_at f.kind (packet_of f) k ∙ same_fields _ _ same }

  p2p_forth : f.kind ≡ 1 → Forth f
  p2p_forth k =
      let e : control_of f ≡ 64 + f.sequence * 16 + f.stamp * 4 + f.carries * 2 + f.parity = simp k (omega arith) in
      let w : word_of f ≡ f.source * 65536 + f.destination = simp k in
      let r : P2pRanges f = p2p_ranges f (simp k at (own f h)) in
      let s : EndRanges f = end_ranges f (ends f h) in
      let z : control_of f / 64 ≡ 1 = omega arith in
      let same : SameFields (p2p_fields (packet_of f)) f = omega arith in
      record { whole = whole (omega arith) (omega arith); back = simp z (same_fields _ _ same) }

  nn_forth : f.kind ≡ 2 → Forth f
  nn_forth k =
      let e : control_of f ≡ 128 + f.direct * 32 + f.route * 4 + f.carries * 2 + f.parity = simp k (omega arith) in
      let w : word_of f ≡ f.word = simp k in
      let r : NnRanges f = nn_ranges f (simp k at (own f h)) in
      let s : EndRanges f = end_ranges f (ends f h) in
      let z : control_of f / 64 ≡ 2 = omega arith in
      let same : SameFields (nn_fields (packet_of f)) f = omega arith in
      record { whole = whole (omega arith) (omega arith); back = simp z (same_fields _ _ same) }

  pub forth : Forth f
  forth = ⊎_elim marked_forth (⊎_elim p2p_forth nn_forth) (four f.kind (kind_small f h))
