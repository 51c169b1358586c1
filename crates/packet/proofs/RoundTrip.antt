-- Reading and packing agree both ways. What carries it, beside the laws of fields: the bytes of a word are its digits to the base 256.
use mathlib.Core.Path.{◌≡◌, refl, sym, ap, ◌∙◌, subst}
use mathlib.Core.Logic.{◌⊎◌, inl, inr, ⊎_elim}
use mathlib.Core.Bool.{Bool, true, false, cond}
use mathlib.Core.List.{List, [], ◌∷◌, ◌++◌}
use Prim.Native.Nat.{ℕ, zero, suc, ◌+◌, ◌*◌, ◌/◌, ◌%◌, ◌<◌, ◌^◌}
use native.Mathlib.Omega.{arith}
use native.Mathlib.Nat.{div-div-eq-div-mul}
use lib.ListN.{length, get_or}
use lib.Dec.{eqb, lit<}
use borrow.Author.Tests.{eq-eqb, ne_eqb, eqb-true, eqb-false}
use Rattle.packet.specs.declared.Fields.{Fields}
use Rattle.packet.specs.declared.Packet.{Packet}
use Rattle.packet.specs.declared.Packed.{Packed}
use Rattle.packet.specs.declared.FieldsRead.{FieldsRead}
use Rattle.packet.specs.Bytes.{right_length, taken_of, packet_at, big_endian, packed_as, packed_bytes, bytes_in, AllBytes}
use Rattle.packet.specs.Fields.{fields_of, read_from, read_of}
use Rattle.packet.specs.Packing.{in_range, packet_of, packed_of}
use Rattle.packet.specs.Whole.{Whole}
use Rattle.packet.proofs.Packing.{packs}
use Rattle.packet.proofs.FieldsBack.{Forth, forth, fields_in_range, fields_back}

-- ---- a packet and its bytes

-- a list of five or nine numbers, written out
data Listed : List ℕ → Type 0 where
  five : {a b c d e : ℕ} → Listed (a ∷ b ∷ c ∷ d ∷ e ∷ [])
  nine : {a b c d e f g h i : ℕ} → Listed (a ∷ b ∷ c ∷ d ∷ e ∷ f ∷ g ∷ h ∷ i ∷ [])

listed : (s : List ℕ) → (length s ≡ 5) ⊎ (length s ≡ 9) → Listed s
listed [] n = absurd (⊎_elim (λ (e : 0 ≡ 5). omega arith) (λ (e : 0 ≡ 9). omega arith) n)
listed (a ∷ []) n = absurd (⊎_elim (λ (e : 1 ≡ 5). omega arith) (λ (e : 1 ≡ 9). omega arith) n)
listed (a ∷ b ∷ []) n = absurd (⊎_elim (λ (e : 2 ≡ 5). omega arith) (λ (e : 2 ≡ 9). omega arith) n)
listed (a ∷ b ∷ c ∷ []) n = absurd (⊎_elim (λ (e : 3 ≡ 5). omega arith) (λ (e : 3 ≡ 9). omega arith) n)
listed (a ∷ b ∷ c ∷ d ∷ []) n = absurd (⊎_elim (λ (e : 4 ≡ 5). omega arith) (λ (e : 4 ≡ 9). omega arith) n)
listed (a ∷ b ∷ c ∷ d ∷ e ∷ []) _ = five
listed (a ∷ b ∷ c ∷ d ∷ e ∷ f ∷ []) n = absurd (⊎_elim (λ (e : 6 ≡ 5). omega arith) (λ (e : 6 ≡ 9). omega arith) n)
listed (a ∷ b ∷ c ∷ d ∷ e ∷ f ∷ g ∷ []) n = absurd (⊎_elim (λ (e : 7 ≡ 5). omega arith) (λ (e : 7 ≡ 9). omega arith) n)
listed (a ∷ b ∷ c ∷ d ∷ e ∷ f ∷ g ∷ h ∷ []) n = absurd (⊎_elim (λ (e : 8 ≡ 5). omega arith) (λ (e : 8 ≡ 9). omega arith) n)
listed (a ∷ b ∷ c ∷ d ∷ e ∷ f ∷ g ∷ h ∷ i ∷ []) _ = nine
listed (a ∷ b ∷ c ∷ d ∷ e ∷ f ∷ g ∷ h ∷ i ∷ j ∷ s) n = absurd (⊎_elim (λ e. omega arith) (λ e. omega arith) n)

right_length_lem : (s : List ℕ) → right_length s ≡ true → (length s ≡ 5) ⊎ (length s ≡ 9)
right_length_lem s h = go (eqb (length s) 5) refl
  where
    go : (b : Bool) → eqb (length s) 5 ≡ b → (length s ≡ 5) ⊎ (length s ≡ 9)
    go true e = inl (eqb-true _ _ e)
    go false e = inr (eqb-true _ _ (simp e at h))

big_back : (a b c d : ℕ) → a < 256 → b < 256 → c < 256 → d < 256
    → big_endian (a * 16777216 + b * 65536 + c * 256 + d) ≡ a ∷ b ∷ c ∷ d ∷ []
big_back a b c d ha hb hc hd =
    let w = a * 16777216 + b * 65536 + c * 256 + d in
    let ea : w / 16777216 ≡ a = omega arith in
    let eb : w / 65536 % 256 ≡ b = omega arith in
    let ec : w / 256 % 256 ≡ c = omega arith in
    let ed : w % 256 ≡ d = omega arith in
    λ i. ea i ∷ eb i ∷ ec i ∷ ed i ∷ []

big_forth : (w : ℕ) → w / 16777216 * 16777216 + w / 65536 % 256 * 65536 + w / 256 % 256 * 256 + w % 256 ≡ w
big_forth w = omega (arith, div-div-eq-div-mul w 256 256, div-div-eq-div-mul w 65536 256)

byte_twice : (a : ℕ) → a < 256 → a % 256 % 256 ≡ a
byte_twice a h = omega arith

bytes_back : (s : List ℕ) → AllBytes s → Listed s → bytes_in (packed_bytes (packet_at s)) ≡ s
bytes_back s b five = λ i. byte_twice _ (b.byte 0) i ∷ big_back _ _ _ _ (b.byte 1) (b.byte 2) (b.byte 3) (b.byte 4) i
bytes_back s b nine = λ i. byte_twice _ (b.byte 0) i ∷ big_back _ _ _ _ (b.byte 1) (b.byte 2) (b.byte 3) (b.byte 4) i ++ big_back _ _ _ _ (b.byte 5) (b.byte 6) (b.byte 7) (b.byte 8) i

bytes_whole : (s : List ℕ) → AllBytes s → Listed s → Whole (packet_at s)
bytes_whole s b five = record { control = omega arith; nine = lit< tt; word = omega (arith, b.byte 1, b.byte 2, b.byte 3, b.byte 4); payload = lit< tt; absent = λ e. refl }
bytes_whole s b nine =
    record {
      control = omega arith;
      nine = lit< tt;
      word = omega (arith, b.byte 1, b.byte 2, b.byte 3, b.byte 4);
      payload = omega (arith, b.byte 5, b.byte 6, b.byte 7, b.byte 8);
      absent = λ e. absurd (eqb-false 1 0 refl e);
    }

-- the bytes of a whole packet: five or nine, and the packet again
record Given (p : Packet) : Type 0 where
  pub bytes : AllBytes (bytes_in (packed_bytes p))
  pub again : taken_of (bytes_in (packed_bytes p)) ≡ record { refusal = 0; packet = p }

bytes_nil : AllBytes []
bytes_nil = record { byte = λ i. lit< tt }

bytes_cons : {a : ℕ} {s : List ℕ} → a < 256 → AllBytes s → AllBytes (a ∷ s)
bytes_cons {a} {s} h b = record { byte = go }
  where
    go : (i : ℕ) → get_or (a ∷ s) i 0 < 256
    go zero = h
    go (suc i) = b.byte i

big_bytes : {w : ℕ} {s : List ℕ} → w < 2 ^ 32 → AllBytes s → AllBytes (big_endian w ++ s)
big_bytes h b = bytes_cons (omega arith) (bytes_cons (omega arith) (bytes_cons (omega arith) (bytes_cons (omega arith) b)))

given : (p : Packet) → Whole p → Given p
given p w = go p.nine refl
  where
    control : p.control % 256 % 256 ≡ p.control
    control = byte_twice p.control w.control

    go : (n : ℕ) → p.nine ≡ n → Given p
    go zero e =
        record {
          bytes = simp (eq-eqb _ _ e) (bytes_cons (omega arith) (big_bytes w.word bytes_nil));
          again = simp (eq-eqb _ _ e)
              (λ i. record { refusal = 0; packet = record { control = control i; nine = sym e i; word = big_forth p.word i; payload = sym (w.absent e) i } });
        }
    go (suc n) e =
        let one : p.nine ≡ 1 = omega arith in
        let some : p.nine ≡ 0 → ⊥ = λ z. omega arith in
        record {
          bytes = simp (ne_eqb _ _ some) (bytes_cons (omega arith) (big_bytes w.word (big_bytes w.payload bytes_nil)));
          again = simp (ne_eqb _ _ some)
              (λ i. record { refusal = 0; packet = record { control = control i; nine = sym one i; word = big_forth p.word i; payload = big_forth p.payload i } });
        }

-- ---- the two theorems

reads : (s : List ℕ) (p : Packet) → taken_of s ≡ record { refusal = 0; packet = p } → read_of s ≡ record { refusal = 0; fields = fields_of p }
unfolding read_of
reads s p e = ap read_from e

takes : (s : List ℕ) → right_length s ≡ true → taken_of s ≡ record { refusal = 0; packet = packet_at s }
takes s h = simp h

no_refusal : (p : Packet) → (packed_bytes p).refusal ≡ 0
no_refusal p = go (eqb p.nine 0)
  where
    go : (b : Bool) → (cond b (packed_as p 5 0) (packed_as p 9 p.payload)).refusal ≡ 0
    go true = refl
    go false = refl

-- what reading says of five or nine bytes: fields in range, whose packing gives the same bytes
pub record ReadBack (s : List ℕ) : Type 0 where
  pub accepted : (read_of s).refusal ≡ 0
  pub fields_in_range : in_range (read_of s).fields ≡ true
  pub packed : (packed_of (read_of s).fields).refusal ≡ 0
  pub same : bytes_in (packed_of (read_of s).fields) ≡ s

pub read_then_pack : (s : List ℕ) → AllBytes s → right_length s ≡ true → ReadBack s
read_then_pack s b h =
    let l : Listed s = listed s (right_length_lem s h) in
    let p : Packet = packet_at s in
    let w : Whole p = bytes_whole s b l in
    let e : read_of s ≡ record { refusal = 0; fields = fields_of p } = reads s p (takes s h) in
    let k : packed_of (fields_of p) ≡ packed_bytes p = packs (fields_of p) (fields_in_range p w) ∙ ap packed_bytes (fields_back p w) in
    record {
      accepted = ap (λ (r : FieldsRead). r.refusal) e;
      fields_in_range = ap (λ (r : FieldsRead). in_range r.fields) e ∙ fields_in_range p w;
      packed = ap (λ (r : FieldsRead). (packed_of r.fields).refusal) e ∙ ap (λ (r : Packed). r.refusal) k ∙ no_refusal p;
      same = ap (λ (r : FieldsRead). bytes_in (packed_of r.fields)) e ∙ ap bytes_in k ∙ bytes_back s b l;
    }

-- what packing says of fields in range: bytes, which read into the same fields
pub record PackedBack (f : Fields) : Type 0 where
  pub accepted : (packed_of f).refusal ≡ 0
  pub bytes : AllBytes (bytes_in (packed_of f))
  pub same : read_of (bytes_in (packed_of f)) ≡ record { refusal = 0; fields = f }

pub pack_then_read : (f : Fields) → in_range f ≡ true → f.word < 2 ^ 32 → f.payload < 2 ^ 32 → PackedBack f
pack_then_read f h hw hp =
    let both : Forth f = forth f h hw hp in
    let p : Packet = packet_of f in
    let g : Given p = given p both.whole in
    let e : packed_of f ≡ packed_bytes p = packs f h in
    record {
      accepted = ap (λ (r : Packed). r.refusal) e ∙ no_refusal p;
      bytes = subst (λ (r : Packed). AllBytes (bytes_in r)) (sym e) g.bytes;
      same = ap (λ (r : Packed). read_of (bytes_in r)) e ∙ reads (bytes_in (packed_bytes p)) p g.again
          ∙ ap (λ (x : Fields). record { refusal = 0; fields = x }) both.back;
    }
