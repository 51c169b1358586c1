-- A mark or stamp rewritten: parity is odd, the new field is the one asked for, and every other field is as before. Parity is shown by
-- counting the ones of a control byte as its lowest bit and the rest; the fields by computing all control bytes.
use mathlib.Core.Path.{◌≡◌, refl, ap, ◌∙◌}
use mathlib.Core.Bool.{Bool, true, ◌&&◌, and-eq-true_iff}
use Prim.Native.Nat.{ℕ, ◌+◌, ◌*◌, ◌/◌, ◌%◌, ◌<◌}
use native.Mathlib.Omega.{arith}
use lib.Count.{ones, ones_step}
use lib.Dec.{eqb, ltb}
use borrow.Author.Tests.{eq-eqb, eqb-true, ltb-true}
use Rattle.packet.specs.declared.Packet.{Packet}
use Rattle.packet.specs.Control.{kind_of, mark_of, stamp_of, carries_of, mark_in, stamp_in, parity_in}
use Rattle.packet.specs.Parity.{ones_of, is_odd, with_control, set_right, with_mark, with_stamp}
use Rattle.packet.proofs.Small.{every, every₂, at₂}

ones_parity : (c b : ℕ) → ones (parity_in c b) ≡ b % 2 + ones (c / 2)
ones_parity c b =
    let low : parity_in c b % 2 ≡ b % 2 = omega arith in
    let high : parity_in c b / 2 ≡ c / 2 = omega arith in
    ones_step (parity_in c b) ∙ (λ i. low i + ones (high i))

-- "Parity is odd", whatever the packet was
pub set_right_odd : (p : Packet) → is_odd (set_right p) ≡ true
set_right_odd p =
    let c = p.control in
    let n = ones_of (with_control p (parity_in c 0)) in
    let e : ones_of (set_right p) % 2 ≡ 1 = omega (arith, ones_parity c 0, ones_parity c (n + 1)) in
    eq-eqb _ _ e

-- A field of two bits put in anew, `put` and `own` being how it is put in and taken out, `other` the two bits beside it: the packet q that comes
-- of it has the new field, odd parity, and all else as it was.
pub record FieldSet (own other : ℕ → ℕ) (p q : Packet) (v : ℕ) : Type 0 where
  pub odd : is_odd q ≡ true
  pub byte : q.control < 256
  pub new : own q.control ≡ v
  pub beside : other q.control ≡ other p.control
  pub kind : kind_of q.control ≡ kind_of p.control
  pub carries : carries_of q.control ≡ carries_of p.control
  pub nine : q.nine ≡ p.nine
  pub word : q.word ≡ p.word
  pub payload : q.payload ≡ p.payload

-- the test at a control byte c; v holds the new field and the parity bit, v / 2 and v % 2
field_test : (ℕ → ℕ → ℕ) → (ℕ → ℕ) → (ℕ → ℕ) → ℕ → ℕ → Bool
field_test put own other c v =
    let d = parity_in (put c (v / 2)) v in
    ltb d 256 && eqb (own d) (v / 2) && eqb (other d) (other c) && eqb (kind_of d) (kind_of c) && eqb (carries_of d) (carries_of c)

field_set : (put : ℕ → ℕ → ℕ) (own other : ℕ → ℕ) → every₂ 256 8 (field_test put own other) ≡ true
    → (p : Packet) (v : ℕ) → p.control < 256 → v < 4 → FieldSet own other p (set_right (with_control p (put p.control v))) v
unfolding field_test
field_set put own other test p v hc hv =
    let n = ones_of (with_control p (parity_in (put p.control v) 0)) + 1 in
    let w : ℕ = v * 2 + n % 2 in
    let field : w / 2 ≡ v = omega arith in
    let bit : w % 2 ≡ n % 2 = omega arith in
    let e : parity_in (put p.control (w / 2)) w ≡ parity_in (put p.control v) n = λ i. put p.control (field i) / 2 * 2 + bit i in
    let t : _ = simp (e, and-eq-true_iff) at (at₂ 256 8 (field_test put own other) test p.control w hc (omega arith)) in
    record {
      odd = set_right_odd (with_control p (put p.control v));
      byte = ltb-true _ _ t.0.0.0.0;
      new = eqb-true _ _ t.0.0.0.1 ∙ field;
      beside = eqb-true _ _ t.0.0.1;
      kind = eqb-true _ _ t.0.1;
      carries = eqb-true _ _ t.1;
      nine = refl;
      word = refl;
      payload = refl;
    }

pub mark_set : (p : Packet) (m : ℕ) → p.control < 256 → m < 4 → FieldSet mark_of stamp_of p (with_mark p m) m
unfolding every every₂ field_test
mark_set = field_set mark_in mark_of stamp_of refl

pub stamp_set : (p : Packet) (s : ℕ) → p.control < 256 → s < 4 → FieldSet stamp_of mark_of p (with_stamp p s) s
unfolding every every₂ field_test
stamp_set = field_set stamp_in stamp_of mark_of refl

-- ---- a mark rewritten twice

-- what the parity bit was before it is set right counts for nothing
set_right_again : (p : Packet) (c b : ℕ) → set_right (with_control p (parity_in c b)) ≡ set_right (with_control p c)
set_right_again p c b =
    let high : parity_in c b / 2 ≡ c / 2 = omega arith in
    λ i. with_control p (high i * 2 + (ones (high i * 2 + 0) + ones p.word + ones p.payload + 1) % 2)

half : (c m : ℕ) → mark_in c m / 2 ≡ c / 64 * 32 + m % 4 * 8 + c % 16 / 2
half c m = omega arith

-- the last mark alone is left
pub mark_twice : (p : Packet) (m n : ℕ) → with_mark (with_mark p m) n ≡ with_mark p n
mark_twice p m n =
    let c = p.control in
    let b : ℕ = ones_of (with_control p (parity_in (mark_in c m) 0)) + 1 in
    let top : parity_in (mark_in c m) b / 64 ≡ c / 64 = omega (arith, half c m) in
    let rest : parity_in (mark_in c m) b % 16 ≡ c % 16 / 2 * 2 + b % 2 = omega (arith, half c m) in
    let e : mark_in (parity_in (mark_in c m) b) n ≡ parity_in (mark_in c n) b = omega (arith, half c n) in
    ap (λ (d : ℕ). set_right (with_control p d)) e ∙ set_right_again p (mark_in c n) b
