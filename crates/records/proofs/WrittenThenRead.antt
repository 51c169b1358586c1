-- Bytes that begin with the record of a call that writing accepts read as that call: kind by kind, with each field that the kind decides written
-- out, a record computes.
use mathlib.Core.Path.{◌≡◌, refl, sym, ap, ◌∙◌, subst}
use mathlib.Core.Logic.{inl, inr}
use mathlib.Core.Bool.{Bool, true, false, ◌&&◌, ◌||◌, and-eq-true_iff}
use mathlib.Core.List.{List, [], ◌∷◌, ◌++◌}
use Prim.Native.Nat.{ℕ, zero, suc, ◌+◌, ◌*◌, ◌/◌, ◌%◌, ◌≤◌}
use native.Mathlib.Omega.{arith}
use lib.Dec.{eqb, leb}
use lib.ListN.{length, get_or, length-append}
use borrow.Author.Tests.{eq-eqb, ne_eqb, eqb-true, leb-true, leb-false, le-ltb, le-leb}
use Rattle.packet.specs.Refusal.{first_of}
use Rattle.records.specs.declared.Call.{Call}
use Rattle.records.specs.Records.{body_of, record_of, zero_past, zeros_past, fields_fit, body_length, body_fine, read_refusals, call_of, call_at, record_read}
use Rattle.records.specs.BothWays.{Writable}
use Rattle.records.proofs.Keepables.{Kept, injection, round, change, read, kept, nine_of_lem}
use Rattle.records.proofs.Bodies.{fine_long}
use Rattle.records.proofs.ReadRecords.{Reads, read_found}

-- bytes that are a record are not refused
accepted : (s : List ℕ) → Reads s → first_of (read_refusals s) ≡ 0
accepted s r =
    let two = le-ltb (length s) 2 r.there.two in
    let whole = le-ltb (length s) (2 + body_length s) r.there.whole in
    let some = ne_eqb (body_length s) 0 (λ e. omega (arith, fine_long s r.fine)) in
    let version = eq-eqb (get_or s 2 0) 1 r.version in
    simp (two, whole, some, version, r.fine)

abbrev ReadsBack : Call → Type 0
ReadsBack c = (rest : List ℕ) → record_read (record_of c ++ rest) ≡ record { refusal = 0; length = length (record_of c); call = c }

-- a record's length is what its first two bytes say
back : (c : Call) (rest : List ℕ) → body_fine (record_of c ++ rest) ≡ true → c ≡ call_at (record_of c ++ rest)
    → record_read (record_of c ++ rest) ≡ record { refusal = 0; length = length (record_of c); call = c }
back c rest fine same =
    let s = record_of c ++ rest in
    let whole : 2 + body_length s ≤ length s = rw length-append (omega arith) in
    let long : 2 + length (body_of c) ≡ length (record_of c) = omega arith in
    let fits : Reads s = record { there = record { two = omega arith; whole = whole }; version = refl; fine = fine } in
    sym (read_found s (length (body_of c)) c (accepted s fits) (omega arith) same) ∙ (λ i. record { refusal = 0; length = long i; call = c })

-- two bytes of a number are the number
two_bytes : (n : ℕ) → n ≡ n / 256 * 256 + n % 256
two_bytes n = omega arith

round_back : ReadsBack (call_of 2 0 0 0)
round_back rest = back (call_of 2 0 0 0) rest refl refl

module _ (chip : ℕ) where
  change_back : (link up : ℕ) → up ≤ 1 → ReadsBack (call_of 3 chip link up)
  change_back link up h rest = back (call_of 3 chip link up) rest (le-leb up 1 h) (λ i. call_of 3 (two_bytes chip i) link up)

  read_back : ReadsBack (call_of 4 chip 0 0)
  read_back rest = back (call_of 4 chip 0 0) rest refl (λ i. call_of 4 (two_bytes chip i) 0 0)

  abbrev injected : ℕ → List ℕ → ℕ → Call
  injected n b of = record { kind = 1; chip = of; link = 0; up = 0; length = n; bytes = b }

  five_back : (a b c d e : ℕ) → ReadsBack (injected 5 (a ∷ b ∷ c ∷ d ∷ e ∷ 0 ∷ 0 ∷ 0 ∷ 0 ∷ []) chip)
  five_back a b c d e rest =
      let call = injected 5 (a ∷ b ∷ c ∷ d ∷ e ∷ 0 ∷ 0 ∷ 0 ∷ 0 ∷ []) in
      back (call chip) rest refl (ap call (two_bytes chip))

  nine_back : (a b c d e f g h k : ℕ) → ReadsBack (injected 9 (a ∷ b ∷ c ∷ d ∷ e ∷ f ∷ g ∷ h ∷ k ∷ []) chip)
  nine_back a b c d e f g h k rest =
      let call = injected 9 (a ∷ b ∷ c ∷ d ∷ e ∷ f ∷ g ∷ h ∷ k ∷ []) in
      back (call chip) rest refl (ap call (two_bytes chip))

-- the tests of the packet's bytes, up to the kth
abbrev pasts : ℕ → List ℕ → ℕ → Bool
pasts n b zero = zero_past n b 0
pasts n b (suc k) = pasts n b k && zero_past n b (suc k)

module _ (n : ℕ) (b : List ℕ) where
  past_one : (m k : ℕ) → k ≤ m → pasts n b m ≡ true → zero_past n b k ≡ true
  past_one zero k h e = subst (λ (j : ℕ). zero_past n b j ≡ true) (omega arith) e
  past_one (suc m) k h e = go (past_one m k) (leb k m) refl
    where
      both : (pasts n b m ≡ true) × (zero_past n b (suc m) ≡ true)
      both = (and-eq-true_iff (pasts n b m) (zero_past n b (suc m))).0 e

      go : (k ≤ m → pasts n b m ≡ true → zero_past n b k ≡ true) → (t : Bool) → leb k m ≡ t → zero_past n b k ≡ true
      go before true x = before (leb-true _ _ x) both.0
      go before false x =
          let last : suc m ≡ k = omega (arith, leb-false k m x) in
          subst (λ (j : ℕ). zero_past n b j ≡ true) last both.1

  past_zero : zeros_past n b ≡ true → (k : ℕ) → (n ≤ k) × (k ≤ 8) → get_or b k 0 ≡ 0
  past_zero e k h = eqb-true _ _ (subst (λ (t : Bool). (t || eqb (get_or b k 0) 0) ≡ true) (le-ltb k n h.0) (past_one 8 k h.1 e))

module _ (b : List ℕ) (nine : length b ≡ 9) where
  five_of : zeros_past 5 b ≡ true → b ≡ get_or b 0 0 ∷ get_or b 1 0 ∷ get_or b 2 0 ∷ get_or b 3 0 ∷ get_or b 4 0 ∷ 0 ∷ 0 ∷ 0 ∷ 0 ∷ []
  five_of e =
      let z = past_zero 5 b e in
      nine_of_lem b nine
      ∙ (λ i.
      get_or b 0 0 ∷ get_or b 1 0 ∷ get_or b 2 0 ∷ get_or b 3 0 ∷ get_or b 4 0 ∷ z 5 (omega arith) i ∷ z 6 (omega arith) i ∷ z 7 (omega arith) i
      ∷ z 8 (omega arith) i
      ∷ [])

  none_of : zeros_past 0 b ≡ true → b ≡ 0 ∷ 0 ∷ 0 ∷ 0 ∷ 0 ∷ 0 ∷ 0 ∷ 0 ∷ 0 ∷ []
  none_of e =
      let z = past_zero 0 b e in
      nine_of_lem b nine
      ∙ (λ i.
      z 0 (omega arith) i ∷ z 1 (omega arith) i ∷ z 2 (omega arith) i ∷ z 3 (omega arith) i ∷ z 4 (omega arith) i ∷ z 5 (omega arith) i
      ∷ z 6 (omega arith) i
      ∷ z 7 (omega arith) i
      ∷ z 8 (omega arith) i
      ∷ [])

pub record_reads : (c : Call) → Writable c → ReadsBack c
record_reads c w = go (kept c w.accepted)
  where
    zeros : (n : ℕ) → c.length ≡ n → zeros_past n c.bytes ≡ true
    zeros n e =
        subst (λ (m : ℕ). zeros_past m c.bytes ≡ true) e
        ((and-eq-true_iff (fields_fit c) (zeros_past c.length c.bytes)).0 w.accepted).1

    -- the call, with each field that its kind decides written out
    out : (d : Call) → c.kind ≡ d.kind → c.chip ≡ d.chip → c.link ≡ d.link → c.up ≡ d.up → c.length ≡ d.length → c.bytes ≡ d.bytes
        → ReadsBack d → ReadsBack c
    out d k a l u n b =
        subst ReadsBack (λ i. record { kind = sym k i; chip = sym a i; link = sym l i; up = sym u i; length = sym n i; bytes = sym b i })

    go : Kept c → ReadsBack c
    go (injection k a l u (inl n)) = out _ k refl l u n (five_of c.bytes w.nine (zeros 5 n)) (five_back c.chip _ _ _ _ _)
    go (injection k a l u (inr n)) = out _ k refl l u n (nine_of_lem c.bytes w.nine) (nine_back c.chip _ _ _ _ _ _ _ _ _)
    go (round k a l u n) = out _ k a l u n (none_of c.bytes w.nine (zeros 0 n)) round_back
    go (change k a l u n) = out _ k refl refl refl n (none_of c.bytes w.nine (zeros 0 n)) (change_back c.chip c.link c.up u)
    go (read k a l u n) = out _ k refl l u n (none_of c.bytes w.nine (zeros 0 n)) (read_back c.chip)
