-- A record that is read is the record that writing its call gives, and writing accepts that call: kind by kind, each byte from what is known
-- of a record that is read.
use mathlib.Core.Path.{◌≡◌, refl, sym, ap, ◌∙◌, subst}
use mathlib.Core.Logic.{◌⊎◌, inl, inr}
use mathlib.Core.Bool.{Bool, true, false, cond}
use mathlib.Core.List.{List, [], ◌∷◌}
use Prim.Native.Nat.{ℕ, zero, suc, ◌+◌, ◌/◌, ◌%◌, ◌≤◌, ◌<◌}
use native.Mathlib.Omega.{arith}
use lib.Dec.{eqb, ltb}
use lib.ListN.{length, get_or, take, drop}
use lib.Seq.{drop-cons}
use borrow.Author.Tests.{eq-eqb, ne_eqb, eqb-true, eqb-false, lt-ltb, le-leb}
use Rattle.records.specs.declared.Call.{Call}
use Rattle.records.specs.declared.Record.{Record}
use Rattle.records.specs.Records.{by_kind, record_of, keepable, body_length, chip_at, five_at, nine_at, call_of, injection_at, call_at, record_read}
use Rattle.records.specs.BothWays.{Bytes, Writable}
use Rattle.records.proofs.Bodies.{fine_injection, fine_round, fine_change, fine_read}
use Rattle.records.proofs.ReadRecords.{Reads, reads, read_found, read_accepted}

-- n cells of a list from place i on, one by one
abbrev cells : ℕ → ℕ → List ℕ → List ℕ
cells zero i s = []
cells (suc n) i s = get_or s i 0 ∷ cells n (suc i) s

take_cells : (n i : ℕ) (s : List ℕ) → i + n ≤ length s → cells n i s ≡ take n (drop i s)
take_cells zero i s h = refl
take_cells (suc n) i s h =
    ap (λ (l : List ℕ). get_or s i 0 ∷ l) (take_cells n (suc i) s (omega arith)) ∙ sym (ap (take (suc n)) (drop-cons s i 0 (omega arith)))

-- bytes, each in turn
abbrev Each : List ℕ → Type 0
Each [] = Unit {0}
Each (a ∷ l) = (a < 256) × Each l

bytes_of : (l : List ℕ) → Each l → Bytes l
bytes_of [] h i = omega arith
bytes_of (a ∷ l) h zero = h.0
bytes_of (a ∷ l) h (suc i) = bytes_of l h.1 i

-- What holds of the call that n bytes keep.
pub record Keeps (s : List ℕ) (n : ℕ) (c : Call) : Type 0 where
  pub writable : Writable c
  pub written : record_of c ≡ take n s

module _ (s : List ℕ) (bytes : Bytes s) (r : Reads s) where
  abbrev at : ℕ → ℕ
  at k = get_or s k 0

  -- the bytes that every kind has, and those of a chip
  framed : (n kind : ℕ) {l m : List ℕ} → n < 256 → body_length s ≡ n → at 3 ≡ kind → l ≡ m → 0 ∷ n ∷ 1 ∷ kind ∷ l ≡ at 0 ∷ at 1 ∷ at 2 ∷ at 3 ∷ m
  framed n kind h e k same =
      let high : 0 ≡ at 0 = omega (arith, bytes 1) in
      let low : n ≡ at 1 = omega (arith, bytes 1) in
      λ i. high i ∷ low i ∷ sym r.version i ∷ sym k i ∷ same i

  chip_framed : (n kind : ℕ) (l : List ℕ) → n < 256 → body_length s ≡ n → at 3 ≡ kind
      → 0 ∷ n ∷ 1 ∷ kind ∷ chip_at s / 256 ∷ chip_at s % 256 ∷ l ≡ at 0 ∷ at 1 ∷ at 2 ∷ at 3 ∷ at 4 ∷ at 5 ∷ l
  chip_framed n kind l h e k =
      let high : chip_at s / 256 ≡ at 4 = omega (arith, bytes 5) in
      let low : chip_at s % 256 ≡ at 5 = omega (arith, bytes 5) in
      framed n kind h e k (λ i. high i ∷ low i ∷ l)

  -- a call without a packet, whose record is the first bytes
  packetless : (n kind chip link up : ℕ) → keepable (call_of kind chip link up) ≡ true → record_of (call_of kind chip link up) ≡ cells n 0 s
      → n ≤ length s → Keeps s n (call_of kind chip link up)
  packetless n kind chip link up fits same h =
      let zeros = bytes_of (0 ∷ 0 ∷ 0 ∷ 0 ∷ 0 ∷ 0 ∷ 0 ∷ 0 ∷ 0 ∷ []) (omega arith) in
      record { writable = record { nine = refl; bytes = zeros; accepted = fits }; written = same ∙ take_cells n 0 s (omega arith) }

  chip_small : ltb (chip_at s) 65536 ≡ true
  chip_small = lt-ltb (chip_at s) 65536 (omega (arith, bytes 4, bytes 5))

  round_kept : at 3 ≡ 2 → body_length s ≡ 2 → Keeps s 4 (call_of 2 0 0 0)
  round_kept k n = packetless 4 2 0 0 0 refl (framed 2 2 (omega arith) n k refl) (omega (arith, r.there.whole))

  change_kept : at 3 ≡ 3 → body_length s ≡ 6 → at 7 ≤ 1 → Keeps s 8 (call_of 3 (chip_at s) (at 6) (at 7))
  change_kept k n u =
      let fits : keepable (call_of 3 (chip_at s) (at 6) (at 7)) ≡ true = simp (chip_small, lt-ltb (at 6) 256 (bytes 6), le-leb (at 7) 1 u) in
      packetless 8 3 (chip_at s) (at 6) (at 7) fits (chip_framed 6 3 (at 6 ∷ at 7 ∷ []) (omega arith) n k) (omega (arith, r.there.whole))

  read_kept : at 3 ≡ 4 → body_length s ≡ 4 → Keeps s 6 (call_of 4 (chip_at s) 0 0)
  read_kept k n = packetless 6 4 (chip_at s) 0 0 (simp chip_small) (chip_framed 4 4 [] (omega arith) n k) (omega (arith, r.there.whole))

  abbrev injected : ℕ → List ℕ → Call
  injected n b = record { kind = 1; chip = chip_at s; link = 0; up = 0; length = n; bytes = b }

  five_kept : at 3 ≡ 1 → body_length s ≡ 9 → Keeps s 11 (injected 5 (five_at s))
  five_kept k n =
      let five = bytes_of (five_at s) (omega (arith, bytes 6, bytes 7, bytes 8, bytes 9, bytes 10)) in
      record {
        writable = record { nine = refl; bytes = five; accepted = simp chip_small };
        written = chip_framed 9 1 (take 5 (five_at s)) (omega arith) n k ∙ take_cells 11 0 s (omega (arith, r.there.whole));
      }

  nine_kept : at 3 ≡ 1 → body_length s ≡ 13 → Keeps s 15 (injected 9 (nine_at s))
  nine_kept k n =
      let nine = bytes_of (nine_at s) (omega (arith, bytes 6, bytes 7, bytes 8, bytes 9, bytes 10, bytes 11, bytes 12, bytes 13, bytes 14)) in
      record {
        writable = record { nine = refl; bytes = nine; accepted = simp chip_small };
        written = chip_framed 13 1 (nine_at s) (omega arith) n k ∙ take_cells 15 0 s (omega (arith, r.there.whole));
      }

  -- the call of each kind, and an injection of each length
  abbrev of_kind : ℕ → Call
  of_kind kind = by_kind kind (injection_at s) (call_of 2 0 0 0) (call_of 3 (chip_at s) (at 6) (at 7)) (call_of 4 (chip_at s) 0 0)

  abbrev of_length : Bool → Call
  of_length long = cond long (injected 9 (nine_at s)) (injected 5 (five_at s))

  call_kept : Keeps s (2 + body_length s) (call_at s)
  call_kept = go (eqb (at 3) 1) (eqb (at 3) 2) (eqb (at 3) 3) refl refl refl
    where
      known : (n : ℕ) {c : Call} → body_length s ≡ n → call_at s ≡ c → Keeps s (2 + n) c → Keeps s (2 + body_length s) (call_at s)
      known n {c} e f k = subst (Keeps s (2 + body_length s)) (sym f) (subst (λ (m : ℕ). Keeps s (2 + m) c) (sym e) k)

      injection : at 3 ≡ 1 → (body_length s ≡ 9) ⊎ (body_length s ≡ 13) → Keeps s (2 + body_length s) (call_at s)
      injection k (inl e) = known 9 e (ap of_kind k ∙ ap of_length (ne_eqb (body_length s) 13 (λ x. omega arith))) (five_kept k e)
      injection k (inr e) = known 13 e (ap of_kind k ∙ ap of_length (eq-eqb (body_length s) 13 e)) (nine_kept k e)

      go : (a b c : Bool) → eqb (at 3) 1 ≡ a → eqb (at 3) 2 ≡ b → eqb (at 3) 3 ≡ c → Keeps s (2 + body_length s) (call_at s)
      go true b c x y z = injection (eqb-true _ _ x) (fine_injection s r.fine (eqb-true _ _ x))
      go false true c x y z =
          let k = eqb-true (at 3) 2 y in
          let n = fine_round s r.fine k in
          known 2 n (ap of_kind k) (round_kept k n)
      go false false true x y z =
          let k = eqb-true (at 3) 3 z in
          let n = fine_change s r.fine k in
          known 6 n.0 (ap of_kind k) (change_kept k n.0 n.1)
      go false false false x y z =
          let n = fine_read s r.fine (eqb-false _ _ x) (eqb-false _ _ y) (eqb-false _ _ z) in
          known 4 n.1 (ap of_kind n.0) (read_kept n.0 n.1)

pub record_kept : (s : List ℕ) → Bytes s → (record_read s).refusal ≡ 0 → Keeps s (record_read s).length (record_read s).call
record_kept s bytes e =
    let none = read_accepted s e in
    subst (λ (q : Record). Keeps s q.length q.call) (read_found s (body_length s) (call_at s) none refl refl) (call_kept s bytes (reads s none))
