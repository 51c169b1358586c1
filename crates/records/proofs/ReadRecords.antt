-- What is known of bytes that read as a record, and what is answered for those that do not.
use mathlib.Core.Path.{◌≡◌, refl, sym, ap, ◌∙◌}
use mathlib.Core.Bool.{Bool, true, false, cond}
use mathlib.Core.List.{List}
use Prim.Native.Nat.{ℕ, ◌+◌, ◌≤◌}
use lib.Dec.{eqb, ltb, lit≤}
use lib.ListN.{length, get_or}
use borrow.Author.Tests.{eq-eqb, ne_eqb, ltb-false, eqb-true, not-false}
use Rattle.packet.specs.Refusal.{first_of}
use Rattle.packet.proofs.First.{not_refused}
use Rattle.lists.proofs.Bools.{neither}
use Rattle.records.specs.declared.Call.{Call}
use Rattle.records.specs.declared.Record.{Record}
use Rattle.records.specs.Records.{body_length, body_fine, Readable, read_refusals, chip_at, five_at, nine_at, call_of, call_at, record_read}

pub record Reads (s : List ℕ) : Type 0 where
  pub there : Readable s
  pub version : get_or s 2 0 ≡ 1
  pub fine : body_fine s ≡ true

pub reads : (s : List ℕ) → first_of (read_refusals s) ≡ 0 → Reads s
reads s e =
    let well = not_refused (read_refusals s) refl e in
    let long = neither (ltb (length s) 2) (ltb (length s) (2 + body_length s)) (well 12) in
    record {
      there = record { two = ltb-false _ _ long.0; whole = ltb-false _ _ long.1 };
      version = eqb-true _ _ (not-false _ (neither (eqb (body_length s) 0) _ (well 13)).1);
      fine = not-false _ (well 14);
    }

module _ (s : List ℕ) where
  abbrev answer : Bool → Record
  answer b =
      cond b (record { refusal = 0; length = 2 + body_length s; call = call_at s })
      (record { refusal = first_of (read_refusals s); length = 0; call = call_of 0 0 0 0 })

  pub read_refused : (r : ℕ) (c : Call) → r ≡ first_of (read_refusals s) → (r ≡ 0 → ⊥) → c ≡ call_of 0 0 0 0 → record { refusal = r; length = 0; call = c } ≡ record_read s
  read_refused r c e some f = (λ i. record { refusal = e i; length = 0; call = f i }) ∙ sym (ap answer (ne_eqb _ 0 (λ z. some (e ∙ z))))

  pub read_found : (n : ℕ) (c : Call) → first_of (read_refusals s) ≡ 0 → n ≡ body_length s → c ≡ call_at s → record { refusal = 0; length = 2 + n; call = c } ≡ record_read s
  read_found n c none e f = (λ i. record { refusal = 0; length = 2 + e i; call = f i }) ∙ sym (ap answer (eq-eqb _ 0 none))

  -- a record that is read is not refused
  pub read_accepted : (record_read s).refusal ≡ 0 → first_of (read_refusals s) ≡ 0
  read_accepted = go (eqb (first_of (read_refusals s)) 0) refl
    where
      go : (b : Bool) → eqb (first_of (read_refusals s)) 0 ≡ b → (answer b).refusal ≡ 0 → first_of (read_refusals s) ≡ 0
      go true x e = eqb-true _ _ x
      go false x e = e

-- a packet that is read has at most nine bytes
pub read_packet : (s : List ℕ) → (record_read s).call.length ≤ 9
read_packet s = go (eqb (first_of (read_refusals s)) 0) (eqb (get_or s 3 0) 1) (eqb (get_or s 3 0) 2) (eqb (get_or s 3 0) 3) (eqb (body_length s) 13)
  where
    go : (a b c d e : Bool)
        → (cond {A = Record} a
        (record {
          refusal = 0;
          length = 2 + body_length s;
          call = cond {A = Call} b
              (cond {A = Call} e (record { kind = 1; chip = chip_at s; link = 0; up = 0; length = 9; bytes = nine_at s }) (record { kind = 1; chip = chip_at s; link = 0; up = 0; length = 5; bytes = five_at s }))
              (cond {A = Call} c (call_of 2 0 0 0) (cond {A = Call} d (call_of 3 (chip_at s) (get_or s 6 0) (get_or s 7 0)) (call_of 4 (chip_at s) 0 0)));
        })
        (record { refusal = first_of (read_refusals s); length = 0; call = call_of 0 0 0 0 })
        ).call.length ≤ 9
    go false b c d e = lit≤ tt
    go true true c d true = lit≤ tt
    go true true c d false = lit≤ tt
    go true false true d e = lit≤ tt
    go true false false true e = lit≤ tt
    go true false false false e = lit≤ tt
