-- Refusals are exact: the number that taking, reading and packing give is the first that applies.
use mathlib.Core.Path.{◌≡◌, refl, sym, ap, ◌∙◌}
use mathlib.Core.Bool.{Bool, true, false, cond, not}
use mathlib.Core.List.{List, [], ◌∷◌}
use Prim.Native.Nat.{ℕ, suc}
use native.Mathlib.Omega.{arith}
use lib.Dec.{eqb}
use borrow.Author.Tests.{eqb-true}
use Rattle.packet.specs.declared.Fields.{Fields}
use Rattle.packet.specs.declared.Packed.{Packed}
use Rattle.packet.specs.Bytes.{Taken}
use Rattle.packet.specs.declared.FieldsRead.{FieldsRead}
use Rattle.packet.specs.Bytes.{control_at, right_length, packet_at, not_taken, taken_of, packed_as}
use Rattle.packet.specs.Fields.{fields_of, no_fields, read_from, read_of}
use Rattle.packet.specs.Packing.{in_range, packet_of, not_packed, packed_of}
use Rattle.packet.specs.Control.{is_direct}
use Rattle.packet.specs.Refusal.{refuse, first_of, read_refusals, packet_refusals, pack_refusals}
use Rattle.packet.proofs.First.{first_append}

pub take_refuses : (s : List ℕ) → (taken_of s).refusal ≡ first_of (read_refusals s)
take_refuses s = go (right_length s)
  where
    go : (a : Bool) → ◌≡◌ {A = ℕ} (cond a (record { refusal = 0; packet = packet_at s }) (not_taken 2)).refusal (cond (not a) 2 0)
    go true = refl
    go false = refl

-- bytes that are accepted: their length is right, and the packet is the one that stands in them
pub record Accepted (s : List ℕ) : Type 0 where
  pub length : right_length s ≡ true
  pub taken : taken_of s ≡ record { refusal = 0; packet = packet_at s }

pub take_accepts : (s : List ℕ) → (taken_of s).refusal ≡ 0 → Accepted s
take_accepts s h = go (right_length s) refl
  where
    no : (n m : ℕ) → n ≡ 0 → n ≡ suc m → ⊥
    no n m e f = omega arith

    go : (a : Bool) → right_length s ≡ a → Accepted s
    go true e = record { length = e; taken = simp e }
    go false e = absurd (no (taken_of s).refusal 1 h (simp e))

-- and bytes that are not: nothing is taken
pub take_refused : (s : List ℕ) → ((taken_of s).refusal ≡ 0 → ⊥) → taken_of s ≡ not_taken (taken_of s).refusal
take_refused s h = go (right_length s) refl
  where
    go : (a : Bool) → right_length s ≡ a → taken_of s ≡ not_taken (taken_of s).refusal
    go true e = absurd (h (simp e))
    go false e = simp e

-- a packet that was taken and not refused is the one that stands in the bytes
pub taken_whole : (bytes : List ℕ) (r : Taken) → r ≡ taken_of bytes → r.refusal ≡ 0 → r ≡ record { refusal = 0; packet = packet_at bytes }
taken_whole bytes r e z = e ∙ (take_accepts bytes (sym (ap (λ (x : Taken). x.refusal) e) ∙ z)).taken

pub packet_first : (s : List ℕ) → first_of (packet_refusals s) ≡ cond (eqb (taken_of s).refusal 0) (cond (is_direct (control_at s)) 4 0) (taken_of s).refusal
packet_first s =
    first_append (read_refusals s) (refuse (is_direct (control_at s)) 4 ∷ []) refl
    ∙ ap (λ (n : ℕ). cond (eqb n 0) (cond (is_direct (control_at s)) 4 0) n) (sym (take_refuses s))

read_from_refuses : (t : Taken) → (read_from t).refusal ≡ t.refusal
read_from_refuses t = go (eqb t.refusal 0) refl
  where
    go : (b : Bool) → eqb t.refusal 0 ≡ b
        → (cond {A = FieldsRead} b (record { refusal = 0; fields = fields_of t.packet }) (record { refusal = t.refusal; fields = no_fields })).refusal ≡ t.refusal
    go true e = sym (eqb-true _ _ e)
    go false e = refl

pub read_refuses : (s : List ℕ) → (read_of s).refusal ≡ first_of (read_refusals s)
unfolding read_of
read_refuses s = read_from_refuses (taken_of s) ∙ take_refuses s

pub pack_refuses : (f : Fields) → (packed_of f).refusal ≡ first_of (pack_refusals f)
unfolding packed_of
pack_refuses f = go (in_range f) (eqb f.nine 0)
  where
    bytes : Bool → Packed
    bytes c = cond c (packed_as (packet_of f) 5 0) (packed_as (packet_of f) 9 f.payload)

    go : (a c : Bool) → ◌≡◌ {A = ℕ} (cond a (bytes c) (not_packed 6)).refusal (cond (not a) 6 0)
    go true true = refl
    go true false = refl
    go false c = refl
