-- A pass that shows no error, and delivers, drops and swallows nothing: what it adds, and three counters changed in the place of ten.
use Rattle.std.proofs.Common.{◌≡◌, ℕ, ◌^◌, ◌<◌, List, [], ◌∷◌, length, get_or, set, ap, ◌∙◌, arith, ne_eqb}
use native.Mathlib.Nat.{div-eq_of_lt}
use Rattle.lists.proofs.Six.{six}
use Rattle.packet.proofs.Folded.{ones_zero}
use Rattle.steps.specs.declared.Outcome.{Outcome}
use Rattle.kept.specs.Counting.{counts_of, only_sent, plus, added}

pub sends_alone : (o : Outcome) → o.errors ≡ 0 → o.dropped ≡ 0 → o.leg_dropped ≡ 0 → (o.wanted ≡ 0 → ⊥) → o.wanted < 64 → counts_of o ≡ only_sent o
sends_alone o none kept whole some low = simp (none, kept, whole, ones_zero, ne_eqb o.wanted 0 some, div-eq_of_lt low)

-- ten numbers, written out
ten : (l : List ℕ) → length l ≡ 10
    → l ≡ get_or l 0 0 ∷ get_or l 1 0 ∷ get_or l 2 0 ∷ get_or l 3 0 ∷ get_or l 4 0 ∷ get_or l 5 0 ∷ get_or l 6 0 ∷ get_or l 7 0 ∷ get_or l 8 0 ∷ get_or l 9 0 ∷ []
ten [] h = absurd (omega arith)
ten (a ∷ []) h = absurd (omega arith)
ten (a ∷ b ∷ []) h = absurd (omega arith)
ten (a ∷ b ∷ c ∷ []) h = absurd (omega arith)
ten (a ∷ b ∷ c ∷ d ∷ l) h = ap (λ (k : List ℕ). a ∷ b ∷ c ∷ d ∷ k) (six 0 l (omega arith))

pub three_counted : (w : List ℕ) (s m : ℕ) → length w ≡ 10 → ((i : ℕ) → get_or w i 0 < 2 ^ 32)
    → set (set (set w 0 (plus (get_or w 0 0) 1)) 5 (plus (get_or w 5 0) s)) 9 (plus (get_or w 9 0) m) ≡ added w (1 ∷ 0 ∷ 0 ∷ 0 ∷ 0 ∷ s ∷ 0 ∷ 0 ∷ 0 ∷ m ∷ [])
three_counted w s m h low =
    ap (λ (l : List ℕ). set (set (set l 0 (plus (get_or w 0 0) 1)) 5 (plus (get_or w 5 0) s)) 9 (plus (get_or w 9 0) m)) (ten w h)
    ∙ (λ i. plus (get_or w 0 0) 1 ∷ same 1 i ∷ same 2 i ∷ same 3 i ∷ same 4 i ∷ plus (get_or w 5 0) s ∷ same 6 i ∷ same 7 i ∷ same 8 i ∷ plus (get_or w 9 0) m ∷ [])
  where
    same : (k : ℕ) → get_or w k 0 ≡ plus (get_or w k 0) 0
    same k = omega (arith, low k)
