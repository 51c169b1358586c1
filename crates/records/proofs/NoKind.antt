-- Where no kind has the number, no body goes with it, and no record keeps the call; and the test that a packet's nine bytes end in zeros.
use Rattle.std.proofs.Common.{ℕ, zero, suc, ◌≡◌, ◌==◌, ◌∙◌, sym, List, [], ◌∷◌, ◌<◌, length, drop, subst, arith, Result, Ok, Err}
use Rattle.std.specs.List.{list_all}
use Rattle.std.specs.Result.{IsErrAnd}
use Rattle.std.proofs.Math.Seq.{drop-nil}
use Rattle.std.proofs.Math.Bool.{and_assoc, and-true}
use lib.ListN.{get_or}
use borrow.Author.Tests.{ne_eqb, lt-ltb}
use Rattle.packet.specs.declared.refused.Refused.{Refused}
use Rattle.packet.specs.declared.refused.Refused.TheVariants.{Record}
use Rattle.records.specs.declared.Call.{Call}
use Rattle.records.specs.declared.kinds.Kind.{Kind}
use Rattle.records.specs.declared.kinds.Kind.TheVariants.{Injection, Round, LinkChange, Registers}
use Rattle.records.specs.Kinds.{number_of, Fine, Keeps}
use Rattle.records.specs.Records.{zeros_past}
use Rattle.records.proofs.Bodies.{of_none}
use Rattle.records.proofs.Keepables.{nine_of_lem}

abbrev None : ℕ → Type 0
None n = (kind : Kind) → number_of kind ≡ n → ⊥

pub misfit : (s : List ℕ) (r : Result Kind Refused) (e : Refused) → IsErrAnd r (λ d. d ≡ e) → (e ≡ Record) × None (get_or s 3 0) → Fine s r
misfit s (Ok k) e x n = absurd x
misfit s (Err d) e x n =
    (x ∙ n.0, sym (of_none s (λ z. n.1 Injection (sym z)) (λ z. n.1 Round (sym z)) (λ z. n.1 LinkChange (sym z)) (λ z. n.1 Registers (sym z))))

pub unkept : (c : Call) (r : Result Kind Refused) (e : Refused) → IsErrAnd r (λ d. d ≡ e) → (e ≡ Record) × None c.kind → Keeps c r
unkept c (Ok k) e x n = absurd x
unkept c (Err d) e x n =
    (x ∙ n.0, simp (ne_eqb c.kind 1 (λ z. n.1 Injection (sym z)), ne_eqb c.kind 2 (λ z. n.1 Round (sym z)), ne_eqb c.kind 3 (λ z. n.1 LinkChange (sym z)), ne_eqb c.kind 4 (λ z. n.1 Registers (sym z))))

zeros_of : (n p q r s t u v w x : ℕ) → let b = p ∷ q ∷ r ∷ s ∷ t ∷ u ∷ v ∷ w ∷ x ∷ [] in list_all (λ y. y == 0) (drop n b) ≡ zeros_past n b
zeros_of zero p q r s t u v w x = simp (and_assoc, and-true)
zeros_of (suc zero) p q r s t u v w x = simp (and_assoc, and-true)
zeros_of (suc (suc zero)) p q r s t u v w x = simp (and_assoc, and-true)
zeros_of (suc (suc (suc zero))) p q r s t u v w x = simp (and_assoc, and-true)
zeros_of (suc (suc (suc (suc zero)))) p q r s t u v w x = simp (and_assoc, and-true)
zeros_of (suc (suc (suc (suc (suc zero))))) p q r s t u v w x = simp (and_assoc, and-true)
zeros_of (suc (suc (suc (suc (suc (suc zero)))))) p q r s t u v w x = simp (and_assoc, and-true)
zeros_of (suc (suc (suc (suc (suc (suc (suc zero))))))) p q r s t u v w x = simp (and_assoc, and-true)
zeros_of (suc (suc (suc (suc (suc (suc (suc (suc zero)))))))) p q r s t u v w x = simp (and_assoc, and-true)
zeros_of (suc (suc (suc (suc (suc (suc (suc (suc (suc n))))))))) p q r s t u v w x =
    let past = λ (k : ℕ) (h : k < (suc (suc (suc (suc (suc (suc (suc (suc (suc n)))))))))). lt-ltb k (suc (suc (suc (suc (suc (suc (suc (suc (suc n))))))))) h in
    simp (drop-nil {A = ℕ} n, past 0 (omega arith), past 1 (omega arith), past 2 (omega arith), past 3 (omega arith), past 4 (omega arith), past 5 (omega arith), past 6 (omega arith), past 7 (omega arith), past 8 (omega arith))

pub zeros_all : (n : ℕ) (b : List ℕ) → length b ≡ 9 → list_all (λ y. y == 0) (drop n b) ≡ zeros_past n b
zeros_all n b long =
    let P : List ℕ → Type 0 = λ l. list_all (λ y. y == 0) (drop n l) ≡ zeros_past n l in
    subst P (sym (nine_of_lem b long)) (zeros_of n _ _ _ _ _ _ _ _ _)
