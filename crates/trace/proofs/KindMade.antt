-- The kind by which a call is made, by its number: one of no kind goes with the last.
use Rattle.std.proofs.Common.{◌≡◌, ℕ, Result, Ok, Err, sym, subst, arith}
use Rattle.std.specs.Result.{result_unwrap_or}
use Rattle.packet.specs.declared.refused.Refused.{Refused}
use Rattle.records.specs.declared.kinds.Kind.{Kind}
use Rattle.records.specs.declared.kinds.Kind.TheVariants.{Injection, Round, LinkChange, Registers}
use Rattle.records.specs.Kinds.{number_of, Decodes}

abbrev pub MadeAs : ℕ → Kind → Type 0
MadeAs n Injection = n ≡ 1
MadeAs n Round = n ≡ 2
MadeAs n LinkChange = n ≡ 3
MadeAs n Registers = (n ≡ 1 → ⊥) × ((n ≡ 2 → ⊥) × (n ≡ 3 → ⊥))

by_number : (n : ℕ) (k : Kind) → number_of k ≡ n → MadeAs n k
by_number n Injection e = sym e
by_number n Round e = sym e
by_number n LinkChange e = sym e
by_number n Registers e = ((λ z. omega (arith, e, z)), ((λ z. omega (arith, e, z)), (λ z. omega (arith, e, z))))

pub made_as : (n : ℕ) (r : Result Kind Refused) → Decodes n r → (k : Kind) → k ≡ result_unwrap_or r Registers → MadeAs n k
made_as n (Ok k') h k e = subst (MadeAs n) (sym e) (by_number n k' h)
made_as n (Err x) h k e = subst (MadeAs n) (sym e) ((λ z. h.1 Injection (sym z)), ((λ z. h.1 Round (sym z)), (λ z. h.1 LinkChange (sym z))))
