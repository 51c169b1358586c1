-- The number of each type of packet, by which its fields name it.
use Rattle.std.specs.Prelude.{ℕ, ◌≡◌, ◌<◌, Result, MatchResult}
use Rattle.packet.specs.declared.kind.Kind.{Kind}
use Rattle.packet.specs.declared.kind.Kind.TheVariants.{Mc, P2p, Nn, Fixed}
use Rattle.packet.specs.declared.refused.Refused.{Refused}
use Rattle.packet.specs.declared.refused.Refused.TheVariants.{OutOfRange}

-- "The top two bits of the control byte choose the type": 0 MC, 1 P2P, 2 NN, 3 fixed-route.
abbrev pub number_of : Kind → ℕ
number_of Mc = 0
number_of P2p = 1
number_of Nn = 2
number_of Fixed = 3

-- The type with a number, or refusal 6 where none has it.
abbrev pub Decodes : ℕ → Result Kind Refused → Type 0
Decodes n r = MatchResult r (λ kind. number_of kind ≡ n) (λ e. (e ≡ OutOfRange) × (3 < n))
