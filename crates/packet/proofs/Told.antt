-- No refusal's number is 0, and `?` hands on the refusal that it met.
use Rattle.std.proofs.Common.{ℕ, ◌≡◌, ap, arith, Result, Ok, Err}
use Rattle.std.specs.Result.{IsErrAnd}
use Rattle.packet.specs.declared.refused.Refused.{Refused}
use Rattle.packet.specs.declared.refused.Refused.TheVariants.{Source, Length, Direct, OutOfRange, Size, NoMesh, NotThere, LogRoom, Codes, CutShort, Version, Record, Starts, ManyRows, RouteBits, FixedRoutes, OffMesh, Targets, KeyBits, TreeRoom, RecordRoom, FewerRoom, GroupsRoom}
use Rattle.packet.specs.Refused.{number_of, told}

pub number_some : (r : Refused) → number_of r ≡ 0 → ⊥
number_some Source e = absurd (omega arith)
number_some Length e = absurd (omega arith)
number_some Direct e = absurd (omega arith)
number_some OutOfRange e = absurd (omega arith)
number_some Size e = absurd (omega arith)
number_some NoMesh e = absurd (omega arith)
number_some NotThere e = absurd (omega arith)
number_some LogRoom e = absurd (omega arith)
number_some Codes e = absurd (omega arith)
number_some CutShort e = absurd (omega arith)
number_some Version e = absurd (omega arith)
number_some Record e = absurd (omega arith)
number_some Starts e = absurd (omega arith)
number_some ManyRows e = absurd (omega arith)
number_some RouteBits e = absurd (omega arith)
number_some FixedRoutes e = absurd (omega arith)
number_some OffMesh e = absurd (omega arith)
number_some Targets e = absurd (omega arith)
number_some KeyBits e = absurd (omega arith)
number_some TreeRoom e = absurd (omega arith)
number_some RecordRoom e = absurd (omega arith)
number_some FewerRoom e = absurd (omega arith)
number_some GroupsRoom e = absurd (omega arith)

pub handed_on : {A : Type 0} (r : Result A Refused) (e : Refused) → IsErrAnd r (λ d. d ≡ e) → told r ≡ number_of e
handed_on (Ok a) e h = absurd h
handed_on (Err d) e h = ap number_of h
