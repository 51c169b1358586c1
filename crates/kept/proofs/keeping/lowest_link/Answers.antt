use Rattle.std.proofs.Common.{eqb, refl, eqb-true}
use lib.Bits.{bit_or}
use lib.Count.{count_trailing_zeros}
use Rattle.kept.specs.Keeping.{lowest}
use Rattle.packet.proofs.Small.{every, at}
use Rattle.kept.proofs.keeping.lowest_link.Goals as goal

pub returns : goal.returns
unfolding every count_trailing_zeros
returns c = eqb-true _ _ (at 64 (λ n. eqb (count_trailing_zeros 32 (bit_or n 32)) (lowest n)) refl c.args.set c.requires)
