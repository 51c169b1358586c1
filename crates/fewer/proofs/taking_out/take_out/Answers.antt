use Prim.Native.Nat.{ℕ, min}
use mathlib.Core.Path.{◌≡◌, subst}
use native.Mathlib.Omega.{arith}
use Rattle.fewer.specs.Hand.{numbered_of, held_of, Tested}
use Rattle.fewer.proofs.taking_out.take_out.Goals as goal

pub walk_down-requires : goal.walk_down-requires
walk_down-requires c =
    record {
      takes = λ held row upto inside. inside;
      begins = record {
        lo = 0;
        hi = c.args.count;
        walking = c.requires;
        tested = λ held gone w row b now went more there told.
            let few : w.kept ≡ min c.args.count w.kept = omega (arith, now.behind, now.within, went.same) in
            subst (λ (n : ℕ). Tested (held_of held.now) (numbered_of row).entry 0 n b) few told.1;
      };
    }
