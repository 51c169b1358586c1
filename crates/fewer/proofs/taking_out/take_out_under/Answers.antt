use native.Mathlib.Omega.{arith}
use Prim.Native.Nat.{◌+◌, min}
use mathlib.Core.Path.{refl, sym, subst}
use mathlib.Core.Bool.{Bool}
use lib.ListN.{get_or}
use Rattle.fewer.specs.Process.{covers}
use Rattle.fewer.specs.Hand.{numbered_of, held_of, Tested}
use Rattle.fewer.proofs.HeldRows.{none_held, held_at}
use Rattle.fewer.proofs.WalkWords.{under_tested}
use Rattle.fewer.proofs.taking_out.take_out_under.Goals as goal

pub walk_down-requires : goal.walk_down-requires
walk_down-requires c =
    record {
      takes = λ held row upto inside. tt;
      begins = record {
        lo = c.args.at;
        hi = c.args.at + 1;
        walking = c.requires.0;
        tested = λ held gone w row b now went more there told.
            let one = get_or c.args.held.now c.args.at none_held in
            let one_there = held_at c.args.held.now c.args.at (omega (arith, c.requires.0.fits, c.requires.0.within)) in
            subst (λ (s : Bool). Tested (held_of held.now) (numbered_of row).entry c.args.at (min (c.args.at + 1) w.kept) s) (sym told.1)
            (under_tested c.args.at c.args.count c.args.held.now c.args.gone.now held.now gone w now more went c.requires.1 (numbered_of one) (numbered_of row) one_there there (covers (numbered_of one).entry (numbered_of row).entry) refl);
      };
    }

pub overflow_add-begun : goal.overflow_add-begun
overflow_add-begun c = omega (arith, c.requires.0.within, c.requires.0.listed)

pub overflow_add-begun-2 : goal.overflow_add-begun-2
overflow_add-begun-2 c = omega (arith, c.requires.0.within, c.requires.0.listed)
