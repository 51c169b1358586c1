use Prim.Native.Nat.{ℕ}
use mathlib.Core.Path.{◌≡◌, ap, ◌∙◌}
use mathlib.Core.List.{List, ◌++◌}
use native.Mathlib.Omega.{arith}
use lib.ListN.{length, take, drop}
use lib.Seq.{take-length}
use Rattle.groups.proofs.Copying.{one_copied}
use Rattle.groups.proofs.building.begin.Goals as goal

pub loop-g-preserved : goal.loop-g-preserved
loop-g-preserved c = rw c.from.ensures (one_copied c.args.marks.now c.args.room.now c.loop-g.room c.loop-g.g (omega arith) (omega (arith, c.requires)) c.loop-g.invariant)

pub returns : goal.returns
returns c = let all : c.loop-g.g ≡ length c.args.marks.now = omega arith in
    c.loop-g.invariant
    ∙ (λ i. take (all i) c.args.marks.now ++ drop ((all ∙ c.requires.0) i) c.args.room.now)
    ∙ ap (λ (l : List ℕ). l ++ drop 256 c.args.room.now) (take-length c.args.marks.now)
