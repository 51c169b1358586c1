-- `taking_out::pass` meets its contract, by what the words say once a row is kept and once it is taken out.
use lib.ListN.{set, length-set}
use Rattle.fewer.proofs.HeldRows.{held_put}
use Prim.Native.Nat.{min}
use mathlib.Core.Path.{subst}
use mathlib.Core.Bool.{Bool}
use native.Mathlib.Omega.{arith}
use Rattle.fewer.specs.Hand.{numbered_of, held_of, Tested}
use Rattle.fewer.proofs.WalkWords.{keeps_on, takes_out}
use Rattle.fewer.proofs.taking_out.pass.Goals as goal

pub returns-then-staying : goal.returns-then-staying
returns-then-staying c = let row = numbered_of c.args.row in
    record { passes = λ lo hi walking is t. keeps_on lo hi c.args.held.now c.args.gone.now c.args.walk walking c.requires.1.0 row is (set c.args.held.now c.args.walk.kept c.args.row) (length-set c.args.held.now c.args.walk.kept c.args.row) (held_put c.args.held.now c.args.walk.kept c.args.row) (subst (λ (b : Bool). Tested (held_of c.args.held.now) row.entry lo (min hi c.args.walk.kept) b) c.if-staying.true t); next_lt_next = omega arith }

pub returns : goal.returns
returns c = let row = numbered_of c.args.row in
    record { passes = λ lo hi walking is t. takes_out lo hi c.args.held.now c.args.gone.now c.args.walk walking c.requires.1.0 row is (subst (λ (b : Bool). Tested (held_of c.args.held.now) row.entry lo (min hi c.args.walk.kept) b) c.if-staying.false t); next_lt_next = omega arith }
