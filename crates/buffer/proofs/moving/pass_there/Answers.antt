-- `moving::pass_there` meets its contract.
use Rattle.std.proofs.Common.{[], ◌∷◌, refl, sym, le_of_eq, arith}
use Rattle.lists.specs.Lists.{All}
use Rattle.mesh.proofs.Cuts.{codes_long}
use Rattle.buffer.specs.PassesInTurn.{arrival}
use Rattle.buffer.proofs.FineSteps.{head_size}
use Rattle.buffer.proofs.Headers.{head_range}
use Rattle.buffer.proofs.LoggedPasses as logged
use Rattle.buffer.proofs.moving.pass_there.Goals as goal

pub bounds-mesh-0 : goal.bounds-mesh-0
bounds-mesh-0 c = omega (arith, c.requires.0.long)

pub bounds-mesh-1 : goal.bounds-mesh-1
bounds-mesh-1 c = omega (arith, c.requires.0.long)

pub chips-requires : goal.chips-requires
chips-requires c = head_size c.args.mesh.now c.requires.0.head

pub chip-own-requires : goal.chip-own-requires
chip-own-requires c = rw c.chips.ensures (record { lent = c.requires.1; there = (logged.arrives _ _ _ _ c.requires.0).there; few = (head_range c.args.mesh.now c.requires.0.head).few })

pub pass_one-requires : goal.pass_one-requires
pass_one-requires c = let own = rw c.chips.ensures at c.chip-own.ensures in
    (c.requires.0, rw own (le_of_eq (sym (codes_long _ _ _ c.requires.1 (logged.arrives _ _ _ _ c.requires.0).there))))

pub returns : goal.returns
unfolding All
returns c = let a = c.args in
    let own = rw c.chips.ensures at c.chip-own.ensures in
    logged.passed_chip a.tables.now _ a.chip (arrival a.chip 7 a.p ∷ []) a.mesh.now a.log.now 0 _ _ _ (refl, tt) own c.pass_one.ensures
