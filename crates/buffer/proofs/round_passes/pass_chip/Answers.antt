-- `round_passes::pass_chip` meets its contract.
use Rattle.std.proofs.Common.{length, sym, le_of_eq, arith}
use Rattle.mesh.proofs.Cuts.{codes_long}
use Rattle.buffer.specs.Layout.{chips_of}
use Rattle.buffer.proofs.FineSteps.{head_size}
use Rattle.buffer.proofs.Headers.{head_range}
use Rattle.buffer.proofs.LoggedPasses as logged
use Rattle.buffer.proofs.Arrivals.{at_the_chip}
use Rattle.buffer.proofs.GroupsBuilt.{chip_there, fits_own}
use Rattle.buffer.proofs.round_passes.pass_chip.Goals as goal

pub bounds-mesh-0 : goal.bounds-mesh-0
bounds-mesh-0 c = omega (arith, c.requires.0.1.0.due.long)

pub bounds-mesh-1 : goal.bounds-mesh-1
bounds-mesh-1 c = omega (arith, c.requires.0.1.0.due.long)

pub chips-requires : goal.chips-requires
chips-requires c = head_size c.args.mesh.now c.requires.0.1.0.due.head

pub chip-own-requires : goal.chip-own-requires
chip-own-requires c = let pre = c.requires.0 in
    rw c.chips.ensures (record { lent = pre.1.1; there = pre.0; few = (head_range c.args.mesh.now pre.1.0.due.head).few })

pub group_chip-used-requires : goal.group_chip-used-requires
group_chip-used-requires c = let a = c.args in
    let pre = c.requires in
    let own = rw c.chips.ensures at c.chip-own.ensures in
    (chip_there a.chip _ a.mesh.now a.log.now a.n pre.0.0 pre.0.1.0, rw (c.rows.ensures, own) (fits_own a.tables.now (chips_of a.mesh.now) a.chip (length a.room.now) pre.0.1.1 pre.0.0 pre.1))

pub pass_links-requires : goal.pass_links-requires
pass_links-requires c = let pre = c.requires.0 in
    let own = rw c.chips.ensures at c.chip-own.ensures in
    (pre.0, (pre.1.0, (rw own (le_of_eq (sym (codes_long _ _ _ pre.1.1 pre.0))), rw c.rows.ensures at c.group_chip-used.ensures.groups_for.0)))

pub returns : goal.returns
returns c = let a = c.args in
    let own = rw c.chips.ensures at c.chip-own.ensures in record {
      passed = logged.passed_chip a.tables.now _ a.chip _ a.mesh.now a.log.now a.n _ _ _ (at_the_chip a.mesh.now a.chip) own c.pass_links.ensures;
      room_after = rw (c.rows.ensures, own) at c.group_chip-used.ensures.room_after;
    }
