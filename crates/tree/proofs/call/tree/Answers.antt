-- `call::tree` meets its contract.
use Rattle.std.proofs.Common.{sym, ap, ◌∙◌, arith}
use Rattle.packet.specs.Refused.{told}
use Rattle.tables.proofs.Sizes.{chips_small}
use Rattle.tree.proofs.Answers.{accepted}
use Rattle.tree.proofs.RowByRow.{few_rows_lem}
use Rattle.tree.proofs.call.tree.Goals as goal

pub overflow_cast-result : goal.overflow_cast-result
overflow_cast-result c = let a = c.args in
    let none = sym c.checked-checked.ensures ∙ ap told c.in_default.is in
    let fine = accepted a.width a.height a.source a.key a.mask a.targets.now a.rows.now a.starts.now none in
    omega (arith, c.chips.ensures, chips_small a.width a.height fine.size, c.write_rows-count.ensures.value, few_rows_lem c.grow.new.self c.chips.result)
