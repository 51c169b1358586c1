-- `mesh::flight::on_chip` meets its contract: six count words of at most 8 each have a sum that fits.
use Rattle.std.proofs.Common.{sym, arith}
use Rattle.buffer.proofs.Flights.{chip_count, words_small}
use Rattle.buffer.proofs.flight.on_chip.Goals as goal

pub overflow_add-result : goal.overflow_add-result
overflow_add-result c = omega (arith, words_small c.args.chip.now c.requires)

pub overflow_add-result-2 : goal.overflow_add-result-2
overflow_add-result-2 c = omega (arith, words_small c.args.chip.now c.requires)

pub overflow_add-result-3 : goal.overflow_add-result-3
overflow_add-result-3 c = omega (arith, words_small c.args.chip.now c.requires)

pub overflow_add-result-4 : goal.overflow_add-result-4
overflow_add-result-4 c = omega (arith, words_small c.args.chip.now c.requires)

pub overflow_add-result-5 : goal.overflow_add-result-5
overflow_add-result-5 c = omega (arith, words_small c.args.chip.now c.requires)

pub returns : goal.returns
returns c = sym (chip_count c.args.chip.now)
