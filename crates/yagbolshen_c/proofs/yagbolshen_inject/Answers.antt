use Rattle.yagbolshen_c.proofs.yagbolshen_inject.Goals as goal

pub returns-clause-moves : goal.returns-clause-moves
returns-clause-moves c = rw c.new-tables.ensures at c.yagbolshen_inject.ensures.moves
