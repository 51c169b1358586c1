use Rattle.std.proofs.Common.{arith, length-set}
use Rattle.lists.proofs.Six.{nine_stores}
use Rattle.buffer.proofs.registers.put_registers.Goals as goal

pub bounds-words-4 : goal.bounds-words-4
bounds-words-4 c = simp length-set (omega arith)

pub bounds-words-5 : goal.bounds-words-5
bounds-words-5 c = simp length-set (omega arith)

pub bounds-words-6 : goal.bounds-words-6
bounds-words-6 c = simp length-set (omega arith)

pub bounds-words-7 : goal.bounds-words-7
bounds-words-7 c = simp length-set (omega arith)

pub bounds-words-8 : goal.bounds-words-8
bounds-words-8 c = simp length-set (omega arith)

pub returns : goal.returns
returns c = nine_stores c.args.words.now _ _ _ _ _ _ _ _ _ c.requires
