use Rattle.std.proofs.Common.{[], ◌∷◌, get_or, ap, ◌∙◌, arith, length-set}
use Rattle.lists.proofs.Six.{ten_stores}
use Rattle.kept.specs.declared.Counters.{Counters}
use Rattle.buffer.proofs.chip.count_all.Goals as goal

pub bounds-words-3-2 : goal.bounds-words-3-2
bounds-words-3-2 c = simp length-set (omega arith)

pub bounds-words-4-2 : goal.bounds-words-4-2
bounds-words-4-2 c = simp length-set (omega arith)

pub bounds-words-5-2 : goal.bounds-words-5-2
bounds-words-5-2 c = simp length-set (omega arith)

pub bounds-words-6-2 : goal.bounds-words-6-2
bounds-words-6-2 c = simp length-set (omega arith)

pub bounds-words-7-2 : goal.bounds-words-7-2
bounds-words-7-2 c = simp length-set (omega arith)

pub bounds-words-8-2 : goal.bounds-words-8-2
bounds-words-8-2 c = simp length-set (omega arith)

pub bounds-words-9-2 : goal.bounds-words-9-2
bounds-words-9-2 c = simp length-set (omega arith)

pub shape_of-words : goal.shape_of-words
shape_of-words c = simp length-set

pub returns : goal.returns
returns c = let l = c.args.words.now in
    ten_stores l _ _ _ _ _ _ _ _ _ _ c.requires.0
    ∙ ap (λ (x : Counters). get_or x.count 0 0 ∷ get_or x.count 1 0 ∷ get_or x.count 2 0 ∷ get_or x.count 3 0 ∷ get_or x.count 4 0 ∷ get_or x.count 5 0 ∷ get_or x.count 6 0 ∷ get_or x.count 7 0 ∷ get_or x.count 8 0 ∷ get_or x.count 9 0 ∷ []) c.counted_of-k.ensures
