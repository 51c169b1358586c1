use Rattle.std.proofs.Common.{◌≡◌, ◌<◌, ◌*◌, ◌+◌, ◌++◌, ◌∷◌, ◌∙◌, refl, ap, arith, length, take, drop, List}
use lib.Seq.{take_all}
use Rattle.fewer.specs.Call.{words_of}
use Rattle.fewer.specs.Process.{Numbered}
use Rattle.fewer.specs.Hand.{held_of}
use Rattle.fewer.proofs.HeldRows.{held_at, held_many, words_more}
use Rattle.fewer.proofs.hand.give_back.Goals as goal

pub loop-i-init : goal.loop-i-init
unfolding words_of
loop-i-init c = refl

pub loop-i-preserved : goal.loop-i-preserved
loop-i-preserved c = let at = c.loop-i in
    let rows = held_of c.args.held.now in
    let l = c.args.left.now in
    let row = held_at c.args.held.now at.i c.loop-i-test.true in
    let here : at.i < length rows = omega (arith, held_many c.args.held.now, c.loop-i-test.true) in
    c.give_one.ensures
    ∙ (λ k. take (at.i * 3) (at.invariant k) ++ (row k).entry.key ∷ (row k).entry.mask ∷ (row k).entry.route ∷ drop (at.i * 3 + 3) (at.invariant k))
    ∙ words_more rows l at.i here

pub returns : goal.returns
returns c = let rows = held_of c.args.held.now in
    let many = held_many c.args.held.now in
    let all : c.loop-i.i ≡ length c.args.held.now = omega arith in
    rw all at c.loop-i.invariant ∙ ap (λ (l : List Numbered). words_of l ++ drop (length c.args.held.now * 3) c.args.left.now) (take_all (length c.args.held.now) rows (omega (arith, many)))
