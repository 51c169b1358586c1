-- From all rows of the table to the end of the process.
use Rattle.std.proofs.Common.{◌≡◌, ◌/◌, ◌*◌, ◌++◌, ◌∙◌, refl, arith, length, take, drop}
use lib.Seq.{length-take-le}
use Rattle.fewer.specs.Call.{words_of}
use Rattle.fewer.proofs.Ending.{shortened}
use Rattle.fewer.proofs.HeldRows.{held_take}
use Rattle.fewer.proofs.call.shorten.Goals as goal

pub returns : goal.returns
returns c =
    let held = c.join_all-end.new.held in
    let end = c.join_all-end.result in
    let many : length (take end held) ≡ end = length-take-le end held (omega (arith, c.join_all-end.ensures.most, c.take_out-staying.ensures.most, c.requires, c.join_all-end.auto.held, c.take_out-staying.auto.held, c.take_in.auto.held)) in
    let written = c.give_back.ensures ∙ (λ k. words_of (held_take end held k) ++ drop (many k * 3) c.args.left.now) in
    shortened c.take_in.new.held c.args.gone.now (length c.args.rows.now / 3) (omega (arith, c.requires)) (omega (arith, c.requires, c.take_in.auto.held)) c.take_out-staying.new.held c.take_out-staying.new.gone c.take_out-staying.result c.take_out-staying.ensures c.args.rows.now c.take_in.ensures c.requires.1.1 refl held c.join_all-end.new.gone end c.join_all-end.ensures c.args.left.now c.give_back.new.left written
