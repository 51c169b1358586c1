-- `chip::count` meets its contract.
use Rattle.std.proofs.Common.{get_or, set, sym, ap, ◌∙◌, arith}
use Rattle.kept.specs.Counting.{sent_count, plus, added}
use Rattle.kept.proofs.OnlySent.{three_counted}
use Rattle.buffer.proofs.chip.count.Goals as goal

pub returns-then-only_sends : goal.returns-then-only_sends
returns-then-only_sends c = let w = c.args.words.now in
    let o = c.args.o in
    (λ i. set (set (set w 0 (c.wrapping_add_u32-passes.ensures.value i)) 5 ((c.wrapping_add_u32-sent.ensures.value ∙ ap (plus (get_or w 5 0)) c.sent_count.ensures) i)) 9 (c.wrapping_add_u32-missed.ensures.value i))
    ∙ three_counted w (sent_count o) o.missed c.requires.0 (λ i. omega (arith, c.slice_known-1.given i))
    ∙ ap (added w) (sym (c.only_sends.ensures c.if-only_sends.true))
