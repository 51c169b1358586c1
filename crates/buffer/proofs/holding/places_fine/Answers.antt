use Rattle.std.proofs.Common.{◌≡◌, ◌+◌, ◌*◌, true, false, drop, sym, ap, ◌∙◌}
use Rattle.buffer.proofs.FineSteps.{places_step, places_end}
use Rattle.mesh.specs.Sound.{packet_fine}
use Rattle.links.specs.Offsets.{places_at, place_long}
use Rattle.links.specs.Words.{packet_in}
use Rattle.buffer.proofs.holding.places_fine.Goals as goal

pub returns-then-not-packet_fine : goal.returns-then-not-packet_fine
returns-then-not-packet_fine c = let at = c.loop-i in
    let l = c.args.words.now in
    let n = c.args.count in
    let bad : packet_fine (packet_in (drop (places_at + at.i * place_long) l)) ≡ false = sym (c.packet_fine.ensures ∙ ap packet_fine c.packet_at.ensures) ∙ c.if-not-packet_fine.true in
    sym (at.invariant ∙ places_step n at.i l c.loop-i-test.true ∙ simp bad)

pub loop-i-preserved : goal.loop-i-preserved
loop-i-preserved c = let at = c.loop-i in
    let l = c.args.words.now in
    let n = c.args.count in
    let good : packet_fine (packet_in (drop (places_at + at.i * place_long) l)) ≡ true = sym (c.packet_fine.ensures ∙ ap packet_fine c.packet_at.ensures) ∙ c.if-not-packet_fine.false in
    at.invariant ∙ places_step n at.i l c.loop-i-test.true ∙ simp good

pub returns : goal.returns
returns c = sym (c.loop-i.invariant ∙ places_end _ _ _ c.loop-i-test.false)
