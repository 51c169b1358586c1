use Rattle.std.proofs.Common.{ℕ, replicate, ap, ◌∙◌}
use lib.ListN.{length-replicate}
use Rattle.blue_light.specs.Board.{opened}
use Rattle.buffer.specs.Opening.{open_refusals, opening}
use Rattle.packet.specs.Refusal.{first_of}
use Rattle.blue_light.proofs.board.opened.Goals as goal

pub returns : goal.returns
unfolding opened
returns c = let o = c.open in
    let taken = o.ensures.value ∙ ap (λ (n : ℕ). first_of (open_refusals n 3 3 100 0)) (length-replicate {A = ℕ} 37888 0) in
    o.ensures.mesh_after ∙ ap (λ (n : ℕ). opening n (replicate 37888 0) 3 3 100 0) taken
