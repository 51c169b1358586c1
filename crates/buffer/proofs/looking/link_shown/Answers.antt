use Rattle.std.proofs.Common.{Bool, get_or, drop, sym, ap, ◌∙◌}
use Rattle.steps.specs.Errors.{flag}
use Rattle.links.specs.Offsets.{held_at, places_at}
use Rattle.links.proofs.Places.{length_places}
use Rattle.buffer.proofs.looking.link_shown.Goals as goal

pub returns : goal.returns
returns c = let l = c.args.words.now in
    λ i. record { refusal = 0; up = c.flag_of.ensures.0 i; held = sym (length_places (get_or l held_at 0) (drop places_at l)) i; ready = (c.flag_of-2.ensures.0 ∙ ap (λ (b : Bool). flag b 1) c.is_ready.ensures) i }
