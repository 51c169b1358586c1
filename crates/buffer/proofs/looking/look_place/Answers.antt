use Rattle.std.proofs.Common.{◌∙◌}
use Rattle.buffer.proofs.LooksAtFlights.{place_empty, place_found}
use Rattle.buffer.proofs.looking.look_place.Goals as goal

pub returns-then-words-place : goal.returns-then-words-place
returns-then-words-place c = c.no_flight.ensures ∙ place_empty c.args.words.now c.args.place c.if-words-place.true

pub returns : goal.returns
returns c = rw c.packet_at.ensures (place_found c.args.words.now c.args.place c.if-words-place.false)
