use Rattle.std.proofs.Common.{◌+◌, ◌*◌, refl, ◌∙◌, rules}
use native.Mathlib.Nat.{add-sub_cancel_left}
use Rattle.packet.proofs.Numbers.{number_some}
use Rattle.buffer.proofs.LooksAtFlights.{flight_refused, few_there, flight_found}
use Rattle.links.specs.Offsets.{header_long, link_long, links_at, chip_long}
use Rattle.buffer.proofs.looking.look_flight.Goals as goal

pub returns-in-Err : goal.returns-in-Err
returns-in-Err c = c.no_flight.ensures ∙ flight_refused c.args.mesh.now c.args.chip c.args.link c.args.place _ c.in-Err.ensures (number_some c.in-Err.refused)

pub look_place-requires : goal.look_place-requires
look_place-requires c = let at = header_long + c.args.chip * chip_long + (links_at + c.args.link * link_long) in
    (search rules, rw (add-sub_cancel_left at link_long) (few_there c.args.mesh.now c.args.chip c.args.link c.args.place _ c.in_default.ensures refl))

pub returns : goal.returns
returns c = let at = header_long + c.args.chip * chip_long + (links_at + c.args.link * link_long) in
    rw (add-sub_cancel_left at link_long) at c.look_place.ensures ∙ flight_found c.args.mesh.now c.args.chip c.args.link c.args.place _ c.in_default.ensures refl
