-- `ways::way_to` meets its contract: the least of the four ways is the one that is taken, as computed of every size and place.
use Prim.Native.Nat.{◌-◌, ◌%◌}
use mathlib.Core.Path.{◌∙◌}
use Rattle.tree.specs.Walking.{nearer, best_of_four}
use Rattle.tree.proofs.Signs.{way_made}
use Rattle.tree.proofs.Counts.{counted, forwards_count, east_south_count, west_north_count, backwards_count}
use Rattle.tree.proofs.ComputedWays.{right_way}
use Rattle.tree.proofs.FourWays.{steps, most_east, most_north, least_east, least_north, west, south}
use Rattle.tree.proofs.ways.way_to.Goals as goal

pub fewer_links-requires : goal.fewer_links-requires
fewer_links-requires c =
    let a = c.args in
    let s = steps a.size.fine c.requires c.max-far.ensures c.wrapped-back.ensures c.wrapped-down.ensures in (
      counted (most_east s c.within_ring.ensures c.signed.ensures) (most_north s c.within_ring-2.ensures c.signed-2.ensures) (forwards_count a.size.width a.size.height a.east a.north c.max-far.ensures),
      counted (least_east s c.signed-3.ensures) (south s c.negative.ensures) (east_south_count a.east ((a.size.height - a.north) % a.size.height) c.wrapped-down.ensures),
    )

pub fewer_links-requires-2 : goal.fewer_links-requires-2
fewer_links-requires-2 c =
    let a = c.args in
    let s = steps a.size.fine c.requires c.max-far.ensures c.wrapped-back.ensures c.wrapped-down.ensures in (
      c.fewer_links.ensures.1,
      counted (west s c.negative-2.ensures) (least_north s c.signed-4.ensures) (west_north_count ((a.size.width - a.east) % a.size.width) a.north c.wrapped-back.ensures),
    )

pub fewer_links-requires-3 : goal.fewer_links-requires-3
fewer_links-requires-3 c =
    let a = c.args in
    let s = steps a.size.fine c.requires c.max-far.ensures c.wrapped-back.ensures c.wrapped-down.ensures in
    let many = backwards_count ((a.size.width - a.east) % a.size.width) ((a.size.height - a.north) % a.size.height) c.wrapped-back.ensures c.wrapped-down.ensures c.max.ensures in
    (c.fewer_links-2.ensures.1, counted (west s c.negative-3.ensures) (south s c.negative-4.ensures) many)

pub returns : goal.returns
unfolding best_of_four
returns c =
    let a = c.args in
    let s = steps a.size.fine c.requires c.max-far.ensures c.wrapped-back.ensures c.wrapped-down.ensures in
    let onwards = way_made (most_east s c.within_ring.ensures c.signed.ensures) (most_north s c.within_ring-2.ensures c.signed-2.ensures) in
    let right_down = way_made (least_east s c.signed-3.ensures) (south s c.negative.ensures) in
    let left_up = way_made (west s c.negative-2.ensures) (least_north s c.signed-4.ensures) in
    let back = way_made (west s c.negative-3.ensures) (south s c.negative-4.ensures) in
    let first = c.fewer_links.ensures.0 ∙ (λ i. nearer (onwards i) (right_down i)) in
    let second = c.fewer_links-2.ensures.0 ∙ (λ i. nearer (first i) (left_up i)) in
    let third = c.fewer_links-3.ensures.0 ∙ (λ i. nearer (second i) (back i)) in
    (third ∙ (right_way a.size.width a.size.height a.east a.north a.size.fine c.requires.0 c.requires.1).four, c.fewer_links-3.ensures.1.small)
