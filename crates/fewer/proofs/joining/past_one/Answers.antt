use Rattle.std.proofs.Common.{◌+◌, ◌<◌, ◌∙◌, sym, ap, arith, length}
use lib.ListN.{get_or, set, length-set}
use Rattle.fewer.specs.Hand.{numbered_of, held_of}
use Rattle.fewer.proofs.HeldRows.{none_held, held_at, held_put}
use Rattle.fewer.proofs.PairWords.{no_pair, walk_begins, pair_joined}
use Rattle.fewer.proofs.joining.past_one.Goals as goal

pub returns-then-not-makes_pair_with : goal.returns-then-not-makes_pair_with
returns-then-not-makes_pair_with c =
    let held = c.args.held.now in
    let at = c.args.pairs.at in
    let inside : at + 1 < length held = omega (arith, c.requires.1, c.requires.0.fits) in
    no_pair held c.args.gone.now c.args.pairs c.requires.0 c.requires.1 (numbered_of (get_or held at none_held)) (numbered_of (get_or held (at + 1) none_held)) (held_at held at (omega (arith, inside))) (held_at held (at + 1) inside) (sym c.makes_pair_with.ensures ∙ c.if-not-makes_pair_with.true)

pub take_out_under-requires : goal.take_out_under-requires
take_out_under-requires c =
    let held = c.args.held.now in
    let at = c.args.pairs.at in
    let inside : at + 1 < length held = omega (arith, c.requires.1, c.requires.0.fits) in
    let joined = held_put held at c.joined_to.result ∙ ap (set (held_of held) at) c.joined_to.ensures in
    walk_begins held c.args.gone.now c.args.pairs c.requires.0 c.requires.1 (numbered_of (get_or held at none_held)) (numbered_of (get_or held (at + 1) none_held)) (held_at held at (omega (arith, inside))) (held_at held (at + 1) inside) (sym c.makes_pair_with.ensures ∙ c.if-not-makes_pair_with.false)
    (set held at c.joined_to.result) (length-set held at c.joined_to.result) joined

pub returns : goal.returns
returns c =
    let held = c.args.held.now in
    let at = c.args.pairs.at in
    let inside : at + 1 < length held = omega (arith, c.requires.1, c.requires.0.fits) in
    let joined = held_put held at c.joined_to.result ∙ ap (set (held_of held) at) c.joined_to.ensures in
    rw c.saturating_sub.ensures (pair_joined held c.args.gone.now c.args.pairs c.requires.0 c.requires.1 (numbered_of (get_or held at none_held)) (numbered_of (get_or held (at + 1) none_held)) (held_at held at (omega (arith, inside))) (held_at held (at + 1) inside) (sym c.makes_pair_with.ensures ∙ c.if-not-makes_pair_with.false)
    (set held at c.joined_to.result) (length-set held at c.joined_to.result) joined c.take_out_under.new.held c.take_out_under.new.gone c.take_out_under.result c.take_out_under.ensures)
