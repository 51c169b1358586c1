use Rattle.std.proofs.Common.{refl, arith}
use Rattle.buffer.proofs.GroupsBuilt.{place_counted}
use Rattle.buffer.proofs.AsideCounted.{counted_none, counted_next}
use Rattle.buffer.proofs.grouping.count_aside.Goals as goal

pub loop-source-init : goal.loop-source-init
loop-source-init c = (omega arith, counted_none c.args.mesh.now c.args.chip)

pub offset_bounds-mesh-aside_place : goal.offset_bounds-mesh-aside_place
offset_bounds-mesh-aside_place c =
    let here = place_counted c.args.mesh.now c.args.chip c.requires c.loop-source.source c.loop-source-test.true c.aside_place.result (c.aside_place.ensures c.args.chip refl refl) in
    omega (arith, here)

pub bounds-mesh-aside_place : goal.bounds-mesh-aside_place
bounds-mesh-aside_place c =
    let here = place_counted c.args.mesh.now c.args.chip c.requires c.loop-source.source c.loop-source-test.true c.aside_place.result (c.aside_place.ensures c.args.chip refl refl) in
    omega (arith, here)

pub loop-source-preserved : goal.loop-source-preserved
loop-source-preserved c = let at = c.loop-source in
    let here = place_counted c.args.mesh.now c.args.chip c.requires c.loop-source.source c.loop-source-test.true c.aside_place.result (c.aside_place.ensures c.args.chip refl refl) in
    (omega (arith, here, at.invariant), counted_next c.args.mesh.now c.args.chip at.source at.count _ at.invariant.1 here.0)
