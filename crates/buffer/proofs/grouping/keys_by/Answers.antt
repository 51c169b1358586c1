use Rattle.std.proofs.Common.{◌≡◌, ℕ, ◌+◌, ◌*◌, List, ◌++◌, get_or, take, sym, refl, ap, ◌∙◌, arith}
use Rattle.buffer.proofs.GroupsBuilt.{place_counted, keys_read, key_put, keys_none}
use Rattle.buffer.proofs.grouping.keys_by.Goals as goal

pub loop-i-init : goal.loop-i-init
loop-i-init c = keys_none c.args.count c.args.keys.now (λ k. get_or c.args.mesh.now (c.args.at + 2 + k * 3) 0)

pub bounds-mesh-at-in-loop-i : goal.bounds-mesh-at-in-loop-i
bounds-mesh-at-in-loop-i c = omega (arith, place_counted c.args.mesh.now c.args.chip c.requires.0 c.args.source c.requires.1.0.1 c.args.at c.requires.1.0.0, c.requires.1.1, c.loop-i.auto.keys)

pub bounds-keys-count : goal.bounds-keys-count
bounds-keys-count c = omega (arith, place_counted c.args.mesh.now c.args.chip c.requires.0 c.args.source c.requires.1.0.1 c.args.at c.requires.1.0.0, c.requires.1.1, c.loop-i.auto.keys)

pub loop-i-preserved : goal.loop-i-preserved
loop-i-preserved c = let at = c.loop-i in
    key_put at.keys (take c.args.count c.args.keys.now) (λ k. get_or c.args.mesh.now (c.args.at + 2 + k * 3) 0) c.args.count at.i _ (omega (arith, place_counted c.args.mesh.now c.args.chip c.requires.0 c.args.source c.requires.1.0.1 c.args.at c.requires.1.0.0, c.requires.1.1, c.loop-i.auto.keys)) at.invariant refl

pub returns : goal.returns
returns c = let at = c.loop-i in
    let e : at.i ≡ get_or c.args.mesh.now c.args.at 0 = omega arith in
    let all = rw e at at.invariant in (
      all ∙ ap (λ (l : List ℕ). take c.args.count c.args.keys.now ++ l) (sym (keys_read c.args.mesh.now c.args.chip c.requires.0 c.args.source c.requires.1.0.1 c.args.at c.requires.1.0.0)),
      omega (arith, place_counted c.args.mesh.now c.args.chip c.requires.0 c.args.source c.requires.1.0.1 c.args.at c.requires.1.0.0, c.requires.1.1),
    )
