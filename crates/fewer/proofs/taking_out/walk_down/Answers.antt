use native.Mathlib.Omega.{arith}
use Rattle.fewer.proofs.HeldRows.{held_at}
use Rattle.fewer.proofs.Onwards.{went_none, went_on, took_out}
use Rattle.fewer.proofs.taking_out.walk_down.Goals as goal

pub loop-walk-init : goal.loop-walk-init
loop-walk-init g c = (λ b. b.walking, went_none c.args.held.now c.args.gone.now c.args.walk)

pub stays-staying-requires : goal.stays-staying-requires
stays-staying-requires g c = let now = c.loop-walk.invariant.0 c.requires.begins in
    c.requires.takes _ _ _ (omega (arith, now.fits, now.behind, now.within))

pub pass-walk-requires : goal.pass-walk-requires
pass-walk-requires g c = let now = c.loop-walk.invariant.0 c.requires.begins in
    (now.behind, (c.loop-walk-test.true, (now.listed, now.fits)))

pub loop-walk-smaller : goal.loop-walk-smaller
loop-walk-smaller g c = omega (arith, c.pass-walk.ensures.next_lt_next, c.loop-walk-test.true, c.loop-walk.invariant.1.same)

pub loop-walk-preserved : goal.loop-walk-preserved
loop-walk-preserved g c =
    let now = c.loop-walk.invariant.0 c.requires.begins in
    let there = held_at c.loop-walk.held c.loop-walk.walk.next (omega (arith, now.fits, c.loop-walk-test.true)) in
    let went = c.loop-walk.invariant.1 in
    let more = c.loop-walk-test.true in
    let first = c.requires.begins in
    let on = c.pass-walk.ensures.passes first.lo first.hi now there (first.tested _ c.loop-walk.gone c.loop-walk.walk _ _ now went more there c.stays-staying.ensures) in (
      λ b.
          let at = c.loop-walk.invariant.0 b in
          (c.pass-walk.ensures.passes b.lo b.hi at there (b.tested _ c.loop-walk.gone c.loop-walk.walk _ _ at went more there c.stays-staying.ensures)).0,
      went_on went on.1,
    )

pub shape_of-held : goal.shape_of-held
shape_of-held g c = c.loop-walk.invariant.1.onward.words

pub shape_of-gone : goal.shape_of-gone
shape_of-gone g c = c.loop-walk.invariant.1.onward.room

pub returns : goal.returns
returns g c = let at = c.loop-walk in
    took_out _ _ _ _ _ at.held at.gone at.walk (at.invariant.0 c.requires.begins) c.loop-walk-test.false at.invariant.1
