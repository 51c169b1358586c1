use mathlib.Core.Path.{◌≡◌, refl}
use Prim.Native.Nat.{◌+◌, ◌-◌}
use native.Mathlib.Omega.{arith}
use Rattle.tables.proofs.StartsFound.{one_more, long_wrong, first_wrong, falls, last_wrong, none_wrong}
use Rattle.tables.proofs.places.starts_place.Goals as goal

pub returns-then-starts-eq0 : goal.returns-then-starts-eq0
returns-then-starts-eq0 c = let a = c.args in long_wrong a.starts.now a.chips a.rows (λ e. omega arith)

pub returns-then-starts-chips : goal.returns-then-starts-chips
returns-then-starts-chips c = let a = c.args in long_wrong a.starts.now a.chips a.rows (λ e. omega arith)

pub returns-then-starts-ne0 : goal.returns-then-starts-ne0
returns-then-starts-ne0 c = let a = c.args in first_wrong a.starts.now a.chips a.rows c.if-starts-ne0.true

pub loop-c-init : goal.loop-c-init
loop-c-init c = record { long = omega arith; first = c.if-starts-ne0.false; up = λ j h. absurd (omega arith) }

pub returns-then-starts-c : goal.returns-then-starts-c
returns-then-starts-c c = let at = c.loop-c.c in
    let e : at + 1 - 1 ≡ at = omega arith in
    falls _ _ _ (at + 1) c.loop-c.invariant (omega arith) (omega arith) (rw e c.if-starts-c.true)

pub loop-c-preserved : goal.loop-c-preserved
loop-c-preserved c = let at = c.loop-c.c in
    let e : at + 1 - 1 ≡ at = omega arith in
    one_more _ _ (at + 1) c.loop-c.invariant (omega arith) (rw e c.if-starts-c.false)

pub returns-then-starts-chips-2 : goal.returns-then-starts-chips-2
returns-then-starts-chips-2 c = last_wrong _ _ _ c.requires (c.loop-c.c + 1) (omega arith) c.loop-c.invariant c.if-starts-chips-2.true

pub returns : goal.returns
returns c = let all : c.loop-c.c ≡ c.args.chips = omega arith in
    none_wrong _ _ _ (c.args.chips + 1) refl (rw all at c.loop-c.invariant) c.if-starts-chips-2.false
