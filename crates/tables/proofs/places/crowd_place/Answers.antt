use mathlib.Core.Path.{sym, ◌∙◌}
use native.Mathlib.Omega.{arith}
use Rattle.lists.proofs.Firsts.{first_is, first_none}
use Rattle.tables.specs.Places.{crowded}
use Rattle.tables.proofs.places.crowd_place.Goals as goal

pub returns-then-too_many : goal.returns-then-too_many
returns-then-too_many c = sym (first_is (crowded c.args.starts.now) _ c.loop-c.c (omega arith) (sym c.too_many.ensures ∙ c.if-too_many.true) c.loop-c.invariant)

pub returns : goal.returns
returns c = sym (first_none (crowded c.args.starts.now) c.args.chips (λ j h. c.loop-c.invariant j (omega arith)))
