-- The loop of `digits` goes through the rest of the word: the number so far with the digits that are left is that of them all.
use Rattle.std.proofs.Common.{◌≡◌, Some, drop}
use Rattle.script.specs.Numbers.{with_digits}
use Rattle.script.proofs.numbers.digits.Given as goal

abbrev pub invariant-loop-b : goal.invariant-loop-b
invariant-loop-b l = with_digits l.hex (Some l.n) (drop l.b-index l.behind) ≡ with_digits l.hex (Some 0) l.behind
