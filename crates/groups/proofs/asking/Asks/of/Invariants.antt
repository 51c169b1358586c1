use Rattle.std.proofs.Common.{◌≡◌, take, length}
use Rattle.groups.specs.Asking.{Asking}
use Rattle.groups.proofs.asking.Asks.of.Given as goal

-- the keys so far have asked
abbrev pub invariant-loop-key : goal.invariant-loop-key
invariant-loop-key l =
    record { asking : Asking (take l.key-index l.keys) l.asks.marks l.asks.listed l.asks.count; long : length l.asks.listed ≡ 48 }
