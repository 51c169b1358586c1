use Rattle.std.proofs.Common.{◌∙◌, arith, length, get_or, ap, refl}
use Rattle.groups.proofs.Asks.{asking_none, asking_one, tops_long}
use Rattle.groups.proofs.asking.Asks.of.Goals as goal

pub loop-key-init : goal.loop-key-init
loop-key-init c = record { asking = asking_none _; long = refl }

pub loop-key-preserved : goal.loop-key-preserved
loop-key-preserved c =
    let asks = c.loop-key.asks in
    let h = c.loop-key.invariant in
    let i = c.loop-key.key-index in
    let next = asking_one c.args.keys.now asks.marks asks.listed asks.count i h.asking (omega arith) (omega (arith, c.type_inv.keys i)) (omega (arith, c.requires, h.long)) in
    record {
      asking = rw c.ask.ensures.count (rw c.ask.ensures.marks (rw c.ask.ensures.listed next));
      long = ap length c.ask.ensures.listed ∙ tops_long asks.marks asks.listed asks.count (get_or c.args.keys.now i 0) ∙ h.long;
    }
