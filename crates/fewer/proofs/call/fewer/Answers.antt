use Rattle.std.proofs.Common.{◌-◌, ◌++◌, ◌∙◌, sym, arith, drop}
use Rattle.fewer.proofs.Answers.{left_few, accepted}
use Rattle.fewer.proofs.call.fewer.Goals as goal

pub overflow_cast-result : goal.overflow_cast-result
overflow_cast-result c = let n = c.in-Ok.ensures in
    let few = left_few c.args.rows.now c.args.left.now c.args.gone.now c.shorten-end.result c.shorten-end.new.left c.shorten-end.new.gone (sym n.value) (omega (arith, n.room)) (rw n.room.0 at c.shorten-end.ensures) in
    omega (arith, few, n.few (λ e. omega arith))

pub overflow_sub-result : goal.overflow_sub-result
overflow_sub-result c = let n = c.in-Ok.ensures in
    let few = left_few c.args.rows.now c.args.left.now c.args.gone.now c.shorten-end.result c.shorten-end.new.left c.shorten-end.new.gone (sym n.value) (omega (arith, n.room)) (rw n.room.0 at c.shorten-end.ensures) in
    omega (arith, few, n.room.0)

pub returns-in-Ok : goal.returns-in-Ok
returns-in-Ok c = let n = c.in-Ok.ensures in
    let all = accepted c.args.rows.now c.args.left.now c.args.gone.now c.shorten-end.result c.shorten-end.new.left c.shorten-end.new.gone (sym n.value) (omega (arith, n.room)) (rw n.room.0 at c.shorten-end.ensures) in
    record {
      value = (λ k. record { refusal = 0; rows = c.shorten-end.result; gone = n.room.0 k - c.shorten-end.result; place = 0 }) ∙ all.0;
      left_after = all.1.0;
      gone_after = (λ k. c.shorten-end.new.gone ++ drop (n.room.0 k) c.args.gone.now) ∙ all.1.1;
    }
