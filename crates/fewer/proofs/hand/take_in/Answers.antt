use Prim.Native.Nat.{◌+◌, ◌/◌, ◌<◌}
use mathlib.Core.Path.{◌≡◌, ap, ◌∙◌}
use native.Mathlib.Omega.{arith}
use lib.ListN.{length, take, set}
use lib.Seq.{take_all}
use Rattle.tables.specs.Rows.{rows_of}
use Rattle.fewer.specs.Process.{numbered}
use Rattle.fewer.specs.Hand.{held_of}
use Rattle.tables.proofs.RowsByNumber.{rows_many}
use Rattle.fewer.proofs.AtRest.{length_numbered}
use Rattle.fewer.proofs.HeldRows.{held_many, held_put, take_more}
use Rattle.fewer.proofs.hand.take_in.Goals as goal

pub loop-i-preserved : goal.loop-i-preserved
loop-i-preserved c = let at = c.loop-i in
    let rows = numbered 0 (rows_of c.args.rows.now) in
    let here : at.i < length rows = omega (arith, length_numbered 0 (rows_of c.args.rows.now), rows_many c.args.rows.now) in
    let there : at.i < length (held_of at.held) = omega (arith, held_many at.held, c.requires, at.auto.held) in
    let put = held_put at.held at.i c.numbered_row.result ∙ ap (set (held_of at.held) at.i) c.numbered_row.ensures in
    ap (take (at.i + 1)) put ∙ take_more rows (held_of at.held) at.i here there at.invariant

pub returns : goal.returns
returns c = let at = c.loop-i in
    let rows = c.args.rows.now in
    let e : length (numbered 0 (rows_of rows)) ≡ length rows / 3 = length_numbered 0 (rows_of rows) ∙ rows_many rows in
    let all : at.i ≡ length rows / 3 = omega arith in
    rw all at at.invariant ∙ take_all (length rows / 3) (numbered 0 (rows_of rows)) (omega arith)
