-- `hand::numbered_row` meets its contract.
use Prim.Native.Nat.{◌+◌}
use mathlib.Core.Path.{◌≡◌, sym, ◌∙◌}
use native.Mathlib.Omega.{arith}
use Rattle.tables.specs.Rows.{rows_of}
use Rattle.tables.proofs.RowsByNumber.{row_at, rows_many}
use Rattle.fewer.proofs.HeldRows.{numbered_at}
use Rattle.fewer.proofs.hand.numbered_row.Goals as goal

pub returns : goal.returns
returns c = let rows = c.args.rows.now in
    let i = c.args.i in
    let e : i ≡ 0 + i = omega arith in
    (λ k. record { entry = sym (row_at rows i (omega arith)) k; number = e k }) ∙ numbered_at 0 (rows_of rows) i (omega (arith, rows_many rows))
