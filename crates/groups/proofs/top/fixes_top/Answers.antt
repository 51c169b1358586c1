-- `top::fixes_top` meets its contract.
use Prim.Native.Nat.{ℕ}
use mathlib.Core.Path.{sym, ap, ◌∙◌}
use lib.Dec.{eqb}
use Rattle.tables.proofs.RowsByNumber.{row_at}
use Rattle.groups.specs.Groups.{fixes_top}
use Rattle.groups.proofs.top.fixes_top.Goals as goal

pub returns : goal.returns
returns c = ap (λ (n : ℕ). eqb n 255) c.top_of.ensures.0 ∙ ap fixes_top (sym (row_at c.args.rows.now c.args.i c.requires))
