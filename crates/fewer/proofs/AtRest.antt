-- "... and the new table has no row to take out and no pair to join."
use Prim.Native.Nat.{ℕ, suc}
use mathlib.Core.Path.{◌≡◌, refl}
use mathlib.Core.List.{List, [], ◌∷◌}
use native.Mathlib.Omega.{arith}
use lib.ListN.{length}
use Rattle.tables.specs.Rows.{Entry}
use Rattle.fewer.specs.Process.{numbered, begun, ended}
use Rattle.fewer.specs.Promises.{AtRest}
use Rattle.fewer.proofs.Steps.{Resting, step_none, rests_at_end}

pub length_numbered : (n : ℕ) (rows : List Entry) → length (numbered n rows) ≡ length rows
unfolding numbered
length_numbered n [] = refl
length_numbered n (r ∷ rows) = omega (arith, length_numbered (suc n) rows)

ended_rests : (rows : List Entry) → Resting (ended rows)
unfolding ended
ended_rests rows = rests_at_end (length rows) (begun rows) (length_numbered 0 rows)

pub at_rest : AtRest
at_rest rows =
    let r = ended_rests rows in
    (step_none (ended rows) (omega arith) (omega arith), r.0, r.1)
