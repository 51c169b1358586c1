-- "MC, mark 10: nothing", and fixed-route "nothing if marked 10": of every type with a mark, a packet marked 10 wants nothing.
use mathlib.Core.Path.{◌≡◌}
use mathlib.Core.Bool.{true}
use mathlib.Core.Logic.{⊎_elim}
use Prim.Native.Nat.{ℕ}
use borrow.Author.Tests.{eq-eqb, eqb-true}
use Rattle.packet.specs.declared.Packet.{Packet}
use Rattle.packet.specs.Control.{kind_of, mark_of}
use Rattle.packet.specs.Types.{is_mc, is_fixed, is_marked}
use Rattle.packet.proofs.Types.{marked_either}
use Rattle.tables.specs.Tables.{ChipTables}
use Rattle.steps.specs.declared.Setting.{Setting}
use Rattle.steps.specs.Wants.{wanted_of}

pub emergency_wants_nothing : (e : ℕ) (p : Packet) (source : ℕ) (tables : ChipTables) (t : Setting) → e ≡ 0 → is_marked p.control ≡ true → mark_of p.control ≡ 2
    → (wanted_of e p source tables t).set ≡ 0
unfolding wanted_of
emergency_wants_nothing e p source tables t none marked two =
    ⊎_elim (λ (mc : is_mc p.control ≡ true). simp (eq-eqb _ _ none, mc, eq-eqb _ _ two))
    (λ (fixed : is_fixed p.control ≡ true). let k : kind_of p.control ≡ 3 = eqb-true _ _ fixed in simp (eq-eqb _ _ none, k, eq-eqb _ _ two))
    (marked_either p.control marked)
