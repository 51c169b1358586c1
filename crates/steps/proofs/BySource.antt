-- The errors that depend on where a packet came from: at most one of the two can show.
use mathlib.Core.Path.{◌≡◌, sym, ap, ◌∙◌}
use mathlib.Core.Bool.{Bool, false, ◌&&◌, not}
use Prim.Native.Nat.{ℕ, ◌+◌, ◌-◌, ◌≤◌, ◌<◌}
use native.Mathlib.Nat.{zero-add, add-zero}
use native.Mathlib.Omega.{arith}
use borrow.Author.Tests.{ne_eqb, le-ltb}
use lib.Dec.{eqb}
use Rattle.packet.specs.Control.{mark_of, stamp_of}
use Rattle.packet.specs.Types.{is_marked, is_stamped}
use Rattle.steps.specs.Errors.{too_old, bad_local, flag}

module _ (control source phase : ℕ) where
  pub link_errors : source < 6 → flag (too_old control source phase) 2 ≡ flag (too_old control source phase) 2 + flag (bad_local control source) 8
  link_errors l =
      let fine : bad_local control source ≡ false = ap (λ (b : Bool). b && is_marked control && not (eqb (mark_of control) 0)) (ne_eqb source 7 (λ e. omega arith)) in
      sym (ap (λ (b : Bool). flag (too_old control source phase) 2 + flag b 8) fine ∙ add-zero _)

  pub other_errors : 6 ≤ source → flag (bad_local control source) 8 ≡ flag (too_old control source phase) 2 + flag (bad_local control source) 8
  other_errors g =
      let young : too_old control source phase ≡ false = ap (λ (b : Bool). b && is_stamped control && eqb (stamp_of control) (3 - phase)) (le-ltb source 6 g) in
      sym (ap (λ (b : Bool). flag b 2 + flag (bad_local control source) 8) young ∙ zero-add _)
