-- Sets of links are below 64.
use mathlib.Core.Bool.{Bool, true, false, cond, ◌&&◌, not}
use Prim.Native.Nat.{ℕ, ◌≤◌, ◌<◌}
use native.Mathlib.Nat.{le_refl}
use native.Mathlib.Omega.{arith}
use lib.Dec.{lit<}
use Rattle.packet.specs.declared.Packet.{Packet}
use Rattle.packet.specs.Types.{is_marked}
use Rattle.steps.specs.declared.Setting.{Setting}
use Rattle.steps.specs.declared.Wanted.{Wanted}
use Rattle.steps.specs.declared.Outcome.{Outcome}
use Rattle.steps.specs.Links.{has, set_of, links_of}
use Rattle.steps.specs.Detour.{carries, sends, drops}
use Rattle.steps.specs.Errors.{errors_of, stamped_of}
use Rattle.steps.specs.Wants.{wanted_of}
use Rattle.steps.specs.Deciding.{leg_set, decided, outcome_of}
use Rattle.tables.specs.Tables.{ChipTables}

bit_small : (b : Bool) (n : ℕ) → cond b n 0 ≤ n
bit_small true n = le_refl n
bit_small false n = omega arith

pub set_small : (f : ℕ → Bool) → set_of f < 64
set_small f = omega (arith, bit_small (f 0) 1, bit_small (f 1) 2, bit_small (f 2) 4, bit_small (f 3) 8, bit_small (f 4) 16, bit_small (f 5) 32)

either_small : (b : Bool) (f g : ℕ → Bool) → cond b (set_of f) (set_of g) < 64
either_small true f g = set_small f
either_small false f g = set_small g

maybe_small : (b : Bool) (f : ℕ → Bool) → cond b (set_of f) 0 < 64
maybe_small true f = set_small f
maybe_small false f = lit< tt

pub record Sets (o : Outcome) : Type 0 where
  pub sent : o.sent < 64
  pub carried : o.carried < 64
  pub dropped : o.dropped < 64
  pub leg_sent : o.leg_sent < 64
  pub leg_dropped : o.leg_dropped < 64

pub decided_sets : (errors : ℕ) (p : Packet) (source phase : ℕ) (w : Wanted) (ready : ℕ) → Sets (decided errors p source phase w ready)
unfolding decided
decided_sets errors p source phase w ready =
    let l = links_of w.set in
    let g = leg_set errors p source in
    record {
      sent = either_small (is_marked p.control) (sends l ready) (λ i. has l i && has ready i);
      carried = maybe_small (is_marked p.control) (carries l ready);
      dropped = either_small (is_marked p.control) (drops l ready) (λ i. has l i && not (has ready i));
      leg_sent = set_small (λ i. has g i && has ready i);
      leg_dropped = set_small (λ i. has g i && not (has ready i));
    }

pub outcome_sets : (p : Packet) (source : ℕ) (tables : ChipTables) (t : Setting) → Sets (outcome_of p source tables t)
unfolding outcome_of
outcome_sets p source tables t =
    let e = errors_of p source t.phase in
    decided_sets e (stamped_of p source e t.phase) source t.phase (wanted_of e p source tables t) t.ready
