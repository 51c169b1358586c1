-- What the one-router call shows: one way of building its answer serves passes and refusals.
use mathlib.Core.Path.{◌≡◌, refl, ap}
use mathlib.Core.Bool.{Bool, true, false, cond}
use mathlib.Core.List.{List, [], ◌∷◌}
use Prim.Native.Nat.{ℕ}
use lib.Count.{ones, ones_in}
use lib.Dec.{eqb, ltb, leb, lit<}
use lib.ListN.{get_or}
use borrow.Author.Tests.{eqb-true, ltb-true, ltb-false, le-leb, lt-leb}
use Rattle.packet.specs.declared.Packet.{Packet}
use Rattle.packet.specs.Bytes.{Taken, nothing}
use Rattle.kept.specs.declared.Counters.{Counters}
use Rattle.steps.specs.declared.Outcome.{Outcome}
use Rattle.steps.specs.declared.Setting.{Setting}
use Rattle.steps.specs.Deciding.{no_outcome, outcome_of}
use Rattle.steps.specs.Errors.{flag}
use Rattle.kept.specs.Counting.{zeros, counted_of}
use Rattle.router.specs.Showing.{to_processors, pass_shown, pass_from, no_pass}
use Rattle.router.specs.Call.{place_of, answer}
use Rattle.steps.proofs.Bounds.{Sets, outcome_sets}
use Rattle.tables.specs.Tables.{ChipTables}

module _ (taken : Taken) (source : ℕ) (tables : ChipTables) (t : Setting) where
  pub answer_shown : pass_shown taken.refusal (place_of taken.refusal tables.rows) (cond (eqb taken.refusal 0) (outcome_of taken.packet source tables t) no_outcome) ≡ answer taken source tables t
  unfolding ones ones_in
  answer_shown = go (eqb taken.refusal 0) refl
    where
      go : (b : Bool) → eqb taken.refusal 0 ≡ b
          → pass_shown taken.refusal (place_of taken.refusal tables.rows) (cond b (outcome_of taken.packet source tables t) no_outcome)
          ≡ cond b (pass_from (outcome_of taken.packet source tables t)) (no_pass taken.refusal (place_of taken.refusal tables.rows))
      go true e = ap (λ (n : ℕ). pass_shown n (place_of n tables.rows) (outcome_of taken.packet source tables t)) (eqb-true _ _ e)
      go false e = simp e

  abbrev pub unless : Bool → Outcome
  unless b = cond b (outcome_of taken.packet source tables t) no_outcome

  pub unless_none : unless (eqb taken.refusal 0) ≡ cond (eqb taken.refusal 0) (unless (eqb taken.refusal 0)) no_outcome
  unless_none = go (eqb taken.refusal 0)
    where
      go : (b : Bool) → unless b ≡ cond b (unless b) no_outcome
      go true = refl
      go false = refl

  pub unless_sets : Sets (cond (eqb taken.refusal 0) (outcome_of taken.packet source tables t) no_outcome)
  unless_sets = go (eqb taken.refusal 0)
    where
      go : (b : Bool) → Sets (cond b (outcome_of taken.packet source tables t) no_outcome)
      go true = outcome_sets taken.packet source tables t
      go false = record { sent = lit< tt; carried = lit< tt; dropped = lit< tt; leg_sent = lit< tt; leg_dropped = lit< tt }

-- a packet kept number by number
abbrev only_of : Bool → Packet → Packet
only_of kept p = record { control = flag kept p.control; nine = flag kept p.nine; word = flag kept p.word; payload = flag kept p.payload }

pub kept_only : (kept : Bool) (p : Packet) → only_of kept p ≡ cond kept p nothing
kept_only true p = refl
kept_only false p = refl

pub at_processors : (o : Outcome) → cond (leb 64 o.wanted) o.packet nothing ≡ to_processors o
at_processors o = go (ltb o.wanted 64) refl
  where
    go : (b : Bool) → ltb o.wanted 64 ≡ b → cond (leb 64 o.wanted) o.packet nothing ≡ cond b nothing o.packet
    go true e = simp (lt-leb 64 o.wanted (ltb-true o.wanted 64 e))
    go false e = simp (le-leb 64 o.wanted (ltb-false o.wanted 64 e))

-- ten counts, of which a refusal takes the first and the ninth away
abbrev picked : Bool → List ℕ → Counters
picked b l =
    record {
      count =
          flag b (get_or l 0 0) ∷ get_or l 1 0 ∷ get_or l 2 0 ∷ get_or l 3 0 ∷ get_or l 4 0 ∷ get_or l 5 0 ∷ get_or l 6 0 ∷ get_or l 7 0 ∷ flag b (get_or l 8 0) ∷ get_or l 9 0 ∷ [];
    }

pub counts_picked : (n : ℕ) (o : Outcome) → o ≡ cond (eqb n 0) o no_outcome → picked (eqb n 0) (counted_of zeros o).count ≡ cond (eqb n 0) (counted_of zeros o) zeros
unfolding ones ones_in
counts_picked n o = go (eqb n 0)
  where
    go : (b : Bool) → o ≡ cond b o no_outcome → picked b (counted_of zeros o).count ≡ cond b (counted_of zeros o) zeros
    go true e = refl
    go false e = ap (λ (x : Outcome). picked false (counted_of zeros x).count) e
