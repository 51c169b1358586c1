-- In F rounds after an injection the phase steps on once at most, so that no packet stamped then is too old.
use Prim.Native.Nat.{ℕ, zero, suc, ◌+◌, ◌-◌, ◌≤◌, ◌<◌}
use mathlib.Core.Path.{◌≡◌, ap, ◌∙◌}
use mathlib.Core.Bool.{Bool, cond}
use mathlib.Core.Logic.{◌⊎◌, inl, inr, ⊎_elim}
use native.Mathlib.Omega.{arith}
use borrow.Author.Tests.{lt-ltb, le-ltb}
use Rattle.links.specs.Phase.{next_phase}
use Rattle.lists.proofs.Firsts.{lt_or_ge}
use Rattle.mesh.specs.Mesh.{Mesh}
use Rattle.mesh.specs.Steps.{round_over}
use Rattle.flood.specs.WholeWay.{InTurn}

-- a phase and the next are not the phase with both bits flipped
not_flipped : (phase : ℕ) → phase ≤ 3 → (phase ≡ 3 - phase → ⊥) × (phase ≡ 3 - next_phase phase → ⊥)
not_flipped zero h = (λ e. omega arith, λ e. omega arith)
not_flipped (suc zero) h = (λ e. omega arith, λ e. omega arith)
not_flipped (suc (suc zero)) h = (λ e. omega arith, λ e. omega arith)
not_flipped (suc (suc (suc zero))) h = (λ e. omega arith, λ e. omega arith)
not_flipped (suc (suc (suc (suc n)))) h = absurd (omega arith)

module _ {A : Type 0} (m : Mesh A) where
  same_phase : m.elapsed + 1 < m.rounds → ((round_over m).phase ≡ m.phase) × ((round_over m).elapsed ≡ m.elapsed + 1)
  same_phase h =
      let e = lt-ltb (m.elapsed + 1) m.rounds h in
      (ap (λ (b : Bool). cond b m.phase (next_phase m.phase)) e, ap (λ (b : Bool). cond b (m.elapsed + 1) 0) e)

  next_phase_lem : m.rounds ≤ m.elapsed + 1 → ((round_over m).phase ≡ next_phase m.phase) × ((round_over m).elapsed ≡ 0)
  next_phase_lem h =
      let e = le-ltb (m.elapsed + 1) m.rounds h in
      (ap (λ (b : Bool). cond b m.phase (next_phase m.phase)) e, ap (λ (b : Bool). cond b (m.elapsed + 1) 0) e)

module _ {A : Type 0} (at : ℕ → Mesh A) (last : ℕ) (turn : InTurn at last) where
  -- the phase of the injection still, or the next
  abbrev Clock : ℕ → Type 0
  Clock k =
      (((at (suc k)).phase ≡ (at 0).phase) × ((at (suc k)).elapsed ≡ (at 0).elapsed + k))
      ⊎ (((at (suc k)).phase ≡ next_phase (at 0).phase) × ((at (suc k)).elapsed + (at 0).rounds ≡ (at 0).elapsed + k))

  clock : (k : ℕ) → suc k ≤ last → k < (at 0).rounds → Clock k
  clock zero b h = inl (turn.phase (omega arith), turn.elapsed (omega arith) ∙ omega arith)
  clock (suc k) b h = go (clock k (omega arith) (omega arith))
    where
      on : (at (suc k)).elapsed + 1 < (at (suc k)).rounds → ((at (suc (suc k))).phase ≡ (at (suc k)).phase) × ((at (suc (suc k))).elapsed ≡ (at (suc k)).elapsed + 1)
      on l = let s = same_phase (at (suc k)) l in (turn.next_phase_lem k b ∙ s.0, turn.next_elapsed k b ∙ s.1)

      go : Clock k → Clock (suc k)
      go (inl c) =
          ⊎_elim (λ (l : (at (suc k)).elapsed + 1 < (at (suc k)).rounds). inl ((on l).0 ∙ c.0, (on l).1 ∙ omega (arith, c.1)))
          (λ (l : (at (suc k)).rounds ≤ (at (suc k)).elapsed + 1).
          let s = next_phase_lem (at (suc k)) l in
          let none : (at (suc (suc k))).elapsed ≡ 0 = turn.next_elapsed k b ∙ s.1 in
          inr (turn.next_phase_lem k b ∙ s.0 ∙ ap next_phase c.0, omega (arith, c.1, (turn.sound (suc k) (omega arith)).elapsed, turn.rounds (suc k) (omega arith))))
          (lt_or_ge ((at (suc k)).elapsed + 1) (at (suc k)).rounds)
      go (inr c) =
          let l : (at (suc k)).elapsed + 1 < (at (suc k)).rounds = omega (arith, c.1, (turn.sound 0 (omega arith)).elapsed, turn.rounds (suc k) (omega arith)) in
          inr ((on l).0 ∙ c.0, omega (arith, (on l).1, c.1))

  -- "A stamp is too old when it equals the phase with both bits flipped."
  pub still_young : (k : ℕ) → suc k ≤ last → k < (at 0).rounds → (at 0).phase ≡ 3 - (at (suc k)).phase → ⊥
  still_young k b h e =
      let f = not_flipped (at 0).phase (turn.sound 0 (omega arith)).phase in
      ⊎_elim (λ c. f.0 (e ∙ ap (λ (x : ℕ). 3 - x) c.0)) (λ c. f.1 (e ∙ ap (λ (x : ℕ). 3 - x) c.0)) (clock k b h)
