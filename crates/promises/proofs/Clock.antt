-- The phase of a mesh after so many rounds, and when a stamp is too old: just at the round that ends its span.
use mathlib.Core.Path.{◌≡◌, refl, sym, ap, ◌∙◌}
use mathlib.Core.Bool.{Bool, true, false, and-eq-true_iff}
use mathlib.Core.List.{List}
use Prim.Native.Nat.{ℕ, zero, suc, ◌+◌, ◌-◌, ◌*◌, ◌/◌, ◌%◌, ◌≤◌, ◌<◌}
use native.Mathlib.Nat.{mod-lt, zero-mod, zero-div, div-add-mod', div-eq_of_lt-le, mul-div_cancel, le-div_iff_mul-le, div-lt_iff_lt-mul}
use native.Mathlib.Decide.{ℕ_discrete}
use native.Mathlib.Omega.{arith}
use lib.Dec.{ltb, leb}
use borrow.Author.Tests.{ltb-true, leb-true, ltb-false}
use Rattle.mesh.specs.Mesh.{Chip, Mesh, opened, rounds_fine}
use Rattle.links.specs.Phase.{next_phase}
use Rattle.mesh.specs.Steps.{with_chips, round_over}
use Rattle.mesh.proofs.SoundSteps.{SameHead}
use Rattle.promises.specs.Demand3.{span}

-- ---- the phase code after so many steps

-- "The phase code runs 00, 01, 11, 10 and round again."
pub code : ℕ → ℕ
code zero = 0
code (suc zero) = 1
code (suc (suc zero)) = 3
code (suc (suc (suc zero))) = 2
code (suc (suc (suc (suc k)))) = code k

code_next : (k : ℕ) → next_phase (code k) ≡ code (suc k)
unfolding code
code_next zero = refl
code_next (suc zero) = refl
code_next (suc (suc zero)) = refl
code_next (suc (suc (suc zero))) = refl
code_next (suc (suc (suc (suc k)))) = code_next k

-- both bits flipped: two steps on, and neither now nor one step on
code_two : (k : ℕ) → code k ≡ 3 - code (suc (suc k))
unfolding code
code_two zero = refl
code_two (suc zero) = refl
code_two (suc (suc zero)) = refl
code_two (suc (suc (suc zero))) = refl
code_two (suc (suc (suc (suc k)))) = code_two k

code_now : (k : ℕ) → ¬ (code k ≡ 3 - code k)
unfolding code
code_now zero e = omega arith
code_now (suc zero) e = omega arith
code_now (suc (suc zero)) e = omega arith
code_now (suc (suc (suc zero))) e = omega arith
code_now (suc (suc (suc (suc k)))) e = code_now k e

code_one : (k : ℕ) → ¬ (code k ≡ 3 - code (suc k))
unfolding code
code_one zero e = omega arith
code_one (suc zero) e = omega arith
code_one (suc (suc zero)) e = omega arith
code_one (suc (suc (suc zero))) e = omega arith
code_one (suc (suc (suc (suc k)))) e = code_one k e

-- ---- rounds and phases

module _ (f : ℕ) (some : 0 < f) where
  -- a packet's span ends with the second phase after its own
  span_end : (b : ℕ) → b + span f b ≡ (b / f + 2) * f
  span_end b = omega (arith, div-add-mod' b f, mod-lt b some)

  -- a stamp is too old at the end of its span
  pub old_at_end : (b n : ℕ) → n ≡ b + span f b → code (b / f) ≡ 3 - code (n / f)
  old_at_end b n e = code_two (b / f) ∙ ap (λ (k : ℕ). 3 - code k) two
    where
      two : suc (suc (b / f)) ≡ n / f
      two = omega (arith, ap (λ (x : ℕ). x / f) (e ∙ span_end b) ∙ mul-div_cancel (b / f + 2) some)

  -- and not before
  pub young_before : (b n : ℕ) → b ≤ n → n < b + span f b → ¬ (code (b / f) ≡ 3 - code (n / f))
  young_before b n h l e = go (ℕ_discrete (n / f) (b / f))
    where
      low : b / f ≤ n / f
      low = (le-div_iff_mul-le some).1 (omega (arith, div-add-mod' b f))

      high : n / f < b / f + 2
      high = (div-lt_iff_lt-mul some).1 (omega (arith, span_end b))

      go : Dec (n / f ≡ b / f) → ⊥
      go (yes same) = code_now (b / f) (e ∙ ap (λ (k : ℕ). 3 - code k) same)
      go (no other) = code_one (b / f) (e ∙ ap (λ (k : ℕ). 3 - code k) (omega (arith, low, high)))

  -- one round more: in the same phase, or the first of the next
  within : (n : ℕ) → n % f + 1 < f → ((n + 1) / f ≡ n / f) × ((n + 1) % f ≡ n % f + 1)
  within n h =
      let e : (n + 1) / f ≡ n / f = div-eq_of_lt-le f (omega (arith, div-add-mod' n f)) (omega (arith, div-add-mod' n f)) in
      (e, omega (arith, div-add-mod' n f, rw e at (div-add-mod' (n + 1) f)))

  turning : (n : ℕ) → f ≤ n % f + 1 → ((n + 1) / f ≡ suc (n / f)) × ((n + 1) % f ≡ 0)
  turning n h =
      let e : (n + 1) / f ≡ suc (n / f) = div-eq_of_lt-le f (omega (arith, div-add-mod' n f, mod-lt n some)) (omega (arith, div-add-mod' n f, mod-lt n some)) in
      (e, omega (arith, div-add-mod' n f, mod-lt n some, rw e at (div-add-mod' (n + 1) f)))

-- a mesh's clock: F, the rounds of the running phase that are over, and the phase
pub record Clock {A : Type 0} (f n : ℕ) (m : Mesh A) : Type 0 where
  pub rounds : m.rounds ≡ f
  pub elapsed : m.elapsed ≡ n % f
  pub phase : m.phase ≡ code (n / f)

-- only the header counts
pub clock_chips : {A : Type 0} {f n : ℕ} {m : Mesh A} (chips : List (Chip A)) → Clock f n m → Clock f n (with_chips m chips)
clock_chips chips c = record { rounds = c.rounds; elapsed = c.elapsed; phase = c.phase }

pub clock_same : {A : Type 0} {f n : ℕ} {m k : Mesh A} → SameHead m k → Clock f n m → Clock f n k
clock_same h c = record { rounds = h.rounds ∙ c.rounds; elapsed = h.elapsed ∙ c.elapsed; phase = h.phase ∙ c.phase }

-- "F, the rounds in a phase, is 1 to 65,535."
pub rounds_some : (f : ℕ) → rounds_fine f ≡ true → 0 < f
rounds_some f fine = leb-true _ _ ((and-eq-true_iff (leb 1 f) (leb f 65535)).0 fine).0

pub clock_opened : {A : Type 0} (w h f monitor : ℕ) → Clock {A = A} f 0 (opened w h f monitor)
unfolding code
clock_opened w h f monitor = record { rounds = refl; elapsed = sym (zero-mod f); phase = ap code (sym (zero-div f)) }

-- "... then, after each F rounds, the phase steps on."
pub clock_over : {A : Type 0} {f n : ℕ} {m : Mesh A} → 0 < f → Clock f n m → Clock f (n + 1) (round_over m)
clock_over {f = f} {n = n} {m = m} some c = go (ltb (m.elapsed + 1) m.rounds) refl
  where
    go : (b : Bool) → ltb (m.elapsed + 1) m.rounds ≡ b → Clock f (n + 1) (round_over m)
    go true e =
        let h = within f some n (omega (arith, ltb-true (m.elapsed + 1) m.rounds e, c.rounds, c.elapsed)) in
        record {
          rounds = c.rounds;
          elapsed = simp e (omega (arith, h.1, c.elapsed));
          phase = simp e (c.phase ∙ ap code (sym h.0));
        }
    go false e =
        let h = turning f some n (omega (arith, ltb-false (m.elapsed + 1) m.rounds e, c.rounds, c.elapsed)) in
        record {
          rounds = c.rounds;
          elapsed = simp e (sym h.1);
          phase = simp e (ap next_phase c.phase ∙ code_next (n / f) ∙ ap code (sym h.0));
        }
