-- A call that is lent the tables as one value is lent the tables of the case.
use Rattle.std.proofs.Common.{◌≡◌, ℕ, List, subst}
use Rattle.mesh.specs.declared.Added.{Added}
use Rattle.mesh.specs.Lending.{Tables, with_room}
use Rattle.buffer.specs.Leaving.{Moves, inject_left, round_left}

module _ (t lent : Tables) (e : t ≡ lent) (l log : List ℕ) (room n : ℕ) (r : Added) (l₁ log₁ : List ℕ) where
  pub round_as_lent : Moves l log (round_left l (with_room t room) n) r l₁ log₁ → Moves l log (round_left l (with_room lent room) n) r l₁ log₁
  round_as_lent = subst (λ (x : Tables). Moves l log (round_left l (with_room x room) n) r l₁ log₁) e

  pub inject_as_lent : (chip : ℕ) (bytes : List ℕ) → Moves l log (inject_left l (with_room t room) n chip bytes) r l₁ log₁ → Moves l log (inject_left l (with_room lent room) n chip bytes) r l₁ log₁
  inject_as_lent chip bytes = subst (λ (x : Tables). Moves l log (inject_left l (with_room x room) n chip bytes) r l₁ log₁) e
