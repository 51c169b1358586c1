-- What a call leaves, refused or accepted.
use Rattle.std.proofs.Common.{◌≡◌, ℕ, ◌*◌, ◌/◌, ◌≤◌, true, List, [], ◌++◌, length, take, drop, sym, refl, ap, ◌∙◌, arith, take-append-drop, length-take-le, eq-eqb, ne_eqb}
use Rattle.mesh.specs.Mesh.{Mesh}
use Rattle.mesh.specs.Steps.{Going}
use Rattle.buffer.specs.Layout.{mesh_of, words_of}
use Rattle.buffer.specs.Holding.{holds_mesh}
use Rattle.mesh.specs.Calls.{added_of, logged_on, unless}
use Rattle.buffer.specs.Leaving.{Leaves, Moves}

module _ (r p : ℕ) (m : Mesh (Unit {0})) (g : Going (Unit {0})) where
  go_left : r ≡ 0 → unless r p m g ≡ record { refusal = 0; place = 0; mesh = g.mesh; log = g.log }
  go_left e = simp (eq-eqb r 0 e)

  no_left : (r ≡ 0 → ⊥) → unless r p m g ≡ record { refusal = r; place = p; mesh = m; log = [] }
  no_left e = simp (ne_eqb r 0 e)

  -- "A refused call changes nothing."
  pub refused_leaves : (r ≡ 0 → ⊥) → (l log : List ℕ) → Moves l log (unless r p m g) (record { refusal = r; added = 0; place = p }) l log
  refused_leaves some l log = rw (no_left some)
      (record { answered = refl; buffer = record { refused = λ z. refl; mesh = λ z. absurd (some z); holds = λ z. absurd (some z); long = refl; past = refl }; logged = refl })

  -- An accepted call leaves what it makes of the mesh.
  pub accepted_leaves : r ≡ 0 → (l l' : List ℕ) → mesh_of l' ≡ g.mesh → holds_mesh l' ≡ true → length l' ≡ length l
      → drop (words_of l) l' ≡ drop (words_of l) l → Leaves l l' (unless r p m g)
  accepted_leaves none l l' mesh holds long past =
      rw (go_left none) (record { refused = λ z. absurd (z refl); mesh = λ z. mesh; holds = λ z. holds; long = long; past = past })

  pub accepted_refusal : r ≡ 0 → 0 ≡ (unless r p m g).refusal
  accepted_refusal none = rw (go_left none) refl

  -- and the records that it makes, n of them
  pub accepted_log : r ≡ 0 → (log log' : List ℕ) (n : ℕ) → take (n * 6) log' ≡ g.log → drop (n * 6) log' ≡ drop (n * 6) log → length log' ≡ length log → n * 6 ≤ length log
      → ((record { refusal = 0; added = n; place = 0 } ≡ added_of (unless r p m g)) × (log' ≡ logged_on (unless r p m g).log log))
  accepted_log none log log' n front behind long fits =
      let size : length g.log ≡ n * 6 = ap length (sym front) ∙ length-take-le (n * 6) log' (omega arith) in
      let count : n ≡ length g.log / 6 = omega arith in
      rw (go_left none) (
        (λ i. record { refusal = 0; added = count i; place = 0 }),
        sym (take-append-drop (n * 6) log') ∙ (λ i. front i ++ behind i) ∙ ap (λ (k : ℕ). g.log ++ drop k log) (sym size),
      )
