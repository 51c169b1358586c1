-- What a call leaves of a buffer, as the calls after it see it: by its contract the buffer holds a mesh where it did before, and the mesh that the call left.
use mathlib.Core.Path.{◌≡◌, refl, sym, ap, ◌∙◌}
use mathlib.Core.Bool.{Bool, true, false, ◌&&◌, not}
use mathlib.Core.List.{List, [], ◌∷◌, ◌++◌}
use Prim.Native.Nat.{ℕ, ◌+◌, ◌*◌}
use native.Mathlib.Numerals.{add-one}
use native.Mathlib.Omega.{arith}
use lib.Dec.{eqb, ltb}
use lib.ListN.{length, replicate, length-replicate}
use borrow.Author.Tests.{eqb-true, eqb-false}
use Rattle.packet.specs.Bytes.{packet_at}
use Rattle.packet.specs.Refusal.{Refusal, refuse, first_of, packet_refusals}
use Rattle.mesh.specs.Steps.{Going, same, injected, rounded}
use Rattle.mesh.specs.Refusals.{tables_refusals}
use Rattle.mesh.specs.Mesh.{many}
use Rattle.mesh.specs.Calls.{Left, unless}
use Rattle.mesh.specs.Weights.{in_flight}
use Rattle.buffer.specs.Layout.{mesh_of}
use Rattle.buffer.specs.Holding.{holds_mesh}
use Rattle.buffer.specs.Leaving.{Leaves}
use Rattle.buffer.specs.Opening.{open_refusals, opening, opened_words}
use Rattle.buffer.proofs.Opened.{opened_mesh, opened_holds}
use Rattle.known_passes.specs.TwoChips.{held_in, begun, lent, packet, added, after, round, inject, next, link_is, sent, sent_ready}

-- what is not refused with 8 holds a mesh
holds_where_taken : (holds : Bool) (rest : List Refusal) → first_of (refuse (not holds) 8 ∷ rest) ≡ 0 → holds ≡ true
holds_where_taken true rest e = refl
holds_where_taken false rest e = absurd (omega arith)

module _ (l l₁ : List ℕ) (rest : List Refusal) (p : ℕ) (g : Going (Unit {0})) where
  abbrev refusal : ℕ
  refusal = first_of (refuse (not (holds_mesh l)) 8 ∷ rest)

  abbrev left : Left (Unit {0})
  left = unless refusal p (mesh_of l) g

  pub left_held : Leaves l l₁ left → held_in l₁ ≡ after (held_in l) left
  left_held k = go (eqb refusal 0) refl
    where
      go : (b : Bool) → eqb refusal 0 ≡ b → held_in l₁ ≡ after (held_in l) left
      go true e =
          let taken : left.refusal ≡ 0 = simp e in
          let held : holds_mesh l₁ ≡ holds_mesh l = k.holds taken ∙ sym (holds_where_taken (holds_mesh l) rest (eqb-true _ _ e)) in
          λ i. record { holds = held i; mesh = k.mesh taken i }
      go false e =
          let number : left.refusal ≡ refusal = simp e in
          let stays : left.mesh ≡ mesh_of l = simp e in
          ap held_in (k.refused (λ z. eqb-false _ _ e (sym number ∙ z))) ∙ (λ i. record { holds = holds_mesh l; mesh = sym stays i })

module _ (l l₁ : List ℕ) where
  pub round_held : Leaves l l₁ (round (held_in l)) → held_in l₁ ≡ next (held_in l)
  unfolding round next
  round_held = left_held l l₁ (tables_refusals lent (many (mesh_of l)) ++ (refuse (ltb 6 (in_flight (mesh_of l) * 6)) 10 ∷ [])) _ (rounded lent same (mesh_of l))

  pub inject_held : (chip : ℕ) → Leaves l l₁ (inject (held_in l) chip) → held_in l₁ ≡ after (held_in l) (inject (held_in l) chip)
  unfolding inject
  inject_held chip =
      left_held l l₁ (refuse (not (ltb chip (many (mesh_of l)))) 9 ∷ (tables_refusals lent (many (mesh_of l)) ++ (refuse (ltb 6 6) 10 ∷ packet_refusals packet))) _
      (injected lent same (mesh_of l) chip (record { packet = packet_at packet; tag = tt }))

-- a buffer of zeros is opened
module _ (l₁ : List ℕ) (r : ℕ) where
  abbrev zeros : List ℕ
  zeros = replicate 9216 0

  pub open_held : r ≡ first_of (open_refusals (length zeros) 2 1 2 0) → l₁ ≡ opening r zeros 2 1 2 0 → (r ≡ 0) × (held_in l₁ ≡ begun)
  unfolding begun
  open_held number words =
      let long : length zeros ≡ 9216 = length-replicate {A = ℕ} 9216 0 in
      let taken : first_of (open_refusals (length zeros) 2 1 2 0) ≡ 0 = ap (λ (n : ℕ). first_of (open_refusals n 2 1 2 0)) long in
      let none : r ≡ 0 = number ∙ taken in
      let are : l₁ ≡ opened_words zeros 2 1 2 0 = words ∙ ap (λ (n : ℕ). opening n zeros 2 1 2 0) none in
      (none, λ i. record { holds = (ap holds_mesh are ∙ opened_holds zeros 2 1 2 0 taken) i; mesh = (ap mesh_of are ∙ opened_mesh zeros 2 1 2 0) i })

-- one packet more is sent
module _ (n : ℕ) where
  pub sent_next : sent (n + 1) ≡ after (sent n) (inject (sent n) 0)
  unfolding sent
  sent_next = ap sent (add-one n)

  pub ready_next : sent_ready (n + 1) ≡ (sent_ready n && link_is (sent n) n 1 && added (inject (sent n) 0) 0)
  unfolding sent_ready
  ready_next = ap sent_ready (add-one n)
