-- An injection that is accepted: what is due, and what its pass leaves.
use Rattle.std.proofs.Common.{◌≡◌, Result, Ok, ℕ, ◌*◌, ◌<◌, ◌≤◌, true, List, [], ◌∷◌, length, get_or, sym, refl, ap, ◌∙◌, subst, inr, arith, lit<}
use Rattle.packet.specs.declared.Packet.{Packet}
use Rattle.packet.specs.declared.refused.Refused.{Refused}
use Rattle.packet.specs.Bytes.{packet_at, taken_of, as_taken}
use Rattle.packet.proofs.Numbers
use Rattle.packet.specs.Refusal.{first_of}
use Rattle.buffer.specs.Layout.{mesh_of, words_for, chips_of}
use Rattle.mesh.specs.Lending.{Tables}
use Rattle.mesh.specs.Steps.{Going, injected, pass_at, same}
use Rattle.buffer.specs.Holding.{holds_mesh, StatesFine}
use Rattle.lists.specs.Lists.{All}
use Rattle.mesh.specs.Sound.{SoundMesh}
use Rattle.buffer.specs.PassesInTurn.{arrival, Due, Passed}
use Rattle.mesh.specs.Refusals.{Lent, inject_refusals, place_in}
use Rattle.mesh.specs.declared.Added.{Added}
use Rattle.buffer.specs.Leaving.{Moves, inject_left}
use Rattle.buffer.proofs.HoldsMesh.{holds_head, words_enough}
use Rattle.mesh.proofs.SoundSteps.{sound_injected}
use Rattle.buffer.proofs.SoundWords.{holds_sound, holds_states, still_holds}
use Rattle.buffer.proofs.Headers.{head_same, SameHeader}
use Rattle.buffer.proofs.Leaving.{refused_leaves, accepted_leaves, accepted_log}
use Rattle.mesh.proofs.Accepts.{InjectGoes, inject_goes}
use Rattle.links.specs.Offsets.{width_at, height_at, state_at}

pub inject_refused : (t : Tables) (l log : List ℕ) (chip : ℕ) (bytes : List ℕ) (r : ℕ) → r ≡ first_of (inject_refusals (holds_mesh l) (chips_of l) chip t (length log) bytes) → (r ≡ 0 → ⊥)
    → (p : ℕ) → p ≡ place_in t (chips_of l) r → Moves l log (inject_left l t (length log) chip bytes) (record { refusal = r; added = 0; place = p }) l log
unfolding mesh_of
inject_refused t l log chip bytes r e some p told =
    let n = first_of (inject_refusals (holds_mesh l) (chips_of l) chip t (length log) bytes) in
    subst (λ (a : Added). Moves l log (inject_left l t (length log) chip bytes) a l log) (λ i. record { refusal = sym e i; added = 0; place = sym (told ∙ ap (place_in t (chips_of l)) e) i })
    (refused_leaves n (place_in t (chips_of l) n) (mesh_of l) (injected t same (mesh_of l) chip (record { packet = packet_at bytes; tag = tt })) (λ z. some (e ∙ z)) l log)

module _ (t : Tables) (l log : List ℕ) (chip : ℕ) (bytes : List ℕ) (none : first_of (inject_refusals (holds_mesh l) (chips_of l) chip t (length log) bytes) ≡ 0) where
  go : InjectGoes (holds_mesh l) (chips_of l) chip t (length log) bytes
  go = inject_goes (holds_mesh l) (chips_of l) chip t (length log) bytes none

  pub inject_lent : Lent t (chips_of l) × (chip < chips_of l)
  inject_lent = (go.lent, go.there)

  -- the packet is the one that was taken from the bytes
  pub taken_packet : (r : Result Packet Refused) → as_taken r ≡ taken_of bytes → r ≡ Ok (packet_at bytes)
  taken_packet r e =
      let taken : taken_of bytes ≡ record { refusal = 0; packet = packet_at bytes } = simp go.whole in
      Numbers.taken_packet r (packet_at bytes) (e ∙ taken)

  pub inject_due : Due (arrival chip 7 (packet_at bytes) ∷ []) l log 0
  unfolding All
  inject_due =
      record {
        head = holds_head l go.holds;
        long = words_enough l go.holds;
        room = omega (arith, go.room);
        each = (record { there = go.there; from = inr refl; passable = go.passable }, tt);
      }

  module _ (l₁ log₁ : List ℕ) (n : ℕ) (p : Passed (pass_at t same) (arrival chip 7 (packet_at bytes) ∷ []) l log 0 l₁ log₁ n) where
    abbrev after : Going (Unit {0})
    after = injected t same (mesh_of l) chip (record { packet = packet_at bytes; tag = tt })

    number : SameHeader l l₁
    number = head_same l l₁ p.head

    states_left : StatesFine l₁
    states_left c j hc hj =
        let there : c < chips_of l = subst (λ (k : ℕ). c < k) (λ i. number height_at (lit< tt) i * number width_at (lit< tt) i) hc in
        subst (λ (k : ℕ). k ≤ 1) (sym (ap (λ (w : List ℕ). get_or w state_at 0) (p.still c j hj))) (holds_states l go.holds c j there hj)

    holds_left : holds_mesh l₁ ≡ true
    unfolding mesh_of
    holds_left =
        still_holds l l₁ go.holds p.long (λ i. words_for (number width_at (lit< tt) i) (number height_at (lit< tt) i))
        (subst SoundMesh (sym (ap (λ (g : Going (Unit {0})). g.mesh) p.going)) (sound_injected t same (mesh_of l) chip (record { packet = packet_at bytes; tag = tt }) (holds_sound l go.holds) go.there go.passable go.lent.codes))
        states_left

    pub inject_leaves : Moves l log (inject_left l t (length log) chip bytes) (record { refusal = 0; added = n; place = 0 }) l₁ log₁
    unfolding mesh_of
    inject_leaves =
        let r = first_of (inject_refusals (holds_mesh l) (chips_of l) chip t (length log) bytes) in
        let told = accepted_log r (place_in t (chips_of l) r) (mesh_of l) after none log log₁ n (ap (λ (x : Going (Unit {0})). x.log) p.going) p.behind p.room (omega (arith, p.few, go.room)) in
        record {
          answered = told.0;
          buffer = accepted_leaves r (place_in t (chips_of l) r) (mesh_of l) after none l l₁ (ap (λ (x : Going (Unit {0})). x.mesh) p.going) holds_left p.long p.past;
          logged = told.1;
        }
