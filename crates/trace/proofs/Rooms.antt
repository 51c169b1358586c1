-- The room for groups: what a call leaves in it, kind by kind; what a record leaves; and what is left for the records from there on.
use mathlib.Core.Path.{◌≡◌, refl, sym, ap, ◌∙◌}
use mathlib.Core.Bool.{Bool, true, false, cond}
use mathlib.Core.List.{List, []}
use Prim.Native.Nat.{ℕ, ◌-◌, ◌<◌}
use native.Mathlib.Omega.{arith}
use lib.Dec.{eqb}
use lib.ListN.{length, drop}
use borrow.Author.Tests.{eq-eqb, ne_eqb, eqb-true, eqb-false}
use Rattle.packet.specs.Refusal.{first_of}
use Rattle.buffer.specs.Layout.{mesh_of}
use Rattle.buffer.specs.Holding.{holds_mesh}
use Rattle.mesh.specs.Lending.{Tables}
use Rattle.mesh.specs.Steps.{same, rounded}
use Rattle.mesh.specs.Weights.{in_flight}
use Rattle.mesh.specs.Room.{room_after_round}
use Rattle.mesh.specs.Refusals.{place_in, round_refusals}
use Rattle.mesh.specs.Mesh.{many}
use Rattle.mesh.specs.Calls.{Left}
use Rattle.buffer.specs.Leaving.{inject_left, round_left, round_room, link_left, registers_left}
use Rattle.records.specs.declared.Call.{Call}
use Rattle.records.specs.declared.Record.{Record}
use Rattle.records.specs.Records.{packet_of, record_read}
use Rattle.records.specs.Traces.{trace_of}
use Rattle.records.proofs.ByKind.{by_1, by_2, by_3, by_else}
use Rattle.records.proofs.Traces.{read_within, trace_over, trace_step, trace_stop}
use Rattle.trace.specs.Replay.{made_left, Replay, room_made, room_replaying, replay_room, one_left, made_room, one_room}
use Rattle.trace.specs.Stops.{RoomAsItCame}
use Rattle.trace.proofs.MadeCalls.{unless_number}
use Rattle.trace.proofs.SoFar.{accepted_record, onward_step}

-- ---- a call

either_way : (b : Bool) (x y : List ℕ) → x ≡ y → y ≡ cond b x y
either_way true x y e = sym e
either_way false x y e = refl

module _ (t : Tables) (l : List ℕ) (log : ℕ) (c : Call) (room : List ℕ) where
  stays : room_made t (mesh_of l) c room ≡ room → room ≡ made_room l t log c room
  stays e = either_way (eqb (made_left l t log c).refusal 0) (room_made t (mesh_of l) c room) room e

  pub room_injection : c.kind ≡ 1 → room ≡ made_room l t log c room
  room_injection k = stays (by_1 room _ room room c.kind k)

  pub room_change : c.kind ≡ 3 → room ≡ made_room l t log c room
  room_change k = stays (by_3 room _ room room c.kind k)

  pub room_read : (c.kind ≡ 1 → ⊥) → (c.kind ≡ 2 → ⊥) → (c.kind ≡ 3 → ⊥) → room ≡ made_room l t log c room
  room_read x y z = stays (by_else room _ room room c.kind x y z)

  pub room_round : c.kind ≡ 2 → (room₁ : List ℕ) → room₁ ≡ round_room l t log room → room₁ ≡ made_room l t log c room
  unfolding mesh_of
  room_round k room₁ e =
      let n = first_of (round_refusals (holds_mesh l) (many (mesh_of l)) (in_flight (mesh_of l)) t log) in
      let number : (made_left l t log c).refusal ≡ n =
      ap (λ (x : Left (Unit {0})). x.refusal) (by_2 (inject_left l t log c.chip (packet_of c)) (round_left l t log) (link_left l c.chip c.link (eqb c.up 1)) (registers_left l c.chip) c.kind k)
      ∙ unless_number n (place_in t (many (mesh_of l)) n) (mesh_of l) (rounded t same (mesh_of l)) in
      let made : room_made t (mesh_of l) c room ≡ room_after_round t (mesh_of l) room = by_2 room _ room room c.kind k in
      e ∙ (λ i. cond (eqb (sym number i) 0) (sym made i) room)

-- ---- a record

module _ (t : Tables) (s l : List ℕ) (log : ℕ) (room : List ℕ) where
  abbrev choice : Bool → Left (Unit {0})
  choice b = cond b (made_left l t log (record_read s).call) (record { refusal = (record_read s).refusal; place = 0; mesh = mesh_of l; log = [] })

  pub room_refused : ((one_left t s l log).refusal ≡ 0 → ⊥) → room ≡ one_room t s l log room
  room_refused some = ap (λ (b : Bool). cond b (room_made t (mesh_of l) (record_read s).call room) room) (sym (ne_eqb (one_left t s l log).refusal 0 some))

  pub room_made_lem : (r : Record) → r ≡ record_read s → r.refusal ≡ 0 → (room₁ : List ℕ) → room₁ ≡ made_room l t log r.call room → room₁ ≡ one_room t s l log room
  room_made_lem r read none room₁ h =
      let e : made_left l t log (record_read s).call ≡ one_left t s l log = ap choice (sym (eq-eqb (record_read s).refusal 0 (sym (ap (λ (x : Record). x.refusal) read) ∙ none))) in
      h ∙ ap (λ (x : Record). made_room l t log x.call room) read
      ∙ ap (λ (x : Left (Unit {0})). cond (eqb x.refusal 0) (room_made t (mesh_of l) (record_read s).call room) room) e

  -- ---- the records from there on

  module _ (more : 0 < length s) where
    pub room_step : (one_left t s l log).refusal ≡ 0
        → replay_room l t log s room
        ≡ room_replaying (holds_mesh l) t (one_left t s l log).mesh (log - length (one_left t s l log).log) (trace_of (drop (record_read s).length s)) (one_room t s l log room)
    unfolding room_replaying
    room_step e =
        let h = accepted_record t s l log e in
        let rest = trace_of (drop (record_read s).length s) in
        let made = room_made t (mesh_of l) (record_read s).call room in
        let after : Left (Unit {0}) → List ℕ → List ℕ = λ y r. room_replaying (holds_mesh l) t y.mesh (log - length y.log) rest r in
        let x = made_left l t log (record_read s).call in
        let none : x.refusal ≡ 0 = ap (λ (y : Left (Unit {0})). y.refusal) (sym h.1) ∙ e in
        ap (λ tr. room_replaying (holds_mesh l) t (mesh_of l) log tr room) (trace_step s more h.0)
        ∙ ap (λ (b : Bool). cond b (after x made) room) (eq-eqb x.refusal 0 none)
        ∙ (λ i. after (sym h.1 i) (cond (sym (eq-eqb (one_left t s l log).refusal 0 e) i) made room))

    pub room_stop : ((one_left t s l log).refusal ≡ 0 → ⊥) → replay_room l t log s room ≡ room
    unfolding room_replaying
    room_stop some = go (eqb (record_read s).refusal 0) refl some
      where
        go : (b : Bool) → eqb (record_read s).refusal 0 ≡ b → ((choice b).refusal ≡ 0 → ⊥) → replay_room l t log s room ≡ room
        go false e none = ap (λ tr. room_replaying (holds_mesh l) t (mesh_of l) log tr room) (trace_stop s more none)
        go true e none =
            let x = made_left l t log (record_read s).call in
            ap (λ tr. room_replaying (holds_mesh l) t (mesh_of l) log tr room) (trace_step s more (eqb-true _ _ e))
            ∙ ap (λ (b : Bool). cond b (room_replaying (holds_mesh l) t x.mesh (log - length x.log) (trace_of (drop (record_read s).length s)) (room_made t (mesh_of l) (record_read s).call room)) room) (ne_eqb x.refusal 0 none)

-- a replay that is behind a record is behind its first byte
pub room_as_it_came : RoomAsItCame
unfolding room_replaying
room_as_it_came t s l log room z = none (eqb (length s) 0) refl
  where
    some : 0 < length s → (b : Bool) → eqb (one_left t s l log).refusal 0 ≡ b → replay_room l t log s room ≡ room
    some more true e =
        let fine = eqb-true (one_left t s l log).refusal 0 e in
        absurd (omega (arith, ap (λ (r : Replay). r.at) (onward_step t s l log more fine), z, (read_within s (accepted_record t s l log fine).0).0))
    some more false e = room_stop t s l log room more (eqb-false (one_left t s l log).refusal 0 e)

    none : (b : Bool) → eqb (length s) 0 ≡ b → replay_room l t log s room ≡ room
    none true e = ap (λ tr. room_replaying (holds_mesh l) t (mesh_of l) log tr room) (trace_over s (eqb-true (length s) 0 e))
    none false e = some (omega (arith, eqb-false (length s) 0 e)) (eqb (one_left t s l log).refusal 0) refl
