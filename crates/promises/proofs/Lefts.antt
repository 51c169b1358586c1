-- What every call on a mesh leaves of its log: records of six numbers, as many as its answer says, and none where it is refused; so the log of a history grows by them.
use mathlib.Core.Path.{◌≡◌, refl, ap, ◌∙◌, sym}
use mathlib.Core.Bool.{Bool, true, false, cond}
use mathlib.Core.List.{List, ◌++◌, append-nil}
use Prim.Native.Nat.{ℕ, ◌-◌, ◌*◌, ◌%◌}
use native.Mathlib.Omega.{arith}
use lib.Dec.{eqb}
use lib.ListN.{length, take, drop, length-append}
use lib.Seq.{take_at}
use borrow.Author.Tests.{eqb-false}
use Rattle.packet.specs.Bytes.{packet_at}
use Rattle.packet.specs.Refusal.{first_of}
use Rattle.mesh.specs.Mesh.{Mesh, many}
use Rattle.buffer.specs.Layout.{mesh_of}
use Rattle.mesh.specs.Lending.{Tables}
use Rattle.mesh.specs.Steps.{set_out, injected, rounded, same}
use Rattle.mesh.specs.Weights.{in_flight}
use Rattle.mesh.specs.Refusals.{place_in, inject_refusals, round_refusals, link_refusals, chip_refusals}
use Rattle.mesh.specs.Calls.{Left, with_link, with_empty, logged_on}
use Rattle.mesh.specs.Asked.{Call, inject, round, set_link, read_registers, change, look, left_by, answer_of}
use Rattle.records.specs.Traces.{Trace, over, refused, then}
use Rattle.trace.specs.Replay.{making, stopped, behind, replaying}
use Rattle.trace.proofs.KeptSizes.{Keeps, size_injected, size_rounded, keeps_unless, keeps_made}
use Rattle.trace.proofs.MadeCalls.{unless_quiet}
use Rattle.promises.specs.History.{Tag, State, turned, tag_now, accepted, after}
use Rattle.promises.specs.Told.{plain}
use Rattle.promises.specs.Sequence.{added_in}
use Rattle.promises.proofs.Forgets.{forgetting}

-- ---- one call

module _ {A : Type 0} (turn : A → A) (tag : A) (m : Mesh A) where
  keeps_left : (c : Call) → Keeps true m (left_by turn tag m c)
  keeps_left (change (inject chip bytes t room)) =
      let n = first_of (inject_refusals true (many m) chip t room bytes) in
      keeps_unless true n (place_in t (many m) n) (λ z. refl) m (injected t turn m chip (record { packet = packet_at bytes; tag = tag })) (size_injected t turn m chip tag bytes)
  keeps_left (change (round t room)) =
      let n = first_of (round_refusals true (many m) (in_flight m) t room) in
      keeps_unless true n (place_in t (many m) n) (λ z. refl) m (rounded t turn m) (size_rounded t turn m)
  keeps_left (change (set_link chip link up)) =
      keeps_unless true (first_of (link_refusals true (many m) chip link)) 0 (λ z. refl) m (set_out (with_link m chip link up)) (record { width = refl; height = refl; sixes = refl })
  keeps_left (change (read_registers chip)) =
      keeps_unless true (first_of (chip_refusals true (many m) chip)) 0 (λ z. refl) m (set_out (with_empty m chip)) (record { width = refl; height = refl; sixes = refl })
  keeps_left (look l) = record { width = refl; height = refl; sixes = refl; there = λ z. refl; none = λ some. refl }

  -- the answer says how many numbers
  added_left : (c : Call) → added_in (answer_of turn tag m c) * 6 ≡ length (left_by turn tag m c).log
  added_left (change (inject chip bytes t room)) = omega (arith, (keeps_left (change (inject chip bytes t room))).sixes)
  added_left (change (round t room)) = omega (arith, (keeps_left (change (round t room))).sixes)
  added_left (change (set_link chip link up)) = ap length (sym (unless_quiet (first_of (link_refusals true (many m) chip link)) 0 m (set_out (with_link m chip link up)) refl))
  added_left (change (read_registers chip)) = ap length (sym (unless_quiet (first_of (chip_refusals true (many m) chip)) 0 m (set_out (with_empty m chip)) refl))
  added_left (look l) = refl

-- so many numbers at the front of the log
pub records_added : (before lent written : List ℕ) (c : Call) → written ≡ logged_on (left_by same tt (mesh_of before) c).log lent
    → take (added_in (answer_of same tt (mesh_of before) c) * 6) written ≡ (left_by same tt (mesh_of before) c).log
records_added before lent written c e =
    let r = (left_by same tt (mesh_of before) c).log in
    ap (take (added_in (answer_of same tt (mesh_of before) c) * 6)) e ∙ take_at r (drop (length r) lent) _ (sym (added_left same tt (mesh_of before) c))

-- ---- a history's log

pub log_after : (s : State) (c : Call) → (after s c).log ≡ s.log ++ (left_by same tt (plain s.mesh) c).log
unfolding after
log_after s c = go (eqb (left_by turned (tag_now s c) s.mesh c).refusal 0) refl
  where
    forgotten : (left_by turned (tag_now s c) s.mesh c).log ≡ (left_by same tt (plain s.mesh) c).log
    forgotten = ap (λ (x : Left (Unit {0})). x.log) (forgetting Tag turned (tag_now s c) s.mesh c).0

    go : (b : Bool) → eqb (left_by turned (tag_now s c) s.mesh c).refusal 0 ≡ b
        → (cond b (accepted s (left_by turned (tag_now s c) s.mesh c) c) s).log ≡ s.log ++ (left_by same tt (plain s.mesh) c).log
    go true e = ap (λ (l : List ℕ). s.log ++ l) forgotten
    go false e =
        sym (append-nil s.log) ∙ ap (λ (l : List ℕ). s.log ++ l) (sym ((keeps_left turned (tag_now s c) s.mesh c).none (eqb-false _ _ e)) ∙ forgotten)

-- ---- a replay

pub replay_sixes : (t : Tables) (tr : Trace) (m : Mesh (Unit {0})) (room : ℕ) → length (replaying true t m room tr).log % 6 ≡ 0
unfolding replaying
replay_sixes t over m room = refl
replay_sixes t (refused n) m room = refl
replay_sixes t (then c n rest) m room = go (eqb x.refusal 0) (λ u v. replay_sixes t rest u v)
  where
    x : Left (Unit {0})
    x = making true t same tt m room c

    go : (b : Bool) → ((u : Mesh (Unit {0})) (v : ℕ) → length (replaying true t u v rest).log % 6 ≡ 0)
        → length
        (cond b
        (behind n (making true t same tt m room c).log
        (replaying true t (making true t same tt m room c).mesh (room - length (making true t same tt m room c).log) rest))
        (stopped (making true t same tt m room c).refusal (making true t same tt m room c).place m)
        ).log
        % 6
        ≡ 0
    go true more = simp length-append (omega (arith, (keeps_made true t same tt m room c).sixes, more x.mesh (room - length x.log)))
    go false more = refl
