use mathlib.Core.Path.{◌≡◌, sym, ap, ◌∙◌}
use mathlib.Core.Bool.{◌&&◌}
use Prim.Native.Nat.{ℕ}
use native.Mathlib.Omega.{arith}
use lib.Dec.{eqb}
use Rattle.packet.proofs.Numbers.{ok_told}
use Rattle.known_passes.specs.TwoChips.{Held, added, after, inject, link_is, sent, sent_ready, link_fills}
use Rattle.known_passes.proofs.Following.{open_held, sent_next, ready_next}
use Rattle.known_passes.proofs.two_chips.link_fills.Goals as goal

pub loop-held-init : goal.loop-held-init
unfolding sent sent_ready
loop-held-init c = let opened = open_held c.open.new.mesh _ c.open.ensures.value c.open.ensures.mesh_after in
    record { right = c.is_ok-right.ensures.value ∙ ok_told c.open.result ∙ ap (λ (n : ℕ). eqb n 0) opened.0; mesh = opened.1 }

pub loop-held-preserved : goal.loop-held-preserved
loop-held-preserved c = let n = c.loop-held.held in
    let was = c.loop-held.invariant in
    let ready = c.link_is.ensures ∙ ap (λ (h : Held). link_is h n 1) was.mesh in
    let taken = c.injected.ensures.value ∙ ap (λ (h : Held). added (inject h 0) 0) was.mesh in record {
      right = (λ i. was.right i && ready i && taken i) ∙ sym (ready_next n);
      mesh = c.injected.ensures.mesh_after ∙ ap (λ (h : Held). after h (inject h 0)) was.mesh ∙ sym (sent_next n);
    }

pub returns : goal.returns
unfolding link_fills
returns c = let n = c.loop-held.held in
    let seven : n ≡ 7 = omega arith in
    let was = c.loop-held.invariant in
    let full = c.link_is-2.ensures ∙ ap (λ (h : Held). link_is h 7 0) (was.mesh ∙ ap sent seven) in
    λ i. (was.right ∙ ap sent_ready seven) i && full i
