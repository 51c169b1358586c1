-- `crosses_four` meets its contract: the mesh in the buffer is followed from call to call, and each answer is that of the definition on the mesh at that call.
use mathlib.Core.Path.{◌∙◌, ap}
use mathlib.Core.Bool.{◌&&◌}
use Prim.Native.Nat.{ℕ}
use lib.Dec.{eqb}
use Rattle.packet.proofs.Numbers.{ok_told}
use Rattle.known_passes.specs.TwoChips.{Held, inject, after, added, flight, next, three_pass_on, third, ends, counted, crosses_four}
use Rattle.known_passes.proofs.Following.{open_held}
use Rattle.known_passes.proofs.two_chips.crosses_four.Goals as goal

pub returns : goal.returns
unfolding crosses_four
returns c = let a = c.args in
    let chip = a.chip in
    let opened = open_held c.open.new.mesh _ c.open.ensures.value c.open.ensures.mesh_after in
    let h₀ = opened.1 in
    let open_there = c.is_ok-opened.ensures.value ∙ ok_told c.open.result ∙ ap (λ (n : ℕ). eqb n 0) opened.0 in
    let h₁ = c.three_pass_on-waited.ensures.mesh_after ∙ ap third h₀ in
    let h₂ = c.injected.ensures.mesh_after ∙ ap (λ (h : Held). after h (inject h chip)) h₁ in
    let h₃ = c.three_pass_on.ensures.mesh_after ∙ ap third h₂ in
    let h₄ = c.ends.ensures.mesh_after ∙ ap next h₃ in
    let waited = c.three_pass_on-waited.ensures.value ∙ ap (λ (h : Held). three_pass_on h 0) h₀ in
    let taken = c.injected.ensures.value ∙ ap (λ (h : Held). added (inject h chip) 0) h₁ in
    let flies = c.in_flight.ensures ∙ ap flight h₂ in
    let crossing = c.three_pass_on.ensures.value ∙ ap (λ (h : Held). three_pass_on h 1) h₂ in
    let ended = c.ends.ensures.value ∙ ap (λ (h : Held). ends h chip) h₃ in
    let told = c.counted.ensures ∙ ap (λ (h : Held). counted h chip a.other) h₄ in
    λ i. open_there i && waited i && (taken i && eqb (flies i) 1 && crossing i) && ended i && told i
