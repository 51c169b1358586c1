use mathlib.Core.Path.{◌∙◌, ap}
use mathlib.Core.Bool.{◌&&◌}
use Rattle.known_passes.specs.TwoChips.{Held, next, passes_on, three_pass_on, third}
use Rattle.known_passes.proofs.two_chips.three_pass_on.Goals as goal

pub returns : goal.returns
unfolding three_pass_on third
returns c = let n = c.args.flying in
    let e₁ = c.passes_on.ensures in
    let e₂ = c.passes_on-2.ensures in
    let e₃ = c.passes_on-3.ensures in
    let h₁ = e₁.mesh_after in
    let h₂ = e₂.mesh_after ∙ ap next h₁ in
    record { value = λ i. e₁.value i && (e₂.value ∙ ap (λ (h : Held). passes_on h n) h₁) i && (e₃.value ∙ ap (λ (h : Held). passes_on h n) h₂) i; mesh_after = e₃.mesh_after ∙ ap next h₂ }
