use Rattle.std.proofs.Common.{◌∙◌, refl}
use Rattle.flood.proofs.Leads.{leads_down, leads_up}
use Rattle.flood.proofs.around.lead_of.Goals as goal

pub returns-then-mesh-at-ne0 : goal.returns-then-mesh-at-ne0
returns-then-mesh-at-ne0 c = leads_down c.args.mesh.now c.args.chip c.args.link c.requires.1.0 c.requires.1.1 c.if-mesh-at-ne0.true

pub returns : goal.returns
returns c = c.across_link.ensures.by_index c.args.chip refl refl
    ∙ leads_up c.args.mesh.now c.args.chip c.args.link c.requires.1.0 c.requires.1.1 c.if-mesh-at-ne0.false
