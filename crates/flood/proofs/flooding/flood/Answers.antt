use Rattle.std.proofs.Common.{◌∙◌}
use Rattle.packet.specs.Refused.{number_of}
use Rattle.packet.proofs.Told.{number_some, handed_on}
use Rattle.flood.proofs.FloodCall.{refused}
use Rattle.flood.proofs.flooding.flood.Goals as goal

pub returns-in_err-all : goal.returns-in_err-all
returns-in_err-all c =
    let e = c.in_err-all.field-0.0 in
    let h = refused c.args.mesh.now c.args.codes.now (number_of e) c.in_err-all.ensures.refusal (number_some e) in
    record { value = handed_on c.from_residual.result e c.from_residual.ensures.1 ∙ h.0; codes_after = h.1 }
