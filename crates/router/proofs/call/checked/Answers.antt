use Rattle.std.proofs.Common.{◌≡◌, ℕ, IfOk, ◌∙◌, sym, rules}
use Rattle.packet.specs.Bytes.{packet_at}
use Rattle.packet.specs.Refused.{number_of, told}
use Rattle.packet.proofs.Numbers.{told_some}
use Rattle.router.proofs.Inputs.{told_checked, before_packet, after_setting}
use Rattle.router.proofs.call.checked.Goals as goal

pub returns-in_err-setting_refusal : goal.returns-in_err-setting_refusal
returns-in_err-setting_refusal c = let a = c.args in
    let n : ℕ = number_of c.in_err-setting_refusal.field-0.0 in
    let said : told c.from_residual.result ≡ n = search rules in
    let none : IfOk c.from_residual.result (λ p. p ≡ packet_at a.bytes.now) = search rules in
    told_checked a.bytes.now a.source a.tables.now a.t a.room c.from_residual.result
    (said ∙ sym (before_packet a.bytes.now a.source a.tables.now a.t a.room n (sym c.in_err-setting_refusal.ensures) (told_some c.in_err-setting_refusal.field-0.0)))
    none

pub returns : goal.returns
returns c = let a = c.args in
    told_checked a.bytes.now a.source a.tables.now a.t a.room c.packet_to_pass.result
    (c.packet_to_pass.ensures.refusal ∙ sym (after_setting a.bytes.now a.source a.tables.now a.t a.room (sym c.in_ok-setting_refusal.ensures)))
    c.packet_to_pass.ensures.packet
