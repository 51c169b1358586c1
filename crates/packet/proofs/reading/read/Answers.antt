use Rattle.std.proofs.Common.{◌≡◌, ℕ, sym, ap, ◌∙◌}
use Rattle.packet.specs.Bytes.{not_taken}
use Rattle.packet.specs.Refused.{number_of}
use Rattle.packet.specs.Fields.{no_fields, read_from, read_of}
use Rattle.packet.proofs.Numbers.{told_some}
use Rattle.packet.proofs.reading.read.Goals as goal

pub returns-in-Ok : goal.returns-in-Ok
unfolding read_of
returns-in-Ok c = simp c.fields_of.ensures (ap read_from c.in-Ok.ensures)

pub returns-in-Err : goal.returns-in-Err
unfolding read_of
returns-in-Err c =
    let n : ℕ = number_of c.in-Err.refused in
    let refused : read_from (not_taken n) ≡ record { refusal = n; fields = no_fields } = simp (told_some c.in-Err.refused) in
    simp (c.from.ensures, c.no_fields.ensures) (sym refused ∙ ap read_from c.in-Err.ensures)
