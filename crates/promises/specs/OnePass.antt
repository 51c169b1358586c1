-- One pass of a packet, source and setting that have been checked, whatever the tables say: its account closes.
use Rattle.std.specs.Prelude.{ℕ, ◌+◌, ◌≡◌}
use Rattle.packet.specs.declared.Packet.{Packet}
use Rattle.steps.specs.declared.Setting.{Setting}
use Rattle.steps.specs.Deciding.{outcome_of, Source, Checked}
use Rattle.kept.specs.Units.{weight_in, extra, settled, weight_sent}
use Rattle.kept.proofs.OnePass as proved
use Rattle.tables.specs.Tables.{ChipTables}

-- The weight of the packet plus its extra branches is what is delivered, ended in error, dropped, swallowed and sent.
pub account : (p : Packet) (source : ℕ) (tables : ChipTables) (t : Setting) → Checked p source tables t → Source source
    → weight_in p source + extra (outcome_of p source tables t)
    ≡ settled (outcome_of p source tables t) source + weight_sent (outcome_of p source tables t)
account = proved.account
