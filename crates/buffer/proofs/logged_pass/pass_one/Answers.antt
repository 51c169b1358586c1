use Rattle.std.proofs.Common.{arith}
use Rattle.buffer.proofs.LoggedPasses as logged
use Rattle.buffer.proofs.logged_pass.pass_one.Goals as goal

pub pass_at-o-requires : goal.pass_at-o-requires
pass_at-o-requires c = logged.checked_one _ _ _ _ c.requires.0 _ c.requires.1

pub write_record-requires : goal.write_record-requires
write_record-requires c = let fits = logged.record_fits _ _ _ _ c.requires.0 in (fits.1, omega (arith, fits.0))

pub returns : goal.returns
returns c = let o = c.pass_at-o in
    logged.passed_one _ _ _ _ c.requires.0 _ _ _ _ o.result o.ensures.value o.ensures.mesh_step c.write_record.ensures
