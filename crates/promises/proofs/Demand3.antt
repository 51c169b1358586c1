-- Demand 3, proved: each statement of specs/Demand3.antt, and where its proof stands.
use Rattle.promises.specs.Demand3.{Forgetting, Program, ReplayIsItsCalls, SequenceIsCalls, WholeRun, LinksCrossed, CrossingsCounted, GoneInTime, NotBeforeItsTime, Account, Counts, Registers, Log, NoStaleBlock, NoLinkAbove8, Belonging, CopiesApart}
use Rattle.promises.proofs.Forgets as forgets
use Rattle.promises.proofs.Ages as ages
use Rattle.promises.proofs.Accounts as accounts
use Rattle.promises.proofs.Owned as owned
use Rattle.promises.proofs.Registered as registered
use Rattle.promises.proofs.Records as records
use Rattle.promises.proofs.Few as few
use Rattle.promises.proofs.Belongs as belongs
use Rattle.promises.proofs.Apart as apart
use Rattle.promises.proofs.Sequences as sequences
use Rattle.promises.proofs.WholeRuns as whole-runs

pub forgetting : Forgetting
forgetting = forgets.forgetting

pub program : Program
program = forgets.program

pub replay_is_its_calls : ReplayIsItsCalls
replay_is_its_calls = sequences.replay_is_its_calls

pub sequence_is_calls : SequenceIsCalls
sequence_is_calls = sequences.sequence_is_calls

pub whole_run : WholeRun
whole_run = whole-runs.whole_run

pub links_crossed : LinksCrossed
links_crossed = ages.links_crossed

pub crossings_counted : CrossingsCounted
crossings_counted = ages.crossings_counted

pub gone_in_time : GoneInTime
gone_in_time = ages.gone_in_time

pub not_before_its_time : NotBeforeItsTime
not_before_its_time = ages.not_before_its_time

pub account : Account
account = accounts.account

pub counts : Counts
counts = owned.counts_told

pub registers : Registers
registers = registered.registers_told

pub log : Log
log = records.log_told

pub no_stale_block : NoStaleBlock
no_stale_block = records.no_stale_block

pub no_link_above_8 : NoLinkAbove8
no_link_above_8 = few.no_link_above_8

pub belonging : Belonging
belonging = belongs.belonging

pub copies_apart : CopiesApart
copies_apart = apart.copies_apart
