use Rattle.std.proofs.Common.{◌/◌, arith, length-set, le-ltb, lt-ltb}
use Rattle.buffer.proofs.Logs.{logged_none, logged_one}
use Rattle.buffer.proofs.logging.write_record.Goals as goal

pub returns-then-o-lt64 : goal.returns-then-o-lt64
returns-then-o-lt64 c = simp (lt-ltb _ _ c.if-o-lt64.true) (logged_none _ _)

pub bounds-log-at-2 : goal.bounds-log-at-2
bounds-log-at-2 c = simp length-set (omega (arith, c.requires.0))

pub bounds-log-at-3 : goal.bounds-log-at-3
bounds-log-at-3 c = simp length-set (omega (arith, c.requires.0))

pub bounds-log-at-4 : goal.bounds-log-at-4
bounds-log-at-4 c = simp length-set (omega (arith, c.requires.0))

pub bounds-log-at-5 : goal.bounds-log-at-5
bounds-log-at-5 c = simp length-set (omega (arith, c.requires.0))

pub bounds-log-at-6 : goal.bounds-log-at-6
bounds-log-at-6 c = simp length-set (omega (arith, c.requires.0))

pub returns : goal.returns
returns c = let a = c.args in
    simp (le-ltb _ _ c.if-o-lt64.false)
    (logged_one a.log.now a.n a.chip (a.o.wanted / 64) a.o.errors a.o.packet.control a.o.packet.word a.o.packet.payload c.requires.0)
