use Rattle.std.proofs.Common.{arith}
use Rattle.macs_journal.proofs.OnlyReads.{are-read, call-reads, read-done, read-error, read-start}
use Rattle.macs_journal.proofs.Working.{not-owed}
use Rattle.macs_journal.proofs.slots.read_record.Goals as goal

pub returns-in_err-read-clause-reads : goal.returns-in_err-read-clause-reads
returns-in_err-read-clause-reads g c =
    read-error _ _ _ _ _ (read-start _)
    (call-reads _ _ _ _ _ c.in_err-read.ensures.call c.in_err-read.ensures.effect) tt c.from_residual.ensures.0

pub returns-clause-reads : goal.returns-clause-reads
returns-clause-reads g c =
    let body = call-reads _ _ _ _ _ c.in_ok-read.ensures.call c.in_ok-read.ensures.effect in
    read-done _ _ _ (are-read _ _ _ body tt) tt

pub read-requires : goal.read-requires
read-requires g c = omega (arith, c.slot_body.ensures.within, c.requires.size)

pub returns-in_err-read-clause-value : goal.returns-in_err-read-clause-value
returns-in_err-read-clause-value g c = not-owed _ c.from_residual.result c.from_residual.ensures.0
