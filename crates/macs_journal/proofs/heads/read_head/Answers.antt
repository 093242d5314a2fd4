use Rattle.macs_journal.proofs.OnlyReads.{are-read, call-reads, read-done, read-error, read-more, read-start}
use Rattle.macs_journal.proofs.Working.{not-owed}
use Rattle.macs_journal.proofs.heads.read_head.Goals as goal

pub returns-in_err-read-clause-reads : goal.returns-in_err-read-clause-reads
returns-in_err-read-clause-reads g c =
    read-error _ _ _ _ _ (read-start _)
    (call-reads _ _ _ _ _ c.in_err-read.ensures.call c.in_err-read.ensures.effect) tt c.from_residual.ensures.0

pub returns-then-not-is_open-clause-reads : goal.returns-then-not-is_open-clause-reads
returns-then-not-is_open-clause-reads g c =
    let gate = call-reads _ _ _ _ _ c.in_ok-read.ensures.call c.in_ok-read.ensures.effect in
    read-done _ _ _ (are-read _ _ _ gate tt) tt

pub returns-in_err-read-2-clause-reads : goal.returns-in_err-read-2-clause-reads
returns-in_err-read-2-clause-reads g c =
    let gate = call-reads _ _ _ _ _ c.in_ok-read.ensures.call c.in_ok-read.ensures.effect in
    let body = call-reads _ _ _ _ _ c.in_err-read-2.ensures.call c.in_err-read-2.ensures.effect in
    read-error _ _ _ _ _ (are-read _ _ _ gate tt) body tt c.from_residual-in_err-read-2.ensures.0

pub returns-in-Some-clause-reads : goal.returns-in-Some-clause-reads
returns-in-Some-clause-reads g c =
    let gate = call-reads _ _ _ _ _ c.in_ok-read.ensures.call c.in_ok-read.ensures.effect in
    let body = call-reads _ _ _ _ _ c.in_ok-read-2.ensures.call c.in_ok-read-2.ensures.effect in
    read-done _ _ _ (read-more _ _ _ _ (are-read _ _ _ gate tt) body tt) tt

pub returns-in-None-clause-reads : goal.returns-in-None-clause-reads
returns-in-None-clause-reads g c =
    let gate = call-reads _ _ _ _ _ c.in_ok-read.ensures.call c.in_ok-read.ensures.effect in
    let body = call-reads _ _ _ _ _ c.in_ok-read-2.ensures.call c.in_ok-read-2.ensures.effect in
    read-done _ _ _ (read-more _ _ _ _ (are-read _ _ _ gate tt) body tt) tt

pub returns-in_err-read-clause-head : goal.returns-in_err-read-clause-head
returns-in_err-read-clause-head g c = not-owed _ c.from_residual.result c.from_residual.ensures.0

pub returns-in_err-read-2-clause-head : goal.returns-in_err-read-2-clause-head
returns-in_err-read-2-clause-head g c =
    not-owed _ c.from_residual-in_err-read-2.result c.from_residual-in_err-read-2.ensures.0
