use Rattle.macs_record.proofs.Fingerprints.{first_read, next_none, next_read}
use Rattle.macs_record.proofs.reading.Reader.fingerprints.Goals as goal

pub loop-init : goal.loop-init
loop-init c =
    rw c.new-items.ensures (first_read c.in_ok-count.count _ _ _ c.in_ok-first.first c.in_ok-count.ensures.some
    c.in_ok-first.ensures.some.1 c.in_ok-first.ensures.some.0 c.in_ok-first.ensures.found)

pub returns-in_err-next-clause-found : goal.returns-in_err-next-clause-found
returns-in_err-next-clause-found c = λ items rest are here.
    absurd (next_none _ _ _ _ _ _ c.loop.invariant c.loop-test.true c.in_err-next.ensures.found items rest are here)

pub loop-preserved : goal.loop-preserved
loop-preserved c =
    rw (c.push.ensures.pushed c.if-not-push.false)
    (next_read _ _ _ _ _ c.in_ok-next.next _ c.loop.invariant c.loop-test.true
    (c.push.ensures.room.0 c.if-not-push.false) c.in_ok-next.ensures.some.1 c.in_ok-next.ensures.some.0
    c.in_ok-next.ensures.found)
