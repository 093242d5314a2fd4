use Rattle.std.proofs.Common.{refl}
use Rattle.macs_txsc.specs.Value.{counters_of}
use Rattle.macs_texts.specs.Counting.{tx_faults}
use Rattle.macs_texts.specs.Measuring.{own_label, tx_sample}
use Rattle.macs_texts.proofs.Adding.{and_then, looped, next-item}
use Rattle.macs_texts.proofs.measuring.tx_metric.Goals as goal

pub loop-fault-preserved : goal.loop-fault-preserved
loop-fault-preserved g c =
    next-item (tx_sample (own_label c.args.own) (counters_of c.args.endpoint.now.tx)) tx_faults 6
    c.loop-fault.fault-index _ _ c.sample.new.paper c.loop-fault.paper
    c.sample-in-loop-fault.new.paper refl c.loop-fault-test.true refl c.loop-fault.invariant
    (rw (c.fault_words.ensures, c.tx_fault-count.ensures, c.counters-counters.ensures.tx)
    at c.sample-in-loop-fault.ensures)

pub returns : goal.returns
returns g c =
    and_then c.args.paper.now c.describe.new.paper c.loop-fault.paper _ _ c.describe.ensures
    (looped (tx_sample (own_label c.args.own) (counters_of c.args.endpoint.now.tx)) tx_faults 6 c.loop-fault.fault-index
    c.describe.new.paper c.sample.new.paper c.loop-fault.paper _ refl c.loop-fault-test.false
    (rw (c.protected.ensures, c.counters-counters.ensures.tx) at c.sample.ensures) c.loop-fault.invariant)
