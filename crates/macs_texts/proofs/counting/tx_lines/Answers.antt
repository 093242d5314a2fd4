use Rattle.std.proofs.Common.{refl}
use Rattle.macs_txsc.specs.Value.{counters_of}
use Rattle.macs_texts.specs.Counting.{tx_faults, tx_line}
use Rattle.macs_texts.proofs.Adding.{looped, next-item}
use Rattle.macs_texts.proofs.counting.tx_lines.Goals as goal

pub loop-fault-preserved : goal.loop-fault-preserved
loop-fault-preserved g c =
    next-item (tx_line (counters_of c.args.endpoint.now.tx)) tx_faults 6 c.loop-fault.fault-index _ _
    c.count_line.new.paper c.loop-fault.paper
    c.count_line-in-loop-fault.new.paper refl c.loop-fault-test.true refl c.loop-fault.invariant
    (rw (c.fault_words.ensures, c.tx_fault.ensures, c.counters-counters.ensures.tx)
    at c.count_line-in-loop-fault.ensures)

pub returns : goal.returns
returns g c =
    looped (tx_line (counters_of c.args.endpoint.now.tx)) tx_faults 6 c.loop-fault.fault-index c.args.paper.now
    c.count_line.new.paper c.loop-fault.paper _ refl c.loop-fault-test.false
    (rw (c.protected.ensures, c.counters-counters.ensures.tx) at c.count_line.ensures) c.loop-fault.invariant
