use Rattle.std.proofs.Common.{refl}
use Rattle.macs_rxsc.specs.Value.{counters_of}
use Rattle.macs_texts.specs.Counting.{rx_verdicts}
use Rattle.macs_texts.specs.Measuring.{own_label, rx_sample}
use Rattle.macs_texts.proofs.Adding.{looped, next-item}
use Rattle.macs_texts.proofs.measuring.rx_metric.Goals as goal

pub loop-verdict-preserved : goal.loop-verdict-preserved
loop-verdict-preserved g c =
    next-item (rx_sample (own_label c.args.own) (counters_of c.args.endpoint.now.rx)) rx_verdicts 15
    c.loop-verdict.verdict-index _ _ c.describe.new.paper c.loop-verdict.paper
    c.sample.new.paper refl c.loop-verdict-test.true refl c.loop-verdict.invariant
    (rw (c.verdict_words.ensures, c.verdict-count.ensures, c.counters-counters.ensures.rx) at c.sample.ensures)

pub returns : goal.returns
returns g c =
    looped (rx_sample (own_label c.args.own) (counters_of c.args.endpoint.now.rx)) rx_verdicts 15
    c.loop-verdict.verdict-index c.args.paper.now c.describe.new.paper c.loop-verdict.paper _ refl
    c.loop-verdict-test.false c.describe.ensures c.loop-verdict.invariant
