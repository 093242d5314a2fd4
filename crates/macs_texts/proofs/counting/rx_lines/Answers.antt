use Rattle.std.proofs.Common.{refl}
use Rattle.macs_rxsc.specs.Value.{counters_of}
use Rattle.macs_texts.specs.Counting.{rx_line, rx_verdicts}
use Rattle.macs_texts.proofs.Adding.{next-item}
use Rattle.macs_texts.proofs.counting.rx_lines.Goals as goal

pub loop-verdict-preserved : goal.loop-verdict-preserved
loop-verdict-preserved g c =
    next-item (rx_line (counters_of c.args.endpoint.now.rx)) rx_verdicts 15 c.loop-verdict.verdict-index _ _
    c.args.paper.now c.loop-verdict.paper
    c.count_line.new.paper refl c.loop-verdict-test.true refl c.loop-verdict.invariant
    (rw (c.verdict_words.ensures, c.verdict.ensures, c.counters-counters.ensures.rx) at c.count_line.ensures)
