use Rattle.std.proofs.Common.{refl}
use Rattle.macs_texts.specs.Counting.{wire_numbers}
use Rattle.macs_texts.specs.Measuring.{own_label, wire_metric}
use Rattle.macs_texts.proofs.Adding.{next-item}
use Rattle.macs_texts.proofs.measuring.wires_metrics.Goals as goal

pub loop-number-preserved : goal.loop-number-preserved
loop-number-preserved c =
    next-item (wire_metric (own_label c.args.own) c.args.controlled.now c.args.common.now) wire_numbers 8
    c.loop-number.number-index _ _ c.args.paper.now c.loop-number.paper
    c.wire_metric.new.paper refl c.loop-number-test.true refl c.loop-number.invariant
    c.wire_metric.ensures
