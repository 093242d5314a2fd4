use Rattle.std.proofs.Common.{drop}
use Rattle.macs_endpoint.specs.Reserved.{reserved_of}
use Rattle.macs_texts.specs.Measuring.{own_label, rx_reserved_sample}
use Rattle.macs_texts.proofs.Adding.{WritesRest}
use Rattle.macs_texts.proofs.reserved_metrics.rx_samples.Given as goal

abbrev pub invariant-loop-an : goal.invariant-loop-an
invariant-loop-an g l = WritesRest (rx_reserved_sample (own_label l.own) (reserved_of l.endpoint) l.sci)
    l.an-items (drop l.an-index l.an-items) l.initial.paper l.paper
