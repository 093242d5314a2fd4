use Rattle.std.proofs.Common.{take}
use Rattle.std.specs.Prelude.{flat_map}
use Rattle.macs_rxsc.specs.Value.{counters_of}
use Rattle.macs_texts.specs.Measuring.{rx_sample, own_label}
use Rattle.macs_commands.specs.Papers.{Writes}
use Rattle.macs_texts.proofs.measuring.rx_metric.Given as goal

abbrev pub invariant-loop-verdict : goal.invariant-loop-verdict
invariant-loop-verdict g l = Writes l.initial.paper l.paper
    (flat_map (rx_sample (own_label l.fn.own) (counters_of l.endpoint.rx)) (take l.verdict-index l.verdict-items))
