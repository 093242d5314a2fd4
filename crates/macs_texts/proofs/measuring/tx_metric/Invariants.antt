use Rattle.std.proofs.Common.{take}
use Rattle.std.specs.Prelude.{flat_map}
use Rattle.macs_txsc.specs.Value.{counters_of}
use Rattle.macs_texts.specs.Measuring.{tx_sample, own_label}
use Rattle.macs_commands.specs.Papers.{Writes}
use Rattle.macs_texts.proofs.measuring.tx_metric.Given as goal

abbrev pub invariant-loop-fault : goal.invariant-loop-fault
invariant-loop-fault g l = Writes l.initial.paper l.paper
    (flat_map (tx_sample (own_label l.fn.own) (counters_of l.endpoint.tx)) (take l.fault-index l.fault-items))
