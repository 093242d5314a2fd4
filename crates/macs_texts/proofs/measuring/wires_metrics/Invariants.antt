use Rattle.std.proofs.Common.{take}
use Rattle.std.specs.Prelude.{flat_map}
use Rattle.macs_texts.specs.Measuring.{wire_metric, own_label}
use Rattle.macs_commands.specs.Papers.{Writes}
use Rattle.macs_texts.proofs.measuring.wires_metrics.Given as goal

abbrev pub invariant-loop-number : goal.invariant-loop-number
invariant-loop-number l = Writes l.initial.paper l.paper
    (flat_map (wire_metric (own_label l.own) l.controlled l.common) (take l.number-index l.number-items))
