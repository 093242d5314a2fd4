use Rattle.std.proofs.Common.{take}
use Rattle.std.specs.Prelude.{flat_map}
use Rattle.macs_commands.specs.Papers.{Writes}
use Rattle.macs_endpoint.specs.Reserved.{reserved_of}
use Rattle.macs_texts.specs.Measuring.{own_label, rx_reserved_samples}
use Rattle.macs_texts.proofs.reserved_metrics.channels_samples.Given as goal

abbrev pub invariant-loop-sci : goal.invariant-loop-sci
invariant-loop-sci g l = Writes l.initial.paper l.paper
    (flat_map (rx_reserved_samples (own_label l.own) (reserved_of l.endpoint)) (take l.sci-index l.sci-items))
