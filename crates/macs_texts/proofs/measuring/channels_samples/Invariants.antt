use Rattle.std.proofs.Common.{take}
use Rattle.std.specs.Prelude.{flat_map}
use Rattle.macs_rxsc.specs.Value.{channel_counters_of}
use Rattle.macs_texts.specs.Measuring.{channel_samples, own_label}
use Rattle.macs_commands.specs.Papers.{Writes}
use Rattle.macs_texts.proofs.measuring.channels_samples.Given as goal

abbrev pub invariant-loop-sci : goal.invariant-loop-sci
invariant-loop-sci g l = Writes l.initial.paper l.paper
    (flat_map (channel_samples (own_label l.own) (channel_counters_of l.endpoint.rx)) (take l.sci-index l.sci-items))
