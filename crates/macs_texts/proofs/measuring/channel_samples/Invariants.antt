use Rattle.std.proofs.Common.{take}
use Rattle.std.specs.Prelude.{flat_map}
use Rattle.macs_rxsc.specs.Value.{channel_counters_of}
use Rattle.macs_texts.specs.Measuring.{channel_sample, own_label}
use Rattle.macs_commands.specs.Papers.{Writes}
use Rattle.macs_texts.proofs.measuring.channel_samples.Given as goal

abbrev pub invariant-loop-verdict : goal.invariant-loop-verdict
invariant-loop-verdict g l = Writes l.initial.paper l.paper
    (flat_map (channel_sample (own_label l.fn.own) (channel_counters_of l.endpoint.rx) l.fn.sci)
    (take l.verdict-index l.verdict-items))
