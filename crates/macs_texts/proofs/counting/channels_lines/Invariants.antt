use Rattle.std.proofs.Common.{take}
use Rattle.std.specs.Prelude.{flat_map}
use Rattle.macs_rxsc.specs.Value.{channel_counters_of}
use Rattle.macs_texts.specs.Counting.{channel_text}
use Rattle.macs_commands.specs.Papers.{Writes}
use Rattle.macs_texts.proofs.counting.channels_lines.Given as goal

abbrev pub invariant-loop-sci : goal.invariant-loop-sci
invariant-loop-sci g l = Writes l.initial.paper l.paper
    (flat_map (channel_text (channel_counters_of l.endpoint.rx)) (take l.sci-index l.sci-items))
