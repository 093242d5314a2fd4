use Rattle.std.proofs.Common.{take}
use Rattle.std.specs.Prelude.{flat_map}
use Rattle.macs_endpoint.specs.State.{no_logs}
use Rattle.macs_endpoint.specs.Value.{state_of}
use Rattle.macs_texts.specs.Showing.{channel_text}
use Rattle.macs_commands.specs.Papers.{Writes}
use Rattle.macs_texts.proofs.showing.channel_texts.Given as goal

abbrev pub invariant-loop-sci : goal.invariant-loop-sci
invariant-loop-sci g l = Writes l.initial.paper l.paper
    (flat_map (channel_text (state_of l.endpoint no_logs)) (take l.sci-index l.sci-items))
