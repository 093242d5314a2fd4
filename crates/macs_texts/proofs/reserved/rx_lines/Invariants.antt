use Rattle.std.proofs.Common.{take}
use Rattle.std.specs.Prelude.{flat_map}
use Rattle.macs_commands.specs.Papers.{Writes}
use Rattle.macs_endpoint.specs.Reserved.{reserved_of}
use Rattle.macs_texts.specs.ReservedTexts.{channel_text}
use Rattle.macs_texts.proofs.reserved.rx_lines.Given as goal

abbrev pub invariant-loop-sci : goal.invariant-loop-sci
invariant-loop-sci g l = Writes l.initial.paper l.paper
    (flat_map (channel_text (reserved_of l.endpoint)) (take l.sci-index l.sci-items))
