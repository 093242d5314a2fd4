use Rattle.std.proofs.Common.{take}
use Rattle.std.specs.Prelude.{flat_map}
use Rattle.macs_commands.specs.Papers.{Writes}
use Rattle.macs_endpoint.specs.Reserved.{reserved_of}
use Rattle.macs_texts.specs.ReservedTexts.{rx_line}
use Rattle.macs_texts.proofs.reserved.channel_lines.Given as goal

abbrev pub invariant-loop-an : goal.invariant-loop-an
invariant-loop-an g l =
    Writes l.initial.paper l.paper (flat_map (rx_line (reserved_of l.endpoint) l.sci) (take l.an-index l.an-items))
