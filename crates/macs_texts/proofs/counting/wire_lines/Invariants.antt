use Rattle.std.proofs.Common.{take}
use Rattle.std.specs.Prelude.{flat_map}
use Rattle.macs_texts.specs.Counting.{wire_line}
use Rattle.macs_commands.specs.Papers.{Writes}
use Rattle.macs_texts.proofs.counting.wire_lines.Given as goal

abbrev pub invariant-loop-number : goal.invariant-loop-number
invariant-loop-number l =
    Writes l.initial.paper l.paper (flat_map (wire_line l.side l.wire) (take l.number-index l.number-items))
