use Rattle.std.proofs.Common.{take}
use Rattle.std.specs.Prelude.{flat_map}
use Rattle.macs_txsc.specs.Value.{counters_of}
use Rattle.macs_texts.specs.Counting.{tx_line}
use Rattle.macs_commands.specs.Papers.{Writes}
use Rattle.macs_texts.proofs.counting.tx_lines.Given as goal

abbrev pub invariant-loop-fault : goal.invariant-loop-fault
invariant-loop-fault g l =
    Writes l.initial.paper l.paper (flat_map (tx_line (counters_of l.endpoint.tx)) (take l.fault-index l.fault-items))
