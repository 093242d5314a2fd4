use Rattle.std.proofs.Common.{take}
use Rattle.std.specs.Prelude.{flat_map}
use Rattle.macs_txsc.specs.Value.{counters_of}
use Rattle.macs_texts.specs.TrafficTexts.{tx_text}
use Rattle.macs_commands.specs.Papers.{Writes}
use Rattle.macs_texts.proofs.traffic.tx_texts.Given as goal

abbrev pub invariant-loop-an : goal.invariant-loop-an
invariant-loop-an g l =
    Writes l.initial.paper l.paper (flat_map (tx_text (counters_of l.endpoint.tx)) (take l.an-index l.an-items))
