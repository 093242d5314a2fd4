use Rattle.std.proofs.Common.{drop}
use Rattle.macs_rxsc.specs.Value.{channel_counters_of}
use Rattle.macs_texts.specs.Counting.{channel_line}
use Rattle.macs_texts.proofs.Adding.{WritesRest}
use Rattle.macs_texts.proofs.counting.channel_lines.Given as goal

abbrev pub invariant-loop-verdict : goal.invariant-loop-verdict
invariant-loop-verdict g l = WritesRest (channel_line (channel_counters_of l.endpoint.rx) l.fn.sci)
    l.verdict-items (drop l.verdict-index l.verdict-items) l.initial.paper l.paper
