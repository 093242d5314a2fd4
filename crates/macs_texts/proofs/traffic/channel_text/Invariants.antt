use Rattle.std.proofs.Common.{drop}
use Rattle.macs_rxsc.specs.Value.{channel_counters_of}
use Rattle.macs_texts.specs.TrafficTexts.{rx_text}
use Rattle.macs_texts.proofs.Adding.{WritesRest}
use Rattle.macs_texts.proofs.traffic.channel_text.Given as goal

abbrev pub invariant-loop-an : goal.invariant-loop-an
invariant-loop-an g l = WritesRest (rx_text (channel_counters_of l.endpoint.rx) l.sci)
    l.an-items (drop l.an-index l.an-items) l.initial.paper l.paper
