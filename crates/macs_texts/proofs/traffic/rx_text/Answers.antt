use Rattle.std.proofs.Common.{◌∙◌, Option, ap}
use Rattle.std.specs.Option.{option_map}
use Rattle.macs_frame.specs.Traffic.{traffic_under}
use Rattle.macs_frame.specs.declared.traffic.Traffic.{Traffic}
use Rattle.macs_rxsc.specs.Value.{channel_counters_of}
use Rattle.macs_rxsc.specs.declared.counters.ChannelCounters.{ChannelCounters}
use Rattle.macs_commands.specs.Papers.{written}
use Rattle.macs_texts.specs.TrafficTexts.{rx_text_of}
use Rattle.macs_texts.proofs.Adding.{and_then}
use Rattle.macs_texts.proofs.traffic.rx_text.Goals as goal

pub returns-in-Some : goal.returns-in-Some
returns-in-Some g c =
    and_then c.args.paper.now c.carried_line.new.paper c.carried_line-in-Some.new.paper _ _ c.carried_line.ensures
    c.carried_line-in-Some.ensures
    ∙ ap (λ (t : Option Traffic). written c.args.paper.now (rx_text_of c.args.sci c.args.an t)) c.in-Some.ensures
    ∙ ap (λ r. written c.args.paper.now (rx_text_of c.args.sci c.args.an
    (option_map (λ (k : ChannelCounters). traffic_under k.traffic c.args.an) (channel_counters_of r c.args.sci))))
    c.counters.ensures.rx
