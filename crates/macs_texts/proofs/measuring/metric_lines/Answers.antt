use Rattle.std.proofs.Common.{◌∙◌, ℕ, List, ap}
use Rattle.macs_config.specs.Identity.{Identity}
use Rattle.macs_endpoint.specs.Reserved.{reserved_of}
use Rattle.macs_endpoint.specs.State.{no_logs}
use Rattle.macs_endpoint.specs.Value.{state_of}
use Rattle.macs_rxsc.specs.Value as rxsc
use Rattle.macs_txsc.specs.Value as txsc
use Rattle.macs_commands.specs.Papers.{written}
use Rattle.macs_texts.specs.Measuring.{metrics_of, own_label}
use Rattle.macs_texts.proofs.measuring.metric_lines.Goals as goal

pub returns : goal.returns
returns g c = c.metrics_of.ensures ∙ ap (λ (sci : List ℕ). written c.args.paper.now (metrics_of (own_label sci)
    c.args.build.now (state_of c.args.endpoint.now no_logs) (reserved_of c.args.endpoint.now)
    (txsc.counters_of c.args.endpoint.now.tx) (rxsc.counters_of c.args.endpoint.now.rx)
    (rxsc.channel_counters_of c.args.endpoint.now.rx) c.args.controlled.now c.args.common.now))
    (c.sci-own.ensures ∙ ap (λ (i : Identity). i.sci) c.identity.ensures)
