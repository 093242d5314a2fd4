use Rattle.std.proofs.Common.{◌∙◌, ap}
use Rattle.macs_config.specs.Config.{Config}
use Rattle.macs_commands.specs.Papers.{written}
use Rattle.macs_texts.specs.Measuring.{keys_metric, own_label}
use Rattle.macs_texts.proofs.Adding.{and_then}
use Rattle.macs_texts.proofs.measuring.metrics_of.Goals as goal

pub returns : goal.returns
returns g c = and_then c.args.paper.now c.tx_metric.new.paper c.build_metric.new.paper _ _ c.tx_metric.ensures
    (and_then c.tx_metric.new.paper c.rx_metric.new.paper c.build_metric.new.paper _ _ c.rx_metric.ensures
    (and_then c.rx_metric.new.paper c.channel_metric.new.paper c.build_metric.new.paper _ _ c.channel_metric.ensures
    (and_then c.channel_metric.new.paper c.wires_metrics.new.paper c.build_metric.new.paper _ _ c.wires_metrics.ensures
    (and_then c.wires_metrics.new.paper c.left_metric.new.paper c.build_metric.new.paper _ _ c.left_metric.ensures
    (and_then c.left_metric.new.paper c.keys_metric.new.paper c.build_metric.new.paper _ _
    (c.keys_metric.ensures ∙ ap (λ (k : Config). written c.left_metric.new.paper (keys_metric (own_label c.args.own) k))
    c.config.ensures.config)
    (and_then c.keys_metric.new.paper c.reserved_metrics.new.paper c.build_metric.new.paper _ _
    c.reserved_metrics.ensures c.build_metric.ensures))))))
