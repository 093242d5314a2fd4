use Rattle.std.proofs.Common.{◌∙◌, List, ℕ, ap}
use Rattle.macs_commands.specs.Papers.{written}
use Rattle.macs_endpoint.specs.Reserved.{reserved_of}
use Rattle.macs_endpoint.specs.State.{no_logs}
use Rattle.macs_endpoint.specs.Value.{state_of}
use Rattle.macs_rxsc.specs.Value as rxsc
use Rattle.macs_txsc.specs.Value as txsc
use Rattle.macs_texts.specs.Counting.{reported}
use Rattle.macs_texts.specs.Measuring.{metrics_text}
use Rattle.macs_control.proofs.Reported.{of-both}
use Rattle.macs_control.proofs.desk.metrics.measured.Goals as goal

pub returns : goal.returns
returns g c = (
  c.dropped-first.result,
  c.dropped-first.ensures,
  c.metric_lines.ensures ∙ ap (λ (t : List ℕ). written c.args.paper.now t) (of-both
      (metrics_text c.args.build.now (state_of c.args.endpoint.now no_logs) (reserved_of c.args.endpoint.now)
      (txsc.counters_of c.args.endpoint.now.tx) (rxsc.counters_of c.args.endpoint.now.rx)
      (rxsc.channel_counters_of c.args.endpoint.now.rx))
      c.reported-controlled.result c.reported-common.result
      (reported c.args.controlled.now c.dropped-first.result.controlled)
      (reported c.args.common.now c.dropped-first.result.common) c.reported-controlled.ensures
      c.reported-common.ensures),
)
