use Rattle.std.proofs.Common.{◌∙◌, ap, sym}
use Rattle.macs_config.specs.Config.{Config}
use Rattle.macs_config.specs.declared.command.Replay.{Replay}
use Rattle.macs_rxsc.specs.Value as rxsc
use Rattle.macs_endpoint.proofs.Following.{window-same}
use Rattle.macs_endpoint.proofs.channels.set_policy.Goals as goal

pub returns-clause-same_window : goal.returns-clause-same_window
returns-clause-same_window g c same =
    let window = ap (λ (r : Replay). r.window) c.replay-replay.ensures
    ∙ ap (λ (k : Config). k.replay.window) c.config.ensures.config in
    window-same (rxsc.rx_side_of c.args.rx.now) (rxsc.rx_side_of c.set_policy.new.self) (rxsc.ceilings_of c.args.rx.now)
    c.validate.result
    c.replay-replay.result c.facts.ensures.ordered c.set_policy.ensures.side (same ∙ sym window)
