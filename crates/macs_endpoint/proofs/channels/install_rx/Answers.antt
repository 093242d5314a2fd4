use Rattle.std.proofs.Common.{◌∙◌, is_some, ap}
use Rattle.macs_aes.specs.Keys.{octets_of_key}
use Rattle.macs_config.specs.Config.{Config}
use Rattle.macs_rxsc.specs.Value as rxsc
use Rattle.macs_endpoint.proofs.Following.{rx_made, with_rx}
use Rattle.macs_endpoint.proofs.channels.install_rx.Goals as goal

pub unwrap-sa-requires : goal.unwrap-sa-requires
unwrap-sa-requires g c =
    ap is_some (c.rx.ensures ∙ ap (λ (k : Config). k.rx c.args.sci c.args.an) c.config.ensures.config)
    ∙ c.requires.stands

pub returns-clause-side : goal.returns-clause-side
returns-clause-side g c =
    c.install.ensures.side
    ∙ ap (with_rx (rxsc.rx_side_of c.args.rx.now) c.args.sci c.args.an c.args.next)
    (rx_made c.unwrap-sa.result (octets_of_key c.get-key.result) c.rx.result _ c.get-key.ensures c.unwrap-sa.ensures
    (c.rx.ensures ∙ ap (λ (k : Config). k.rx c.args.sci c.args.an) c.config.ensures.config))
