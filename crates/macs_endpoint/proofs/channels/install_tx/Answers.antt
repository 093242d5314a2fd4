use Rattle.std.proofs.Common.{◌∙◌, is_some, ap}
use Rattle.macs_aes.specs.Keys.{octets_of_key}
use Rattle.macs_config.specs.Config.{Config}
use Rattle.macs_txsc.specs.Value as txsc
use Rattle.macs_endpoint.proofs.Following.{tx_made, with_tx}
use Rattle.macs_endpoint.proofs.channels.install_tx.Goals as goal

pub unwrap-sa-requires : goal.unwrap-sa-requires
unwrap-sa-requires g c =
    ap is_some (c.tx.ensures ∙ ap (λ (k : Config). k.tx c.args.an) c.config.ensures.config) ∙ c.requires.stands

pub returns-clause-side : goal.returns-clause-side
returns-clause-side g c =
    c.install.ensures.side
    ∙ ap (with_tx (txsc.tx_side_of c.args.tx.now) c.args.an c.args.next)
    (tx_made c.unwrap-sa.result (octets_of_key c.get-key.result) c.is_confidential.result c.offset.result c.tx.result _
    c.get-key.ensures c.is_confidential.ensures c.offset.ensures c.unwrap-sa.ensures
    (c.tx.ensures ∙ ap (λ (k : Config). k.tx c.args.an) c.config.ensures.config))
